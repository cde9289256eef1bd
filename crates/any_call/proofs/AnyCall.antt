-- Any call decides with the lock of one cell what it decides with all locks.
use mathlib.Core.Path.{◌≡◌, refl, sym, ap, ◌∙◌}
use mathlib.Core.List.{List}
use Prim.Native.Nat.{ℕ}
use Rattle.model.specs.Buffers.{ours}
use Rattle.model.specs.Plans.{plan}
use Rattle.model.specs.Turns.{TurnEffect, turn_of}
use Rattle.records.specs.declared.Session.{Session}
use Rattle.records.specs.declared.Lock.{Lock}
use Rattle.records.specs.declared.Call.{Call}
use Rattle.records.specs.declared.Call.TheVariants.{Begin, Read, Write, Seal, Advance, Abandon, Peek, Hold}
use Rattle.advance.specs.Pieces.{due_on, due_plan}
use Rattle.targets.specs.declared.Next.{Next}
use Rattle.records.specs.declared.Refusal.{Refusal}
use Rattle.std.specs.Prelude.{Result}
use Rattle.advance.proofs.Agree.{advance_agree}
use Rattle.any_call.specs.AnyCall.{cell_for, plan_with}

-- a plan reads the lock of one cell
pub one_lock : (k : Call) (n : ℕ) (ks log : List ℕ) (x : Session) (f : ℕ → Lock) → plan_with k n ks log x (f (cell_for k n log x)) ≡ plan k n ks ours log x f
unfolding plan cell_for
one_lock (Begin s) n ks log x f = refl
one_lock (Read s c) n ks log x f = refl
one_lock (Write s c v) n ks log x f = refl
one_lock (Seal s) n ks log x f = refl
one_lock (Advance s) n ks log x f = sym (advance_agree n s ks ours log x (λ c. f (cell_for (Advance s) n log x))) ∙ advance_agree n s ks ours log x f
one_lock (Abandon s) n ks log x f = refl
one_lock (Peek s c) n ks log x f = refl
one_lock (Hold s c) n ks log x f = refl

-- an advance decides by that of the entry that is due
pub advances : (n s : ℕ) (vs ks log : List ℕ) (x : Session) (l : Lock) (d : Result Next Refusal) → d ≡ due_on n log x → {t : TurnEffect} → t ≡ turn_of (due_plan s log x l d) vs log x
    → t ≡ turn_of (plan_with (Advance s) n ks log x l) vs log x
advances n s vs ks log x l d e h = rw e at h ∙ ap (λ p. turn_of p vs log x) (advance_agree n s ks ours log x (λ c. l))
