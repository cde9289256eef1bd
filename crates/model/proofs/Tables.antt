-- A call that is handed no table goes by ours where it is a write, and by none where it is another: what it decides is what it would by any limits that it goes by.
use Prim.Native.Nat.{ℕ}
use mathlib.Core.Path.{◌≡◌, refl, ap, sym, ◌∙◌}
use mathlib.Core.Bool.{true, false}
use mathlib.Core.List.{List}
use lib.ListN.{length}
use borrow.Author.Tests.{eq-eqb, ne_eqb}
use Rattle.records.specs.declared.Session.{Session}
use Rattle.records.specs.declared.Lock.{Lock}
use Rattle.records.specs.declared.Call.{Call}
use Rattle.records.specs.declared.Call.TheVariants.{Begin, Read, Write, Seal, Advance, Abandon, Peek, Hold}
use Rattle.model.specs.Buffers.{Limits, ours, our_caps, has_caps, passes, rise_from}
use Rattle.model.specs.Plans.{plan, write_plan, table_fits}
use Rattle.model.specs.Step.{GoesBy}

-- a table's length, as a test
pub has_caps_lem : (T : List ℕ) → length T ≡ 16 → has_caps T ≡ true
unfolding has_caps
has_caps_lem T e = eq-eqb (length T) 16 e

pub has_not : (T : List ℕ) → (length T ≡ 16 → ⊥) → has_caps T ≡ false
unfolding has_caps
has_not T n = ne_eqb (length T) 16 n

-- ours has 16 caps, and passes
pub ours_fit : has_caps our_caps ≡ true
unfolding has_caps our_caps
ours_fit = refl

pub ours_pass : passes our_caps ≡ true
unfolding passes rise_from our_caps
ours_pass = refl

pub goes_by_ours : (k : Call) → GoesBy k ours
goes_by_ours (Begin s) = tt
goes_by_ours (Read s c) = tt
goes_by_ours (Write s c v) = refl
goes_by_ours (Seal s) = tt
goes_by_ours (Advance s) = tt
goes_by_ours (Abandon s) = tt
goes_by_ours (Peek s c) = tt
goes_by_ours (Hold s c) = tt

pub goes_fits : (k : Call) (G : Limits) → GoesBy k G → table_fits k G ≡ true
goes_fits (Begin s) G g = refl
goes_fits (Read s c) G g = refl
goes_fits (Write s c v) G g = ap has_caps g ∙ ours_fit
goes_fits (Seal s) G g = refl
goes_fits (Advance s) G g = refl
goes_fits (Abandon s) G g = refl
goes_fits (Peek s c) G g = refl
goes_fits (Hold s c) G g = refl

pub goes_plan : (k : Call) (G : Limits) → GoesBy k G → (n : ℕ) (ks log : List ℕ) (x : Session) (lock : ℕ → Lock)
    → plan k n ks ours log x lock ≡ plan k n ks G log x lock
unfolding plan
goes_plan (Begin s) G g n ks log x lock = refl
goes_plan (Read s c) G g n ks log x lock = refl
goes_plan (Write s c v) G g n ks log x lock = ap (λ (T : List ℕ). write_plan T ks n log x (lock c) c v) (sym g)
goes_plan (Seal s) G g n ks log x lock = refl
goes_plan (Advance s) G g n ks log x lock = refl
goes_plan (Abandon s) G g n ks log x lock = refl
goes_plan (Peek s c) G g n ks log x lock = refl
goes_plan (Hold s c) G g n ks log x lock = refl
