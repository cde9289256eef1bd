-- What the calls on three slices cite: which part of a change each call's turn can hand back, and that what a read, a hold or a write decides with the lock looked up for it
-- is its plan.
use mathlib.Core.Path.{◌≡◌, refl, sym, ap, ◌∙◌}
use mathlib.Core.Bool.{Bool, true, not}
use mathlib.Core.Option.{Option, none, some}
use mathlib.Core.List.{List}
use Prim.Native.Nat.{ℕ, ◌<◌, ◌≤◌}
use lib.Dec.{T, eqb}
use lib.ListN.{length}
use Rattle.model.specs.Buffers.{Locks, Buffers, Limits, ours, free, log_in, target_in, lock_at}
use Rattle.model.specs.Plans.{table_fits, guard, seal_target, seal_plan, read_plan, hold_plan, write_plan, plan}
use Rattle.model.specs.Step.{session_of, TakesUnder, TakesRecord}
use Rattle.model.specs.Turns.{TurnEffect, leaves, turn_of, changed}
use Rattle.records.specs.declared.Session.{Session}
use Rattle.records.specs.declared.Lock.{Lock}
use Rattle.records.specs.declared.Call.{Call}
use Rattle.records.specs.declared.Call.TheVariants.{Advance}
use Rattle.records.specs.declared.Answer.TheVariants as say
use Rattle.records.specs.declared.SessionReply.{SessionReply}
use Rattle.records.specs.declared.Turn.{Turn}
use Rattle.records.specs.declared.Plan.{Plan}
use Rattle.records.specs.declared.Plan.TheVariants.{Refuse}
use Rattle.records.specs.declared.Change.{Change}
use Rattle.records.specs.declared.Change.TheVariants.{Keep}
use Rattle.locks.specs.Changes.{LockFor, drop_of, ChangeFits}
use Rattle.records.proofs.Tags.{tag}
use Rattle.refusals.specs.Pieces.{match_of, admission}
use Rattle.records.specs.declared.Refusal.{Refusal}
use Rattle.records.specs.Records.{refusal_number}
use Rattle.advance.specs.Pieces.{due_on, due_cell, due_plan}
use Rattle.targets.specs.declared.Next.{Next}
use Rattle.std.specs.Prelude.{Result}
use Rattle.advance.proofs.Agree.{advance_agree}
use Rattle.calls.proofs.Choices.{Choice, refuses, knows, enters, read_choice, hold_choice, write_choice, when_told}
use Rattle.turns.specs.InLogs.{in_logs}
use Rattle.refusals.specs.declared.Lengths as the
use Rattle.refusals.proofs.Admission.{Admitted, lengths_in, admitted, refused, refused_under}
use Rattle.turns.proofs.Guards.{guarded}
use Rattle.turns.proofs.InLogs.{kept_in}
use Rattle.session_log.proofs.Logs.{log_long}
use Rattle.turns.proofs.Whole.{plan_under, plan_in, can_change, takes_under, takes}

-- ---- the part of a change that a call's turn can be

module _ (n : ℕ) (log : List ℕ) (x : Session) (vs : List ℕ) where
  abbrev change_of : Plan → Change
  change_of p = (turn_of p vs log x).change

  behind : (P : Change → Type 0) → P Keep → (b : Bool) (p : Plan) → P (change_of p) → P (change_of (guard n log x b p))
  unfolding turn_of
  behind P k b p f = guarded (λ q. P (change_of q)) (λ r. k) n log x b p (λ t u. f)

  sealed : (o : Option ℕ) → drop_of (change_of (seal_target o)) ≡ change_of (seal_target o)
  unfolding turn_of drop_of seal_target
  sealed none = refl
  sealed (some c) = refl

  -- a seal's change is a sealing's, or none
  pub seal_drops : drop_of (change_of (seal_plan n log x)) ≡ change_of (seal_plan n log x)
  unfolding seal_plan
  seal_drops =
      behind (λ d. drop_of d ≡ d) (unfold drop_of in refl) (eqb x.phase 1) (seal_target (target_in log x.count 0)) (sealed (target_in log x.count 0))

-- ---- a change d of the locks L

module _ (d : Change) (log : List ℕ) (m s : ℕ) (L : Locks) where
  -- none
  pub no_change : d ≡ Keep → L ≡ changed d log m s L
  unfolding changed
  no_change e = rw e

-- ---- what is decided with the lock that was looked up is the plan

at_lock : {n : ℕ} {log : List ℕ} {x : Session} {l k : Lock} {c : ℕ} {known : ℕ → Plan} {new p q r : Plan} → Choice n log x l c known new p q
    → Choice n log x k c known new p r → ((a : ℕ) → T (not (eqb (tag new) (tag (Refuse a))))) → ((j : ℕ) → T (not (eqb (tag new) (tag (known j)))))
    → (p ≡ new → l ≡ k) → (l ≡ k → q ≡ r) → q ≡ r
at_lock (refuses a h i) B t u f g = i ∙ sym (when_told B (Refuse a) (t a) h)
at_lock {known = known} (knows j o h i) B t u f g = i ∙ sym (when_told B (known j) (u j) h)
at_lock (enters o m w h i) B t u f g = g (f h)

module _ (n : ℕ) (log : List ℕ) (x : Session) (c : ℕ) (L : Locks) (l : Lock) where
  pub read_planned : (p : Plan) → p ≡ read_plan n log x free c → LockFor p L l → read_plan n log x l c ≡ read_plan n log x (lock_at L c) c
  read_planned p e f =
      at_lock (read_choice n log x l c) (read_choice n log x (lock_at L c) c) (λ a. tt) (λ j. tt) (λ h. f.enters c (e ∙ h))
      (λ h. ap (λ (k : Lock). read_plan n log x k c) h)

  pub hold_planned : (p : Plan) → p ≡ hold_plan n log x free c → LockFor p L l → hold_plan n log x l c ≡ hold_plan n log x (lock_at L c) c
  hold_planned p e f =
      at_lock (hold_choice n log x l c) (hold_choice n log x (lock_at L c) c) (λ a. tt) (λ j. tt) (λ h. f.marks c (e ∙ h))
      (λ h. ap (λ (k : Lock). hold_plan n log x k c) h)

  pub write_planned : (T ks : List ℕ) (v : ℕ) (p : Plan) → p ≡ write_plan T ks n log x free c v → LockFor p L l
      → write_plan T ks n log x l c v ≡ write_plan T ks n log x (lock_at L c) c v
  write_planned T ks v p e f =
      at_lock (write_choice n log x l c T ks v) (write_choice n log x (lock_at L c) c T ks v) (λ a. tt) (λ j. tt) (λ h. f.updates c v (e ∙ h))
      (λ h. ap (λ (k : Lock). write_plan T ks n log x k c v) h)

-- and so is what an advance decides at the entry that is due
pub advance_planned : (n s : ℕ) (ks log : List ℕ) (x : Session) (L : Locks) (l : Lock) (d : Result Next Refusal) (c : ℕ) → d ≡ due_on n log x → c ≡ due_cell log d → l ≡ lock_at L c
    → due_plan s log x l d ≡ plan (Advance s) n ks ours log x (lock_at L)
advance_planned n s ks log x L l d c e f g = rw (g, f, e) (advance_agree n s ks ours log x (lock_at L))

-- ---- what the functions below ask, past 7 and 1

-- of as many cells as there are reader sets
pub even : (B : Buffers) (s : ℕ) → Admitted B s → (length B.locks.claimants ≡ length B.locks.readers) × (length B.locks.exclusives ≡ length B.locks.readers)
even B s z = (z.lengths.claimants ∙ sym z.lengths.readers, z.lengths.exclusives ∙ sym z.lengths.readers)

-- of the session's log W, and of n cells
pub log_fits : (B : Buffers) (s : ℕ) → Admitted B s → (W : List ℕ) → W ≡ log_in B.logs s → (length W ≡ 128) × (length B.values ≤ 1024)
log_fits B s z W w = (log_long B.logs s z.lengths.logs z.low W w, z.lengths.few)

-- ---- the call k: q is what it decided, t its turn, which left the values vs and the logs Ws

-- under the limits G
module _ (G : Limits) (k : Call) (B : Buffers) (x : Session) (s : ℕ) (i : s ≡ session_of k) (z : Admitted B s) (q : Plan) (e : q ≡ plan_under G k B (log_in B.logs s) x) (t : Turn)
    (vs Ws : List ℕ) (h : leaves t.answer vs Ws t.session t.change ≡ in_logs s B.logs (turn_of q B.values (log_in B.logs s) x)) (W : List ℕ) (w : W ≡ log_in Ws s) where
  -- W is the session's log afterwards: what carrying the change out asks
  pub can_carry_under : (s < 16) × ChangeFits t.change s W x.count (length B.locks.readers)
  can_carry_under = (z.low, rw z.lengths.readers (can_change G k B x s i z q e t.answer vs Ws t.session t.change h W w))

  -- and once it is carried out the call is the model's
  pub replies_under : table_fits k G ≡ true → (N : Locks) → N ≡ changed t.change W x.count s B.locks → (r : SessionReply) → r ≡ record { answer = t.answer; session = t.session }
      → TakesUnder G k B x r.answer (record { values = vs; classes = B.classes; locks = N; logs = Ws }) r.session
  replies_under f N n r g = rw g (takes_under G k B x s i z q e t.answer vs Ws t.session t.change h W w f N n)

-- of a call that is handed no table
module _ (k : Call) (B : Buffers) (x : Session) (s : ℕ) (i : s ≡ session_of k) (z : Admitted B s) (q : Plan) (e : q ≡ plan_in k B (log_in B.logs s) x) (t : Turn)
    (vs Ws : List ℕ) (h : leaves t.answer vs Ws t.session t.change ≡ in_logs s B.logs (turn_of q B.values (log_in B.logs s) x)) where
  -- its change is the plan's
  pub change_is : t.change ≡ (turn_of q B.values (log_in B.logs s) x).change
  change_is = ap (λ (f : TurnEffect). f.change) h

  module _ (W : List ℕ) (w : W ≡ log_in Ws s) where
    pub can_carry : (s < 16) × ChangeFits t.change s W x.count (length B.locks.readers)
    can_carry = can_carry_under ours k B x s i z q e t vs Ws h W w

    pub replies : (N : Locks) → N ≡ changed t.change W x.count s B.locks → (r : SessionReply) → r ≡ record { answer = t.answer; session = t.session }
        → TakesRecord k B x r.answer (record { values = vs; classes = B.classes; locks = N; logs = Ws }) r.session
    replies N n r f = rw f (takes k B x s i z q e t.answer vs Ws t.session t.change h W w N n)

-- the same where it only read the session's log W
module _ (k : Call) (B : Buffers) (x : Session) (s : ℕ) (i : s ≡ session_of k) (z : Admitted B s) (W : List ℕ) (w : W ≡ log_in B.logs s) (q : Plan) (e : q ≡ plan_in k B W x)
    (t : Turn) (vs : List ℕ) (h : leaves t.answer vs W t.session t.change ≡ turn_of q B.values W x) where
  in_logs_lem : leaves t.answer vs B.logs t.session t.change ≡ in_logs s B.logs (turn_of q B.values (log_in B.logs s) x)
  in_logs_lem = kept_in s B.logs t.answer vs t.session t.change q B.values x W w h

  decided : q ≡ plan_in k B (log_in B.logs s) x
  decided = e ∙ ap (λ (l : List ℕ). plan_in k B l x) w

  pub kept_change : t.change ≡ (turn_of q B.values W x).change
  kept_change = ap (λ (f : TurnEffect). f.change) h

  pub kept_carry : (s < 16) × ChangeFits t.change s W x.count (length B.locks.readers)
  kept_carry = can_carry k B x s i z q decided t vs B.logs in_logs_lem W w

  pub kept_replies : (N : Locks) → N ≡ changed t.change W x.count s B.locks → (r : SessionReply) → r ≡ record { answer = t.answer; session = t.session }
      → TakesRecord k B x r.answer (record { values = vs; classes = B.classes; locks = N; logs = B.logs }) r.session
  kept_replies = replies k B x s i z q decided t vs B.logs in_logs_lem W w

-- ---- admitted, or refused by 7 or 1 with the record as it came

module _ (B : Buffers) (s : ℕ) (l : the.Lengths) (f : l ≡ lengths_in B) where
  pub admitted_by : 0 ≡ admission (match_of l) s → Admitted B s
  admitted_by e = admitted B s (rw f at e)

  module _ (r : Refusal) (e : refusal_number r ≡ admission (match_of l) s) (k : Call) (i : s ≡ session_of k) (x : Session) (y : SessionReply) (o : y ≡ record { answer = say.Refused (refusal_number r); session = x }) where
    pub turned_down : TakesRecord k B x y.answer B y.session
    turned_down = rw o (refused B s r (rw f at e) k i x)

    pub turned_down_under : (G : Limits) → table_fits k G ≡ true → TakesUnder G k B x y.answer B y.session
    turned_down_under G t = rw o (refused_under B s r (rw f at e) k i G t x)
