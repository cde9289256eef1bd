-- A hold is a read, after which the cell's entry is held: `HoldsAsRead` of model/specs/HoldAsRead.antt. Both pass the same tests; past them each plan of the one adds a mark to
-- that of the other.
use Prim.Native.Nat.{ℕ, ◌<◌}
use mathlib.Core.Path.{◌≡◌, refl, ◌∙◌}
use mathlib.Core.Bool.{false}
use mathlib.Core.Option.{none, some}
use mathlib.Core.List.{List}
use lib.Dec.{ltb, eqb}
use lib.ListN.{length, get_or}
use borrow.Author.Tests.{ltb-true}
use Rattle.records.specs.declared.Lock.{Lock}
use Rattle.records.specs.declared.Plan.{Plan}
use Rattle.records.specs.declared.Plan.TheVariants.{Refuse, Tell, Enter, Mark, EnterMark, RollBack}
use Rattle.records.specs.declared.Session.{Session}
use Rattle.model.specs.Buffers.{Store, size, lengths_fit, with_entry, entry_at, slot_in, appended, lock_at}
use Rattle.model.specs.Effects.{record_of, log_of, entered, answer, after}
use Rattle.model.specs.HoldAsRead.{and_held, HoldsAsRead}
use Rattle.model.specs.Plans.{record_fits, guard, known, claimed, new_cell, read_slot, hold_slot, admit, plan}
use Rattle.model.specs.Step.{outcome, effect, plan_of, step, answer_of}
use Rattle.model.proofs.Caps.{logs_long}
use Rattle.model.proofs.Carried.{length-appended}
use Rattle.model.proofs.Laws.{log_length, log_same, grown_find, session_same}
use Rattle.model.proofs.Passing.{choose}
use Rattle.model.proofs.Tools.{test}

module _ (s c : ℕ) (σ : Store) where
  abbrev log : List ℕ
  log = log_of σ s

  abbrev x : Session
  x = record_of σ s

  abbrev l : Lock
  l = lock_at σ.lent.locks c

  -- one plan does what another does, and the entry is held where that was 101
  abbrev Adds : Plan → Plan → Type 0
  Adds p q = outcome (answer s p σ) (after s p σ) ≡ and_held s c (outcome (answer s q σ) (after s q σ))

  refused : (k : ℕ) → eqb k 101 ≡ false → Adds (Refuse k) (Refuse k)
  unfolding and_held answer after
  refused k e = rw e

  rolled_back_lem : Adds RollBack RollBack
  unfolding and_held answer after
  rolled_back_lem = refl

  -- the same tests before
  tested : (p q : Plan) → (length σ.lent.logs ≡ 2048 → s < 16 → Adds p q) → let F : Plan → Plan = λ p. admit σ.lent s (guard (size σ.lent) log x (eqb x.phase 1) (known (size σ.lent) c p)) in
      Adds (F p) (F q)
  unfolding guard known
  tested p q f =
      test (lengths_fit σ.lent)
      (λ a. rw a (test (ltb s 16)
      (λ b. rw b (test (record_fits (size σ.lent) log x)
      (λ d. rw d (test (eqb x.phase 1)
      (λ e. rw e (test (ltb c (size σ.lent)) (λ g. rw g (f (logs_long σ.lent a) (ltb-true s 16 b))) (λ g. rw g (refused 3 refl))))
      (λ e. rw e (refused 2 refl))))
      (λ d. rw d (refused 9 refl))))
      (λ b. rw b (refused 1 refl))))
      (λ a. rw a (refused 7 refl))

  -- a cell in the log
  of_known : (k : ℕ) → slot_in log x.count c ≡ some k → Adds (Mark k (entry_at log k).current) (Tell (entry_at log k).current)
  unfolding and_held answer after
  of_known k h = rw h

  -- a new one: its entry is the last
  module _ (records : length σ.sessions.records ≡ 16) (len : length σ.lent.logs ≡ 2048) (lt : s < 16) (new : slot_in log x.count c ≡ none) where
    last_entry : x.count < 32 → slot_in (log_of (entered s c σ) s) (record_of (entered s c σ) s).count c ≡ some x.count
    unfolding slot_in appended
    last_entry room =
        let v = get_or σ.lent.values c 0 in
        let whole = log_length σ.lent.logs s lt len in
        rw (session_same σ.sessions s (with_entry x) records lt, log_same s σ.lent.logs lt len (λ log. appended log x.count c v) (length-appended log x.count c v ∙ whole))
        (grown_find log x.count c v room whole new)

    both_enter : x.count < 32 → Adds (EnterMark c) (Enter c)
    unfolding and_held answer after
    both_enter room = rw (last_entry room)

    of_new : Adds (new_cell x l (EnterMark c)) (new_cell x l (Enter c))
    unfolding new_cell
    of_new =
        test (ltb x.count 32) (λ a. rw a (test (claimed l) (λ b. rw b rolled_back_lem) (λ b. rw b (both_enter (ltb-true x.count 32 a))))) (λ a. rw a (refused 5 refl))

  pub as_read : length σ.sessions.records ≡ 16 → HoldsAsRead s c σ
  unfolding effect answer_of step plan_of plan hold_slot read_slot
  as_read records =
      let held = hold_slot log x l c in
      let read = read_slot log x l c in
      let o = slot_in log x.count c in
      tested (held o) (read o) (λ len lt. choose (λ (e : Plan × Plan). Adds e.0 e.1) (λ o. (held o, read o)) o (of_new records len lt) of_known)
