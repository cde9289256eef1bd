-- Laws of the tests, and one law for each way through them.
use mathlib.Core.Path.{◌≡◌, refl, sym, ap, ◌∙◌}
use mathlib.Core.Bool.{Bool, true, false, cond}
use mathlib.Core.List.{List}
use Prim.Native.Nat.{ℕ, ◌+◌, ◌*◌, ◌<◌, ◌≤◌}
use native.Mathlib.Omega.{arith}
use borrow.Author.Tests.{le-ltb, lt-leb, le-leb, eq-eqb, ne_eqb, eqb-true}
use lib.Dec.{eqb}
use lib.ListN.{length}
use Rattle.model.specs.Search.{some?, below}
use Rattle.model.specs.Buffers.{cell_at, target_in}
use Rattle.model.specs.Plans.{known, entries_fit, record_fits, guard}
use Rattle.records.specs.declared.Session.{Session}
use Rattle.records.specs.declared.Refusal.{Refusal}
use Rattle.records.specs.Records.{refusal_number}
use Rattle.records.proofs.Refusals.{nonzero}
use Rattle.records.specs.declared.Plan.{Plan}
use Rattle.records.specs.declared.Plan.TheVariants.{Refuse, Start}
use Rattle.model.proofs.Passing.{Entries, entries_of, record_entries}
use Rattle.model.proofs.Tools.{test, and-false}
use Rattle.refusals.specs.Pieces.{tested}

-- ---- the tests

-- what a test of 0 says: the record fits, and the call its phase
pub passes : (whole fit : Bool) → tested whole fit ≡ 0 → (whole ≡ true) × (fit ≡ true)
unfolding tested
passes true true h = (refl, refl)
passes true false h = absurd (omega arith)
passes false true h = absurd (omega arith)
passes false false h = absurd (omega arith)

-- any other number is the plan's refusal, whatever the plan
pub turned : (whole fit : Bool) (r : ℕ) (p : Plan) → r ≡ tested whole fit → (r ≡ 0 → ⊥) → Refuse r ≡ cond whole (cond fit p (Refuse 2)) (Refuse 9)
unfolding tested
turned true true r p e h = absurd (h e)
turned true false r p e h = ap Refuse e
turned false true r p e h = ap Refuse e
turned false false r p e h = ap Refuse e

module _ (n : ℕ) (log : List ℕ) (x : Session) where
  pub entries_idle : x.phase ≡ 0 → true ≡ entries_fit n log x
  unfolding entries_fit
  entries_idle e = simp (eq-eqb x.phase 0 e, le-leb x.phase 4 (omega arith))

  pub entries_phase : 4 < x.phase → false ≡ entries_fit n log x
  unfolding entries_fit
  entries_phase h = simp (lt-leb x.phase 4 h)

  pub entries_many : (x.phase ≡ 0 → ⊥) → 32 < x.count → false ≡ entries_fit n log x
  unfolding entries_fit
  entries_many ne h = simp (ne_eqb x.phase 0 ne, lt-leb x.count 32 h, and-false)

  pub entries_cells : (x.phase ≡ 0 → ⊥) → x.phase ≤ 4 → x.count ≤ 32 → (b : Bool) → b ≡ below n (cell_at log) x.count → b ≡ entries_fit n log x
  unfolding entries_fit
  entries_cells ne p h b e = simp (ne_eqb x.phase 0 ne, le-leb x.phase 4 p, le-leb x.count 32 h, e)

  -- b is what the test of the entries answered
  module _ (b : Bool) (e : b ≡ entries_fit n log x) where
    pub record_odd : b ≡ false → false ≡ record_fits n log x
    unfolding record_fits
    record_odd h = simp (sym e ∙ h)

    module _ (h : b ≡ true) where
      pub record_early : x.phase < 2 → true ≡ record_fits n log x
      unfolding record_fits
      record_early l = simp (sym e ∙ h, le-leb x.phase 1 (omega arith))

      module _ (l : 2 ≤ x.phase) where
        pub listed : Entries n log x
        listed = entries_of n log x (sym e ∙ h) (omega arith)

        pub record_late : (w : Bool) → w ≡ some? (target_in log x.count x.next) → w ≡ record_fits n log x
        unfolding record_fits
        record_late w t = simp (sym e ∙ h, lt-leb x.phase 1 l) t

  -- the tests of a call of a running session, in their order
  module _ (h : x.phase ≡ 1) where
    odd : false ≡ entries_fit n log x → 9 ≡ tested (record_fits n log x) (eqb x.phase 1)
    unfolding tested
    odd e = rw (sym (record_odd false e refl))

    pub runs_many : 32 < x.count → 9 ≡ tested (record_fits n log x) (eqb x.phase 1)
    runs_many i = odd (entries_many (omega arith) i)

    -- b is whether each entry's cell is one that there is
    module _ (i : x.count ≤ 32) (b : Bool) (e : b ≡ below n (cell_at log) x.count) where
      pub runs_past : b ≡ false → 9 ≡ tested (record_fits n log x) (eqb x.phase 1)
      runs_past z = odd (sym z ∙ entries_cells (omega arith) (omega arith) i b e)

      pub runs_whole : b ≡ true → 0 ≡ tested (record_fits n log x) (eqb x.phase 1)
      unfolding tested
      runs_whole z =
          let f = entries_cells (omega arith) (omega arith) i b e in
          rw (sym (record_early b f z (omega arith)), eq-eqb x.phase 1 h)

  -- another number of theirs than 0 is the plan's refusal
  pub run_refused : (r : Refusal) → refusal_number r ≡ tested (record_fits n log x) (eqb x.phase 1) → (p : Plan)
      → Refuse (refusal_number r) ≡ guard n log x (eqb x.phase 1) p
  unfolding guard
  run_refused r o p = turned _ _ (refusal_number r) p o (nonzero r)

  -- begin: in phase 0 the record fits, in any other the number is that of the plan
  pub begin_starts : x.phase ≡ 0 → Start ≡ guard n log x (eqb x.phase 0) Start
  unfolding guard
  begin_starts h = rw (sym (record_early true (entries_idle h) refl (omega arith)), eq-eqb x.phase 0 h)

  pub begin_refused : (x.phase ≡ 0 → ⊥) → (r : ℕ) → r ≡ tested (record_fits n log x) false → Refuse r ≡ guard n log x (eqb x.phase 0) Start
  unfolding guard tested
  begin_refused h r e = rw (ne_eqb x.phase 0 h, e) (test (record_fits n log x) (λ w. rw w) (λ w. rw w))

  -- abandon, by the number that the tests answered
  module _ (fit : Bool) (p : Plan) where
    pub guard_passes : 0 ≡ tested (record_fits n log x) fit → p ≡ guard n log x fit p
    unfolding guard
    guard_passes z = let w = passes (record_fits n log x) fit (sym z) in rw (w.0, w.1)

    pub guard_refuses : (r : Refusal) → refusal_number r ≡ tested (record_fits n log x) fit → Refuse (refusal_number r) ≡ guard n log x fit p
    unfolding guard
    guard_refuses r e = turned (record_fits n log x) fit (refusal_number r) p e (nonzero r)

  -- a running session, whose tests pass
  module _ (z : 0 ≡ tested (record_fits n log x) (eqb x.phase 1)) where
    pub whole : record_fits n log x ≡ true
    whole = (passes _ _ (sym z)).0

    pub in_phase_1 : eqb x.phase 1 ≡ true
    in_phase_1 = (passes (record_fits n log x) _ (sym z)).1

    pub few : x.count ≤ 32
    few = let one = eqb-true x.phase 1 in_phase_1 in (record_entries n log x whole (omega arith)).count

    -- entries lie in the log
    pub room : length log ≡ 128 → 4 * x.count ≤ length log
    room h = let w = few in omega arith

    pub inside : length log ≡ 128 → (k : ℕ) → k < x.count → 4 * k + 3 < length log
    inside h k i = let w = few in omega arith

    -- a cell that there is not, of a call that takes one
    pub outside : (c : ℕ) (p : Plan) → n ≤ c → Refuse 3 ≡ guard n log x (eqb x.phase 1) (known n c p)
    unfolding guard known
    outside c p h = simp (whole, in_phase_1, le-ltb c n h)
