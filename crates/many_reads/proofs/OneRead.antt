-- One read of a running session, past the tests of 7, 1, 9 and 2, is the model's: of every store that differs from the first in what such reads change.
use Prim.Native.Nat.{ℕ, suc, ◌<◌}
use native.Mathlib.Omega.{arith}
use mathlib.Core.Path.{◌≡◌, refl, sym, ap, ◌∙◌}
use mathlib.Core.Bool.{true, false, cond}
use mathlib.Core.List.{List}
use borrow.Author.Tests.{lt-ltb, le-leb, ltb-true}
use lib.Dec.{ltb, eqb}
use lib.ListN.{length, get_or, set}
use lib.Seq.{get_or-set_same, set-set}
use Rattle.model.specs.Buffers.{Limits, Locks, Buffers, Store, size, idle, session_at, with_session, log_in, on_log, slot_in, appended, lock_at, on_lock, join, lengths_fit}
use Rattle.model.specs.Effects.{number, value_of, answer, after, rolled_back}
use Rattle.model.specs.Plans.{record_fits, entries_fit, guard, known, claimed, new_cell, read_slot, read_plan, plan}
use Rattle.model.specs.Readers.{with_reader}
use Rattle.model.specs.Step.{plan_of, step, answer_of}
use Rattle.records.specs.declared.Session.{Session}
use Rattle.records.specs.declared.Sessions.{Sessions}
use Rattle.records.specs.declared.Lock.{Lock}
use Rattle.records.specs.declared.Call.TheVariants.{Read}
use Rattle.records.specs.declared.Plan.{Plan}
use Rattle.records.specs.declared.Plan.TheVariants.{Refuse, Tell, Enter, RollBack}
use Rattle.model.proofs.Carried.{over}
use Rattle.model.proofs.Laws.{log_same, length-on}
use Rattle.model.proofs.Tools.{test, which}
use Rattle.contracts.specs.Lent.{locks_of}
use Rattle.locks.proofs.Changes.{join_stored}
use Rattle.sweeps.proofs.Sweeps.{lock_here}
use Rattle.refusals.proofs.Admission.{Admitted}
use Rattle.cell_reads.specs.Cells.{Fits, CellRead, cell_read, new_read, slot_read, read_cell}

-- the lent buffers B, which fit, any limits, and sixteen records; the running session s has this next cell
module _ (B : Buffers) (s : ℕ) (z : Admitted B s) (G : Limits) (ss : Sessions) (next : ℕ) (here : s < length ss.records) where
  abbrev pub ran : ℕ → Session
  ran k = record { phase = 1; count = k; next = next }

  -- with the reader sets R, the session's log W and k entries in it
  abbrev pub lent_with : Locks → List ℕ → Buffers
  lent_with L W = record { values = B.values; classes = B.classes; locks = L; logs = on_log s (λ log. W) B.logs }

  abbrev pub locks_with : List ℕ → Locks
  locks_with R = locks_of R B.locks.claimants B.locks.exclusives

  abbrev pub store_with : List ℕ → List ℕ → ℕ → Store
  store_with R W k = record { lent = lent_with (locks_with R) W; limits = G; sessions = with_session ss s (ran k) }

  -- and rolled back from there
  abbrev pub rolled_with : List ℕ → List ℕ → ℕ → Store
  rolled_with R W k = record { lent = lent_with (rolled_back W k s (locks_with R)) W; limits = G; sessions = with_session ss s idle }

  module _ (R W : List ℕ) (k : ℕ) (f : Fits s (length B.values) (length R) (length B.locks.claimants) W k) where
    abbrev σ : Store
    σ = store_with R W k

    fit : lengths_fit (lent_with (locks_with R) W) ≡ true
    unfolding lengths_fit size
    fit = rw (length-on s B.logs z.low z.lengths.logs (λ log. W) f.words, f.readers) (rw z.lengths.readers at z.fit)

    record_is : session_at (with_session ss s (ran k)) s ≡ ran k
    unfolding session_at with_session
    record_is = get_or-set_same ss.records s (ran k) idle here

    log_is : log_in (on_log s (λ log. W) B.logs) s ≡ W
    log_is = log_same s B.logs z.low z.lengths.logs (λ log. W) f.words

    record_fits_lem : record_fits (length B.values) W (ran k) ≡ true
    unfolding record_fits entries_fit
    record_fits_lem = rw (le-leb k 32 f.count, f.cells)

    -- what it decides past the tests
    abbrev decides : ℕ → Plan
    decides c = known (length B.values) c (read_slot W (ran k) (lock_at (locks_with R) c) c (slot_in W k c))

    plan_is : (c : ℕ) → plan_of (Read s c) (store_with R W k) ≡ decides c
    unfolding plan_of plan read_plan guard size
    plan_is c = rw (fit, lt-ltb s 16 z.low, record_is, log_is, record_fits_lem)

    -- ---- the ways through

    -- what a read comes to: its number, its value and the store that it leaves
    abbrev pub ReadIs : ℕ → CellRead → Type 0
    ReadIs c o =
        (number (answer_of (Read s c) (store_with R W k)) ≡ o.number) × (value_of (answer_of (Read s c) (store_with R W k)) ≡ o.value)
        × (step (Read s c) (store_with R W k) ≡ cond (eqb o.number 6) (rolled_with o.readers o.log o.entries) (store_with o.readers o.log o.entries))

    refuses : (c r : ℕ) → decides c ≡ Refuse r → eqb r 6 ≡ false → ReadIs c (cell_read r 0 R W k)
    unfolding answer_of step answer after
    refuses c r e n = rw (plan_is c, e, n) (refl, refl, refl)

    told_value : (c v : ℕ) → decides c ≡ Tell v → ReadIs c (cell_read 101 v R W k)
    unfolding answer_of step answer after
    told_value c v e = rw (plan_is c, e) (refl, refl, refl)

    -- the records, with the session's put a second time
    twice : (y : Session) → with_session (with_session ss s (ran k)) s y ≡ with_session ss s y
    unfolding with_session
    twice y = rw set-set

    rolls : (c : ℕ) → decides c ≡ RollBack → ReadIs c (cell_read 6 0 R W k)
    unfolding answer_of step answer after
    rolls c e = rw (plan_is c, e) (refl, refl, rw (record_is, log_is, twice idle))

    joined : (c : ℕ) → on_lock c (join s) (locks_with R) ≡ locks_with (set R c (with_reader s (get_or R c 0)))
    joined c = sym (join_stored s R B.locks.claimants B.locks.exclusives c)

    entered : (c v : ℕ) → on_log s (λ log. appended log k c v) (on_log s (λ log. W) B.logs) ≡ on_log s (λ log. appended W k c v) B.logs
    entered c v = sym (over s (record { lent = B; limits = G; sessions = ss }) z.low z.lengths.logs (λ log. W) (λ log. appended log k c v) f.words)

    enters : (c : ℕ) → decides c ≡ Enter c
        → ReadIs c (cell_read 101 (get_or B.values c 0) (set R c (with_reader s (get_or R c 0))) (appended W k c (get_or B.values c 0)) (suc k))
    unfolding answer_of step answer after
    enters c e = rw (plan_is c, e) (refl, refl, rw (record_is, joined c, twice (ran (suc k)), entered c (get_or B.values c 0)))

    -- ---- every read

    new : (c : ℕ) → c < length B.values → decides c ≡ new_cell (ran k) (lock_at (locks_with R) c) (Enter c)
        → ReadIs c (new_read B.values B.locks.claimants s R W k c)
    unfolding new_read new_cell claimed
    new c l q =
        let h : get_or B.locks.claimants c 0 ≡ (lock_at (locks_with R) c).claimant = ap (λ (y : Lock). y.claimant)
        (lock_here R B.locks.claimants B.locks.exclusives c (f.claimants ∙ sym f.readers) (z.lengths.exclusives ∙ sym f.readers) (let e = f.readers in omega arith)) in
        test (ltb k 32)
        (λ a.
        test (eqb (get_or B.locks.claimants c 0) 16)
        (λ b. rw (a, b) (enters c (q ∙ rw (a, ← h, b))))
        (λ b. rw (a, b) (rolls c (q ∙ rw (a, ← h, b)))))
        (λ a. rw a (refuses c 5 (q ∙ rw a) refl))

    pub read_is : (c : ℕ) → ReadIs c (read_cell B.values B.locks.claimants s R W k c)
    unfolding read_cell slot_read
    read_is c =
        test (ltb c (length B.values))
        (λ i.
        let q : decides c ≡ read_slot W (ran k) (lock_at (locks_with R) c) c (slot_in W k c) = unfold known in rw i in
        which (slot_in W k c)
        (λ p. rw (i, p) (new c (ltb-true c (length B.values) i) (q ∙ (unfold read_slot in rw p))))
        (λ j p. rw (i, p) (told_value c _ (q ∙ (unfold read_slot in rw p)))))
        (λ i. rw i (refuses c 3 (unfold known in rw i) refl))
