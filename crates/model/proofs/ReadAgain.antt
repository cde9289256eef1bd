-- A cell read again (document 02, Paper 1): after a read answered 101 another of the same cell is answered the same, and enters nothing. By the plan: the first
-- left the cell in the log, and nothing that turns a read down.
use Prim.Native.Nat.{ℕ, suc, ◌<◌}
use native.Mathlib.Omega.{arith}
use mathlib.Core.Path.{◌≡◌, refl, sym, ◌∙◌, ap}
use mathlib.Core.Bool.{true}
use mathlib.Core.Option.{none, some}
use mathlib.Core.List.{List}
use lib.Dec.{ltb, eqb}
use lib.ListN.{length, get_or, length-set}
use borrow.Author.Tests.{eqb-true, le-leb, lt-ltb, ltb-true}
use Rattle.records.specs.declared.Session.{Session}
use Rattle.records.specs.declared.Call.TheVariants.{Read}
use Rattle.records.specs.declared.Answer.TheVariants.{Value}
use Rattle.records.specs.declared.Plan.{Plan}
use Rattle.records.specs.declared.Plan.TheVariants.{Tell, Enter}
use Rattle.model.specs.Buffers.{Store, size, with_entry, cell_at, entry_at, slot_in, appended, lock_at, set_lock, on_lock, join, lengths_fit}
use Rattle.model.specs.Effects.{number, record_of, log_of, answer, after}
use Rattle.model.specs.Plans.{entries_fit, record_fits, guard, known, new_cell, read_slot, plan}
use Rattle.model.specs.Search.{below}
use Rattle.model.specs.Step.{plan_of, step, answer_of}
use Rattle.model.proofs.Carried.{length-appended}
use Rattle.model.proofs.Caps.{logs_long}
use Rattle.model.proofs.Laws.{log_length, log_same, length-on, grown_word, appended_below, grown_find, session_same}
use Rattle.model.proofs.Passing.{guarded, cell_known, cell_new, record_entries}
use Rattle.model.proofs.Tools.{test, which}

module _ (s c : ℕ) where
  -- what a read answered 101 has passed
  record Passed (σ : Store) : Type 0 where
    lengths : lengths_fit σ.lent ≡ true
    low : ltb s 16 ≡ true
    fits : record_fits (size σ.lent) (log_of σ s) (record_of σ s) ≡ true
    runs : eqb (record_of σ s).phase 1 ≡ true
    cell : ltb c (size σ.lent) ≡ true

  abbrev behind : Store → Plan
  behind σ = read_slot (log_of σ s) (record_of σ s) (lock_at σ.lent.locks c) c (slot_in (log_of σ s) (record_of σ s).count c)

  passed : (σ : Store) → number (answer_of (Read s c) σ) ≡ 101 → Passed σ
  unfolding answer_of plan_of plan answer guard
  passed σ h =
      let n = size σ.lent in
      test (lengths_fit σ.lent)
      (λ a.
      guarded (λ p. number (answer s p σ) ≡ 101 → Passed σ) σ.lent s (record_of σ s) (eqb (record_of σ s).phase 1) (known n c (behind σ))
      (λ e. absurd (omega arith)) (λ e. absurd (omega arith)) (λ e. absurd (omega arith)) (λ e. absurd (omega arith))
      (λ lt k r. cell_known (λ p. number (answer s p σ) ≡ 101 → Passed σ) n c (behind σ) (λ e. absurd (omega arith))
      (λ l _. record { lengths = a; low = lt-ltb s 16 lt; fits = k; runs = r; cell = lt-ltb c n l })) h)
      (λ a. absurd (let e : 7 ≡ 101 = rw a at h in omega arith))

  plan_is : (σ : Store) → Passed σ → plan_of (Read s c) σ ≡ behind σ
  unfolding plan_of plan guard known
  plan_is σ p = rw (p.lengths, p.low, p.fits, p.runs, p.cell)

  -- a cell in the log: its present value, and all as before
  tells_again : (σ : Store) → Passed σ → (j : ℕ) → slot_in (log_of σ s) (record_of σ s).count c ≡ some j
      → (answer_of (Read s c) σ ≡ Value (entry_at (log_of σ s) j).current) × (step (Read s c) σ ≡ σ)
  unfolding answer_of step answer after read_slot
  tells_again σ p j e =
      let q : plan_of (Read s c) σ ≡ Tell (entry_at (log_of σ s) j).current = plan_is σ p ∙ ap (read_slot (log_of σ s) (record_of σ s) (lock_at σ.lent.locks c) c) e in
      (rw q, rw q)

  -- a new cell: what entering it leaves
  module _ (σ : Store) (sixteen : length σ.sessions.records ≡ 16) (p : Passed σ) (new : slot_in (log_of σ s) (record_of σ s).count c ≡ none) (room : (record_of σ s).count < 32) where
    abbrev m : ℕ
    m = (record_of σ s).count

    abbrev v : ℕ
    v = get_or σ.lent.values c 0

    abbrev grow : List ℕ → List ℕ
    grow log = appended log m c v

    abbrev τ : Store
    τ = after s (Enter c) σ

    lt : s < 16
    lt = ltb-true s 16 p.low

    long : length σ.lent.logs ≡ 2048
    long = logs_long σ.lent p.lengths

    whole : length (log_of σ s) ≡ 128
    whole = log_length σ.lent.logs s lt long

    grown_whole : length (grow (log_of σ s)) ≡ 128
    grown_whole = length-appended (log_of σ s) m c v ∙ whole

    record_is : record_of τ s ≡ with_entry (record_of σ s)
    unfolding after
    record_is = session_same σ.sessions s (with_entry (record_of σ s)) sixteen lt

    log_is : log_of τ s ≡ grow (log_of σ s)
    unfolding after
    log_is = log_same s σ.lent.logs lt long grow grown_whole

    slot_is : slot_in (log_of τ s) (record_of τ s).count c ≡ some m
    unfolding slot_in appended
    slot_is = rw (record_is, log_is) (grown_find (log_of σ s) m c v room whole new)

    value_is : (entry_at (log_of τ s) m).current ≡ v
    unfolding entry_at appended
    value_is = rw log_is (grown_word (log_of σ s) m c v room whole 2 (omega arith))

    lengths_kept : lengths_fit τ.lent ≡ true
    unfolding after lengths_fit size on_lock set_lock
    lengths_kept =
        let L = σ.lent.locks in
        let l = join s (lock_at L c) in
        rw (length-set L.readers c l.readers, length-set L.claimants c l.claimant, length-set L.exclusives c l.exclusive, length-on s σ.lent.logs lt long grow grown_whole)
        p.lengths

    -- with the new entry all are of cells below n
    entries_kept : below (size σ.lent) (cell_at (grow (log_of σ s))) (suc m) ≡ true
    entries_kept = appended_below (log_of σ s) m c v room whole (size σ.lent) (ltb-true c (size σ.lent) p.cell)
        (record_entries (size σ.lent) (log_of σ s) (record_of σ s) p.fits (let e = eqb-true (record_of σ s).phase 1 p.runs in λ z. omega arith)).cells

    size_is : size τ.lent ≡ size σ.lent
    unfolding after size
    size_is = refl

    after_passed : Passed τ
    unfolding entries_fit record_fits
    after_passed =
        record {
          lengths = lengths_kept;
          low = p.low;
          fits = rw (size_is, record_is, log_is) (rw (eqb-true (record_of σ s).phase 1 p.runs, le-leb (suc m) 32 (omega arith), entries_kept));
          runs = ap (λ (x : Session). eqb x.phase 1) record_is ∙ p.runs;
          cell = rw size_is p.cell;
        }

  -- a new cell, answered 101: there is room, and it is entered
  enters_new : (σ : Store) → Passed σ → slot_in (log_of σ s) (record_of σ s).count c ≡ none → number (answer_of (Read s c) σ) ≡ 101
      → ((record_of σ s).count < 32) × (plan_of (Read s c) σ ≡ Enter c)
  unfolding answer_of answer read_slot
  enters_new σ p new h =
      let l = lock_at σ.lent.locks c in
      let e : plan_of (Read s c) σ ≡ new_cell (record_of σ s) l (Enter c) = plan_is σ p ∙ ap (read_slot (log_of σ s) (record_of σ s) l c) new in
      rw e
      (cell_new (λ q. number (answer s q σ) ≡ 101 → ((record_of σ s).count < 32) × (q ≡ Enter c)) (record_of σ s) l (Enter c) (λ z. absurd (omega arith)) (λ _ z. absurd (omega arith))
      (λ room _ _. (room, refl)) (rw e at h))

  entering : (σ : Store) → plan_of (Read s c) σ ≡ Enter c → (answer_of (Read s c) σ ≡ Value (get_or σ.lent.values c 0)) × (step (Read s c) σ ≡ after s (Enter c) σ)
  unfolding answer_of step answer
  entering σ e = (rw e, rw e)

  -- in any store with sixteen records
  pub read_again : (σ : Store) → length σ.sessions.records ≡ 16 → number (answer_of (Read s c) σ) ≡ 101 → let τ = step (Read s c) σ in
      (answer_of (Read s c) τ ≡ answer_of (Read s c) σ) × (step (Read s c) τ ≡ τ)
  read_again σ sixteen h =
      let p = passed σ h in
      which (slot_in (log_of σ s) (record_of σ s).count c)
      (λ new.
      let q = enters_new σ p new h in
      let first = entering σ q.1 in
      let again = tells_again (after s (Enter c) σ) (after_passed σ sixteen p new q.0) (record_of σ s).count (slot_is σ sixteen p new q.0) in
      rw first.1 (again.0 ∙ ap Value (value_is σ sixteen p new q.0) ∙ sym first.0, again.1))
      (λ j e. let stays = (tells_again σ p j e).1 in (ap (answer_of (Read s c)) stays, ap (step (Read s c)) stays))
