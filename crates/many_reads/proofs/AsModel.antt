-- The reads of a running session, one after the other past the tests, are the model's: the same numbers, values and store.
use Prim.Native.Nat.{ℕ, suc, ◌+◌, ◌<◌, ◌≤◌}
use native.Mathlib.Omega.{arith}
use mathlib.Core.Path.{◌≡◌, refl, ap, ◌∙◌}
use mathlib.Core.Bool.{true, false, cond}
use mathlib.Core.List.{List, [], ◌∷◌}
use borrow.Author.Tests.{eqb-true}
use lib.Dec.{eqb}
use lib.ListN.{length, set}
use lib.Seq.{sets}
use Rattle.model.specs.Buffers.{Limits, Buffers, Store}
use Rattle.model.specs.Effects.{number}
use Rattle.model.specs.ManyReads.{Reads, reads}
use Rattle.model.specs.Step.{step, answer_of}
use Rattle.records.specs.declared.Sessions.{Sessions}
use Rattle.records.specs.declared.Answer.{Answer}
use Rattle.records.specs.declared.Call.TheVariants.{Read}
use Rattle.model.proofs.Tools.{test}
use Rattle.refusals.proofs.Admission.{Admitted}
use Rattle.cell_reads.specs.Cells.{Fits, CellRead, read_cell, CellsRead, read_cells}
use Rattle.many_reads.proofs.OneRead.{store_with, rolled_with, read_is}
use Rattle.cell_reads.proofs.Ways.{fits_still}

module _ (B : Buffers) (s : ℕ) (z : Admitted B s) (G : Limits) (ss : Sessions) (next : ℕ) (here : s < length ss.records) where
  -- the store that the reads leave
  abbrev pub left_by : CellsRead → Store
  left_by o =
      cond (eqb o.number 6) (rolled_with B s z G ss next here o.readers o.log o.entries) (store_with B s z G ss next here o.readers o.log o.entries)

  -- what the model says of reads, r, is what the code's o says, with i values obtained before
  pub record Same (i : ℕ) (cs T : List ℕ) (r : Reads) (o : CellsRead) : Type 0 where
    pub last : number r.last ≡ o.number
    pub count : i + length r.values ≡ o.count
    pub few : length r.values ≤ length cs
    pub target : sets T i r.values ≡ o.target
    pub store : r.store ≡ left_by o

  -- one cell more, past one that was read, and at one that was not
  module _ (c : ℕ) (cs : List ℕ) (a : Answer) (i : ℕ) (T R W : List ℕ) (k : ℕ) (f : Fits s (length B.values) (length R) (length B.locks.claimants) W k) where
    abbrev σ : Store
    σ = store_with B s z G ss next here R W k

    abbrev o : CellRead
    o = read_cell B.values B.locks.claimants s R W k c

    abbrev b : Answer
    b = answer_of (Read s c) σ

    read_number : number b ≡ o.number
    read_number = (read_is B s z G ss next here R W k f c).0

    one_more : eqb o.number 101 ≡ true
        → Same (suc i) cs (set T i o.value) (reads s b cs (store_with B s z G ss next here o.readers o.log o.entries))
        (read_cells B.values B.locks.claimants s (suc i) cs (set T i o.value) o.readers o.log o.entries)
        → Same i (c ∷ cs) T (reads s a (c ∷ cs) σ) (read_cells B.values B.locks.claimants s i (c ∷ cs) T R W k)
    unfolding reads read_cells
    one_more y j =
        let e = read_is B s z G ss next here R W k f c in
        let h : eqb (number b) 101 ≡ true = ap (λ (m : ℕ). eqb m 101) read_number ∙ y in
        let t : step (Read s c) σ ≡ store_with B s z G ss next here o.readers o.log o.entries = e.2 ∙ rw (eqb-true o.number 101 y) refl in
        rw (y, h, t, e.1)
        (record { last = j.last; count = (let w = j.count in omega arith); few = (let w = j.few in omega arith); target = j.target; store = j.store })

    stops_here : eqb o.number 101 ≡ false → Same i (c ∷ cs) T (reads s a (c ∷ cs) σ) (read_cells B.values B.locks.claimants s i (c ∷ cs) T R W k)
    unfolding reads read_cells
    stops_here y =
        let e = read_is B s z G ss next here R W k f c in
        let h : eqb (number b) 101 ≡ false = ap (λ (m : ℕ). eqb m 101) read_number ∙ y in
        rw (y, h) (record { last = e.0; count = omega arith; few = omega arith; target = refl; store = e.2 })

  pub same_reads : (cs : List ℕ) (a : Answer) (i : ℕ) (T R W : List ℕ) (k : ℕ) → Fits s (length B.values) (length R) (length B.locks.claimants) W k
      → (cs ≡ [] → number a ≡ 101)
      → Same i cs T (reads s a cs (store_with B s z G ss next here R W k)) (read_cells B.values B.locks.claimants s i cs T R W k)
  same_reads [] a i T R W k f h = unfold reads read_cells in record { last = h refl; count = omega arith; few = omega arith; target = refl; store = refl }
  same_reads (c ∷ cs) a i T R W k f h =
      let o = read_cell B.values B.locks.claimants s R W k c in
      test (eqb o.number 101)
      (λ y.
      one_more c cs a i T R W k f y
      (same_reads cs (answer_of (Read s c) (store_with B s z G ss next here R W k)) (suc i) (set T i o.value) o.readers o.log o.entries
      (fits_still B.values B.locks.claimants s R W k f c) (λ _. read_number c cs a i T R W k f ∙ eqb-true o.number 101 y)))
      (λ y. stops_here c cs a i T R W k f y)
