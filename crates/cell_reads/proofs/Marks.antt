-- The marks that cover the cells of a log's entries.
use Prim.Native.Nat.{ℕ, zero, suc, ◌+◌, ◌<◌, ◌≤◌}
use native.Mathlib.Omega.{arith}
use mathlib.Core.Path.{◌≡◌, sym, subst, ◌∙◌}
use mathlib.Core.Bool.{true, false}
use mathlib.Core.List.{List}
use mathlib.Core.Option.{none}
use borrow.Author.Tests.{lt-ltb, ltb-true}
use lib.Dec.{ltb}
use lib.ListN.{length, length-set}
use Rattle.model.specs.Buffers.{cell_at, slot_in, appended}
use Rattle.model.specs.Search.{below}
use Rattle.model.proofs.Laws.{appended_cell, appended_apart, below_is}
use Rattle.model.proofs.Tools.{same, which, clash, both_l, both_r}
use Rattle.session_log.proofs.Targets.{slot_some}
use Rattle.sweeps.specs.Sweeps.{marked, mark}
use Rattle.sweeps.proofs.Marks.{marked_same, marked_other}
use Rattle.cell_reads.specs.Cells.{Covers}

-- cells below n are below any larger number
pub below_less : (n m : ℕ) (f : ℕ → ℕ) (k : ℕ) → n ≤ m → below n f k ≡ true → below m f k ≡ true
unfolding below
below_less n m f zero l b = b
below_less n m f (suc k) l b =
    let i = ltb-true (f k) n (both_l (ltb (f k) n) (below n f k) b) in rw (lt-ltb (f k) m (omega arith)) (below_less n m f k l (both_r (ltb (f k) n) (below n f k) b))

-- each of cells below n is
pub cell_low : (n : ℕ) (log : List ℕ) (k i c : ℕ) → below n (cell_at log) k ≡ true → i < k → c ≡ cell_at log i → c < n
cell_low n log k i c b l e = rw e (below_is n (cell_at log) k b i l)

-- ---- the marks

marked_here : (entered : List ℕ) (c : ℕ) → length entered ≡ 16 → c < 1024 → marked (mark entered c) c ≡ true
marked_here entered c w l = marked_same entered c (omega arith)

marked_more : (entered : List ℕ) (c d : ℕ) → length entered ≡ 16 → c < 1024 → marked entered d ≡ true → marked (mark entered c) d ≡ true
marked_more entered c d w l h = same d c (λ e. rw e (marked_here entered c w l)) (λ n. marked_other entered c d (omega arith) n ∙ h)

-- a cell marked: it is, and all that were still are
pub inserted : (entered log : List ℕ) (k c : ℕ) → Covers entered log k → c < 1024 → Covers (mark entered c) log k × (marked (mark entered c) c ≡ true)
unfolding mark
inserted entered log k c v l = (
  record { words = rw length-set v.words; cells = λ j i. unfold mark in marked_more entered c (cell_at log j) v.words l (v.cells j i) },
  unfold mark in marked_here entered c v.words l,
)

-- the next entry's cell is
pub covers_next : (entered log : List ℕ) (k c : ℕ) → Covers entered log k → c ≡ cell_at log k → marked entered c ≡ true → Covers entered log (k + 1)
covers_next entered log k c v e m = record { words = v.words; cells = λ j i. same j k (λ h. rw (h, ← e) m) (λ n. v.cells j (omega arith)) }

-- a cell that is not has no entry
pub unmarked : (entered log : List ℕ) (k c : ℕ) → Covers entered log k → marked entered c ≡ false → none ≡ slot_in log k c
unmarked entered log k c v h =
    which (slot_in log k c) (λ p. sym p)
    (λ j p. let w = slot_some log k c p in absurd (clash (marked entered c) (subst (λ (d : ℕ). marked entered d ≡ true) w.1 (v.cells j w.0)) h))

-- a new entry of a cell that is
pub covers_entered : (entered log : List ℕ) (k c v : ℕ) → Covers entered log k → marked entered c ≡ true → k < 32 → length log ≡ 128 → Covers entered (appended log k c v) (k + 1)
covers_entered entered log k c v m i l w =
    covers_next entered (appended log k c v) k c
    (record { words = m.words; cells = λ j q. rw (appended_apart log k c v l w j q) (m.cells j q) }) (sym (appended_cell log k c v l w)) i
