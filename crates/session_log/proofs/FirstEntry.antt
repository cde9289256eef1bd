-- The place that a search answers is that of the cell's first entry, or none exactly where there is none, and the cells of the entries alone decide it
-- (document 02, Paper 3). `found r ≡ slot_in log m c` is what every search for a cell ensures of its answer r.
use Prim.Native.Nat.{ℕ, ◌+◌, ◌*◌, ◌-◌, ◌<◌, ◌≤◌}
use mathlib.Core.List.{List}
use mathlib.Core.Option.{Option, none, some}
use mathlib.Core.Path.{◌≡◌, refl, sym, ap, ◌∙◌}
use native.Mathlib.Omega.{arith}
use lib.ListN.{set, take, drop}
use lib.Seq.{get_or-set_other, take-set-le, take-set-lt, drop-set-lt, drop-set-add}
use lib.Dec.{ltb}
use borrow.Author.Tests.{ltb-true, ltb-false}
use Rattle.std.specs.Prelude.{Some, None}
use Rattle.std.specs.Prelude as code
use Rattle.model.specs.Buffers.{log_in, cell_at, slot_in}
use Rattle.model.proofs.Laws.{find_ext}
use Rattle.model.proofs.Tools.{which, test}
use Rattle.session_log.specs.Slots.{found}
use Rattle.session_log.specs.FirstEntry.{FirstEntry, NoEntry, IsPlace, SameCells}
use Rattle.session_log.proofs.Searches.{cell_word, find_before}
use Rattle.session_log.proofs.Targets.{slot_some, slot_none}

module _ (log : List ℕ) (m c : ℕ) where
  -- ---- the model's search

  pub found_first : {k : ℕ} → slot_in log m c ≡ some k → FirstEntry log m c k
  unfolding slot_in
  found_first {k} e =
      let w = slot_some log m c e in
      record { among = omega (arith, w.0); has_cell = w.1; none_before = slot_none log k c (find_before (cell_at log) c m e) }

  pub first_found : {k : ℕ} → FirstEntry log m c k → slot_in log m c ≡ some k
  first_found {k} f =
      which (slot_in log m c) (λ e. absurd (slot_none log m c e k (omega (arith, f.among)) f.has_cell))
      (λ i e.
      let w = found_first e in
      test (ltb i k) (λ t. absurd (f.none_before i (ltb-true i k t) w.has_cell))
      (λ t.
      test (ltb k i) (λ u. absurd (w.none_before k (ltb-true k i u) f.has_cell))
      (λ u.
      let a = ltb-false i k t in
      let b = ltb-false k i u in
      let q : i ≡ k = omega arith in
      rw (← q) e)))

  pub none_found : NoEntry log m c → slot_in log m c ≡ none
  none_found h = which (slot_in log m c) (λ e. e) (λ i e. let w = slot_some log m c e in absurd (h i w.0 w.1))

  -- ---- an answer of the code

  pub place_found : (r : code.Option ℕ) → found r ≡ slot_in log m c → IsPlace log m c r
  place_found (Some k) h = found_first (sym h)
  place_found None h = slot_none log m c (sym h)

  -- the contract says no less and no more
  pub place_only : (r : code.Option ℕ) → IsPlace log m c r → found r ≡ slot_in log m c
  place_only (Some k) f = sym (first_found f)
  place_only None h = sym (none_found h)

  -- none is answered exactly where there is none
  pub none_exactly : (r : code.Option ℕ) → IsPlace log m c r → NoEntry log m c → r ≡ None
  none_exactly (Some k) f h = absurd (h k f.among f.has_cell)
  none_exactly None f h = refl

  -- the same of a cell looked up: r is the answer
  module _ (r : code.Option ℕ) (w : found r ≡ slot_in log m c) where
    pub known_first : {k : ℕ} → r ≡ Some k → FirstEntry log m c k
    known_first e = rw e at (place_found r w)

    pub unknown_none : r ≡ None → NoEntry log m c
    unknown_none e = rw e at (place_found r w)

    pub none_unknown : NoEntry log m c → r ≡ None
    none_unknown h = none_exactly r (place_found r w) h

-- ---- the words that play no part

-- two logs whose first m entries have the same cells
pub same_place : (log other : List ℕ) (m c : ℕ) → SameCells m log other → slot_in log m c ≡ slot_in other m c
unfolding slot_in
same_place log other m c h = find_ext (cell_at log) c (cell_at other) m h

-- a change of a word that is not the cell of one of them: of the words past them, or of the other three of one
pub other_word : (log : List ℕ) (m i w : ℕ) → ((j : ℕ) → j < m → i ≡ 4 * j → ⊥) → SameCells m (set log i w) log
other_word log m i w h j l = cell_word (set log i w) j ∙ get_or-set_other log i (4 * j) w 0 (λ e. h j l (sym e)) ∙ sym (cell_word log j)

pub past_the_count : (log : List ℕ) (m i w : ℕ) → 4 * m ≤ i → SameCells m (set log i w) log
past_the_count log m i w h = other_word log m i w (λ j l e. omega arith)

pub not_a_cell : (log : List ℕ) (m k j w : ℕ) → 0 < j → j < 4 → SameCells m (set log (4 * k + j) w) log
not_a_cell log m k j w p q = other_word log m (4 * k + j) w (λ a l e. omega arith)

-- ---- in the logs of all sessions

module _ (logs : List ℕ) (s w : ℕ) where
  -- a word before a session's log; one in it and one past it, d words from its beginning
  before_log : (i : ℕ) → i < 128 * s → log_in (set logs i w) s ≡ log_in logs s
  unfolding log_in
  before_log i l = ap (take 128) (drop-set-lt (128 * s) logs i w l)

  in_log : (d : ℕ) → d < 128 → log_in (set logs (128 * s + d) w) s ≡ set (log_in logs s) d w
  unfolding log_in
  in_log d l = ap (take 128) (drop-set-add (128 * s) logs d w) ∙ take-set-lt 128 (drop (128 * s) logs) d w l

  past_log : (d : ℕ) → 128 ≤ d → log_in (set logs (128 * s + d) w) s ≡ log_in logs s
  unfolding log_in
  past_log d l = ap (take 128) (drop-set-add (128 * s) logs d w) ∙ take-set-le 128 (drop (128 * s) logs) d w l

  -- of all words of the logs, the cells of the session's own first m entries alone decide
  pub own_cells_alone : (m c i : ℕ) → ((j : ℕ) → j < m → i ≡ 128 * s + 4 * j → ⊥) → slot_in (log_in (set logs i w) s) m c ≡ slot_in (log_in logs s) m c
  own_cells_alone m c i h =
      let place : List ℕ → Option ℕ = λ log. slot_in log m c in
      test (ltb i (128 * s)) (λ t. ap place (before_log i (ltb-true i (128 * s) t)))
      (λ t.
      let l = ltb-false i (128 * s) t in
      let d : ℕ = i - 128 * s in
      let e : i ≡ 128 * s + d = omega arith in
      ap (λ (k : ℕ). place (log_in (set logs k w) s)) e
      ∙ test (ltb d 128)
      (λ u.
      ap place (in_log d (ltb-true d 128 u)) ∙ same_place (set (log_in logs s) d w) (log_in logs s) m c (other_word (log_in logs s) m d w (λ j k q. h j k (omega arith))))
      (λ u. ap place (past_log d (ltb-false d 128 u))))
