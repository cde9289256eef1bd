-- Laws of the searches over the entries of a log: what one entry more makes of them, and how a loop's answer is the model's.
use Prim.Native.Nat.{ℕ, zero, suc, ◌+◌, ◌*◌, ◌/◌, ◌%◌, ◌<◌, ◌≤◌}
use mathlib.Core.Bool.{true, false, not}
use mathlib.Core.List.{List}
use mathlib.Core.Option.{Option, none, some}
use mathlib.Core.Path.{◌≡◌, refl, sym, ap, ◌∙◌}
use native.Mathlib.Omega.{arith}
use lib.Dec.{eqb}
use lib.ListN.{get_or, set}
use borrow.Author.Tests.{lt-ltb, le-ltb, eq-eqb, ne_eqb}
use Rattle.model.specs.Buffers.{word, cell_at, entry_at, publishes, appended, with_dirty, updated}
use Rattle.model.specs.Readers.{odd}
use Rattle.model.specs.Search.{or_else, find, below}
use Rattle.model.proofs.Laws.{find_some}
use Rattle.model.proofs.Tools.{same, which, and-false}

-- ---- the words of a log

pub cell_word : (log : List ℕ) (k : ℕ) → cell_at log k ≡ get_or log (4 * k) 0
unfolding cell_at word
cell_word log k = ap (λ (i : ℕ). get_or log i 0) (omega arith)

-- ---- an entry publishes by the two marks of its fourth word, and where it is written and not held by its values

module _ (log : List ℕ) (k : ℕ) where
  pub unmarked : word log k 3 % 4 ≡ 0 → false ≡ publishes (entry_at log k)
  unfolding publishes entry_at odd
  unmarked h =
      let w = word log k 3 in
      let a : (w % 2 ≡ 1 → ⊥) = λ e. omega arith in
      let b : (w / 2 % 2 ≡ 1 → ⊥) = λ e. omega arith in
      rw (ne_eqb (w % 2) 1 a, ne_eqb (w / 2 % 2) 1 b)

  pub held : 1 < word log k 3 % 4 → true ≡ publishes (entry_at log k)
  unfolding publishes entry_at odd
  held h = let w = word log k 3 in let b : w / 2 % 2 ≡ 1 = omega arith in rw (eq-eqb (w / 2 % 2) 1 b)

  pub written : (word log k 3 % 4 ≡ 0 → ⊥) → word log k 3 % 4 ≤ 1 → not (eqb (entry_at log k).current (entry_at log k).snapshot) ≡ publishes (entry_at log k)
  unfolding publishes entry_at odd
  written n h =
      let w = word log k 3 in
      let m : w % 4 ≡ 1 = omega (arith, h, n) in
      let a : w % 2 ≡ 1 = omega (arith, m) in
      let q : w / 2 ≡ w / 4 * 2 = omega (arith, m) in
      let z : w / 4 * 2 % 2 ≡ 0 = omega arith in
      let y : w / 2 % 2 ≡ 0 = rw q z in
      let b : (w / 2 % 2 ≡ 1 → ⊥) = λ e. omega (arith, y, e) in
      rw (eq-eqb (w % 2) 1 a, ne_eqb (w / 2 % 2) 1 b)

-- ---- the stores of an append, an update and a mark, at the code's indices

pub append_stores : (log : List ℕ) (k c v : ℕ)
    → set (set (set (set log (4 * k) c) (4 * k + 1) v) (4 * k + 2) v) (4 * k + 3) 0 ≡ appended log k c v
unfolding appended
append_stores log k c v =
    let e₁ : 4 * k + 1 ≡ suc (4 * k) = omega arith in
    let e₂ : 4 * k + 2 ≡ suc (suc (4 * k)) = omega arith in
    let e₃ : 4 * k + 3 ≡ suc (suc (suc (4 * k))) = omega arith in
    rw (e₁, e₂, e₃)

pub update_stores : (log : List ℕ) (k v : ℕ) → set (set log (4 * k + 2) v) (4 * k + 3) (word log k 3 / 2 % 2 * 2 + 1) ≡ updated log k v
unfolding updated with_dirty
update_stores log k v = let e : 4 * k + 3 ≡ suc (4 * k + 2) = omega arith in rw e

-- ---- find

module _ (cell : ℕ → ℕ) (c : ℕ) where
  pub find_here : (k : ℕ) → find cell k c ≡ none → cell k ≡ c → find cell (suc k) c ≡ some k
  unfolding find or_else
  find_here k h e = simp (h, eq-eqb (cell k) c e)

  -- what is found among k entries is found among more
  pub find_up : (k m : ℕ) {i : ℕ} → k ≤ m → find cell k c ≡ some i → find cell m c ≡ some i
  unfolding find or_else
  find_up k zero l h = let e : k ≡ 0 = omega arith in rw e at h
  find_up k (suc m) l h = same k (suc m) (λ e. rw e at h) (λ n. simp (find_up k m (omega arith) h))

  -- before the entry that is found there is none
  pub find_before : (m : ℕ) {k : ℕ} → find cell m c ≡ some k → find cell k c ≡ none
  find_before m {k} h =
      which (find cell k c) (λ e. e)
      (λ i e.
      let w = find_some cell c m h in
      let u = find_some cell c k e in
      let z : ◌≡◌ {A = Option ℕ} (some i) (some k) = sym (find_up k m (omega arith) e) ∙ h in
      let q : i ≡ k = cc in
      absurd (omega arith))

-- ---- below

pub below_stop : (n : ℕ) (cell : ℕ → ℕ) (k m : ℕ) → n ≤ cell k → k < m → below n cell m ≡ false
unfolding below
below_stop n cell k zero h l = absurd (omega arith)
below_stop n cell k (suc m) h l =
    same k m (λ e. let g : n ≤ cell m = rw e at h in simp (le-ltb (cell m) n g)) (λ d. simp (below_stop n cell k m h (omega arith), and-false))

pub below_all : (n : ℕ) (cell : ℕ → ℕ) (m : ℕ) → ((k : ℕ) → k < m → cell k < n) → below n cell m ≡ true
unfolding below
below_all n cell zero h = refl
below_all n cell (suc m) h = simp (lt-ltb (cell m) n (h m (omega arith)), below_all n cell m (λ k l. h k (omega arith)))
