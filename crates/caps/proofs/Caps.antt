-- What one element more makes of the model's tests of classes, of values and of a table.
use Rattle.std.proofs.Common.{◌≡◌, ◌∙◌, arith, ℕ, ◌+◌, ◌≤◌, ◌<◌, add-one, ◌&&◌, true, false, List, length, drop}
use Rattle.std.proofs.lemmas.Bool.{le-ltb, lt-ltb}
use lib.Dec.{ltb}
use lib.ListN.{get_or, drop_of_length-le}
use lib.Seq.{drop-cons}
use Rattle.model.specs.Buffers.{rise_from, fits, all_fit}
use Rattle.model.specs.Load.{all_classed}

-- what one class more makes of the test
module _ (ks : List ℕ) (i : ℕ) (h : i < length ks) where
  class_step : all_classed (drop i ks) ≡ (ltb (get_or ks i 0) 16 && all_classed (drop (i + 1) ks))
  unfolding all_classed
  class_step = rw (drop-cons ks i 0 h, add-one)

  pub class_stops : 15 < get_or ks i 0 → all_classed (drop i ks) ≡ false
  class_stops q = class_step ∙ rw (le-ltb (get_or ks i 0) 16 q)

  pub class_goes_on : get_or ks i 0 ≤ 15 → all_classed (drop i ks) ≡ all_classed (drop (i + 1) ks)
  class_goes_on q = class_step ∙ rw (lt-ltb (get_or ks i 0) 16 (omega arith))

pub class_ends : (ks : List ℕ) (i : ℕ) → length ks ≤ i → all_classed (drop i ks) ≡ true
unfolding all_classed
class_ends ks i h = rw (drop_of_length-le ks h)

-- what one cell more makes of the test
module _ (T vs ks : List ℕ) (i : ℕ) (h : i < length vs) (e : length ks ≡ length vs) where
  fit_step : all_fit T (drop i vs) (drop i ks) ≡ (fits T (get_or ks i 0) (get_or vs i 0) && all_fit T (drop (i + 1) vs) (drop (i + 1) ks))
  unfolding all_fit
  fit_step = let j : i < length ks = omega arith in rw (drop-cons vs i 0 h, drop-cons ks i 0 j, add-one)

  pub fit_stops : fits T (get_or ks i 0) (get_or vs i 0) ≡ false → all_fit T (drop i vs) (drop i ks) ≡ false
  fit_stops q = fit_step ∙ rw q

  pub fit_goes_on : fits T (get_or ks i 0) (get_or vs i 0) ≡ true → all_fit T (drop i vs) (drop i ks) ≡ all_fit T (drop (i + 1) vs) (drop (i + 1) ks)
  fit_goes_on q = fit_step ∙ rw q

pub fit_ends : (T vs ks : List ℕ) (i : ℕ) → length vs ≤ i → all_fit T (drop i vs) (drop i ks) ≡ true
unfolding all_fit
fit_ends T vs ks i h = rw (drop_of_length-le vs h)

-- what one cap more makes of the test, after a cap m
module _ (T : List ℕ) (i m : ℕ) (h : i < length T) where
  rise_step : rise_from m (drop i T) ≡ (ltb m (get_or T i 0) && rise_from (get_or T i 0) (drop (i + 1) T))
  unfolding rise_from
  rise_step = rw (drop-cons T i 0 h, add-one)

  pub rise_stops : get_or T i 0 ≤ m → rise_from m (drop i T) ≡ false
  rise_stops q = rise_step ∙ rw (le-ltb m (get_or T i 0) q)

  pub rise_goes_on : m < get_or T i 0 → rise_from m (drop i T) ≡ rise_from (get_or T i 0) (drop (i + 1) T)
  rise_goes_on q = rise_step ∙ rw (lt-ltb m (get_or T i 0) q)

pub rise_ends : (T : List ℕ) (i m : ℕ) → length T ≤ i → rise_from m (drop i T) ≡ true
unfolding rise_from
rise_ends T i m h = rw (drop_of_length-le T h)
