-- The first entry that a test of its cell holds of: the first of a cell, or the first whose cell is not below n.
use Prim.Native.Nat.{ℕ}
use mathlib.Core.Bool.{Bool, true, false, not}
use mathlib.Core.List.{List}
use mathlib.Core.Path.{◌≡◌, sym, ◌∙◌}
use lib.Dec.{eqb, leb}
use borrow.Author.Tests.{eqb-true, eqb-false, leb-true, leb-false, not-true, not-false}
use Rattle.std.specs.Prelude.{Option, Some, None}
use Rattle.std.specs.Option.{is_some}
use Rattle.model.specs.Buffers.{cell_at, slot_in}
use Rattle.model.specs.Search.{below}
use Rattle.session_log.specs.Slots.{found}
use Rattle.session_log.proofs.FirstEntry.{place_only}
use Rattle.session_log.proofs.Searches.{below_stop, below_all}
use Rattle.look_ups.specs.First.{IsFirst}

module _ (A : ℕ → Bool → Type 0) (log : List ℕ) (count c : ℕ) where
  pub place_is : (r : Option ℕ) → IsFirst A count r → ((k : ℕ) (b : Bool) → A k b → b ≡ eqb (cell_at log k) c) → found r ≡ slot_in log count c
  unfolding IsFirst
  place_is None h a = place_only log count c None (λ j l. eqb-false (cell_at log j) c (sym (a j false (h j l))))
  place_is (Some i) h a =
      place_only log count c (Some i) (record {
        among = h.0;
        has_cell = eqb-true (cell_at log i) c (sym (a i true h.1));
        none_before = λ j l. eqb-false (cell_at log j) c (sym (a j false (h.2 j l)));
      })

  pub below_is : (r : Option ℕ) (b : Bool) → IsFirst A count r → is_some r ≡ not b → ((k : ℕ) (t : Bool) → A k t → t ≡ leb c (cell_at log k))
      → b ≡ below c (cell_at log) count
  unfolding IsFirst
  below_is None b h e a = not-false b (sym e) ∙ sym (below_all c (cell_at log) count (λ j l. leb-false c (cell_at log j) (sym (a j false (h j l)))))
  below_is (Some i) b h e a = not-true b (sym e) ∙ sym (below_stop c (cell_at log) i count (leb-true c (cell_at log i) (sym (a i true h.1))) h.0)
