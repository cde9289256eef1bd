-- The entry that an advance handles, with whether another cell that publishes is left above its cell.
use Prim.Native.Nat.{ℕ, suc, ◌<◌, ◌≤◌}
use mathlib.Core.Bool.{Bool, true, false}
use mathlib.Core.List.{List}
use mathlib.Core.Option.{Option, none, some}
use mathlib.Core.Path.{◌≡◌, sym, ap, ◌∙◌}
use Rattle.std.specs.Prelude.{Some, None}
use Rattle.model.specs.Buffers.{cell_at, entry_at, slot_in, publishes, target_in}
use Rattle.model.specs.Search.{some?, below}
use Rattle.model.proofs.Tools.{which}
use Rattle.session_log.specs.Slots.{slot_of, target_slot, is_more, LowestTwo}
use Rattle.session_log.proofs.Targets.{written_first, slot_some, target_some, turn_ends, turn_here}
use Rattle.targets.specs.Told.{next_in}

module _ (log : List ℕ) (m : ℕ) where
  slot_there : (from : ℕ) → some? (target_slot log m from) ≡ some? (target_in log m from)
  unfolding target_slot slot_of
  slot_there from =
      which (target_in log m from) (λ e. rw e) (λ c e. let k = written_first log m c (target_some log m from e).1 in rw (e, k.1))

  module _ (from : ℕ) where
    pub next_none : none ≡ target_slot log m from → None ≡ next_in log m from
    next_none h = rw (← h)

    pub next_some : {k : ℕ} {b : Bool} → some k ≡ target_slot log m from → b ≡ some? (target_in log m (suc (cell_at log k)))
        → Some (record { slot = k; more = b }) ≡ next_in log m from
    unfolding is_more
    next_some h t = rw (← h, t)

    -- another by its place
    next_by : {k : ℕ} (o : Option ℕ) → some k ≡ target_slot log m from → o ≡ target_slot log m (suc (cell_at log k))
        → Some (record { slot = k; more = some? o }) ≡ next_in log m from
    next_by {k} o h g = next_some h (ap some? g ∙ slot_there (suc (cell_at log k)))

    module _ (n low high : ℕ) (w : LowestTwo log n from m low high) where
      pub two_none : below n (cell_at log) m ≡ true → n ≤ low → None ≡ next_in log m from
      two_none b h = next_none (turn_ends log n m from low w.low_is b h)

      module _ (lt : low < n) {k : ℕ} (f : some k ≡ slot_in log m low) (p : publishes (entry_at log k) ≡ true) where
        two_cell : cell_at log k ≡ low
        two_cell = (slot_some log m low (sym f)).1

        two_here : some k ≡ target_slot log m from
        two_here = turn_here log n m from low w.low_is lt f p

        pub two_last : below n (cell_at log) m ≡ true → n ≤ high → Some (record { slot = k; more = false }) ≡ next_in log m from
        two_last b h = next_by none two_here (rw two_cell (turn_ends log n m (suc low) high w.high_is b h))

        pub two_more : high < n → {j : ℕ} → some j ≡ slot_in log m high → publishes (entry_at log j) ≡ true
            → Some (record { slot = k; more = true }) ≡ next_in log m from
        two_more l {j} g q = next_by (some j) two_here (rw two_cell (turn_here log n m (suc low) high w.high_is l g q))
