-- One law for each way through a decision.
use mathlib.Core.Path.{◌≡◌, sym, ap, ◌∙◌}
use mathlib.Core.Bool.{Bool, true, false, cond}
use mathlib.Core.Option.{Option, none, some}
use mathlib.Core.List.{List}
use Prim.Native.Nat.{ℕ, ◌<◌, ◌≤◌}
use native.Mathlib.Omega.{arith}
use borrow.Author.Tests.{lt-ltb, le-ltb}
use lib.Dec.{eqb}
use lib.ListN.{get_or}
use Rattle.model.specs.Buffers.{entry_at, slot_in, cap}
use Rattle.model.specs.Plans.{new_cell, known, record_fits, guard, read_slot, read_plan, hold_slot, hold_plan, write_capped, write_plan, peek_slot, peek_plan}
use Rattle.records.specs.declared.Session.{Session}
use Rattle.records.specs.declared.Lock.{Lock}
use Rattle.records.specs.declared.Plan.{Plan}
use Rattle.records.specs.declared.Plan.TheVariants.{Refuse, Tell, Enter, Mark, EnterMark, ShowStore, ShowLog}
use Rattle.refusals.specs.Pieces.{tested}
use Rattle.refusals.proofs.Ways.{whole, in_phase_1}

-- ---- what is decided of a running session, whose tests pass

module _ (n : ℕ) (log : List ℕ) (x : Session) (z : 0 ≡ tested (record_fits n log x) (eqb x.phase 1)) where
  -- f decides by the place of the cell's entry; the search for the cell answered o
  by_place : (c : ℕ) → c < n → (o : Option ℕ) → o ≡ slot_in log x.count c → (f : Option ℕ → Plan) → f o ≡ guard n log x (eqb x.phase 1) (known n c (f (slot_in log x.count c)))
  unfolding guard known
  by_place c h o s f = simp (whole n log x z, in_phase_1 n log x z, lt-ltb c n h, s)

  module _ (l : Lock) (c : ℕ) where
    -- ---- read and hold

    module _ (h : c < n) where
      pub read_known : (k : ℕ) → some k ≡ slot_in log x.count c → (v : ℕ) → v ≡ (entry_at log k).current → Tell v ≡ read_plan n log x l c
      unfolding read_slot read_plan
      read_known k s v q = ap Tell q ∙ by_place c h _ s (read_slot log x l c)

      pub read_new : none ≡ slot_in log x.count c → (p : Plan) → p ≡ new_cell x l (Enter c) → p ≡ read_plan n log x l c
      unfolding read_slot read_plan
      read_new s p q = q ∙ by_place c h _ s (read_slot log x l c)

      pub hold_known : (k : ℕ) → some k ≡ slot_in log x.count c → (v : ℕ) → v ≡ (entry_at log k).current → Mark k v ≡ hold_plan n log x l c
      unfolding hold_slot hold_plan
      hold_known k s v q = ap (Mark k) q ∙ by_place c h _ s (hold_slot log x l c)

      pub hold_new : none ≡ slot_in log x.count c → (p : Plan) → p ≡ new_cell x l (EnterMark c) → p ≡ hold_plan n log x l c
      unfolding hold_slot hold_plan
      hold_new s p q = q ∙ by_place c h _ s (hold_slot log x l c)

    -- ---- write

    module _ (T classes : List ℕ) (v : ℕ) (h : c < n) where
      pub write_odd : 15 < get_or classes c 0 → Refuse 8 ≡ write_plan T classes n log x l c v
      unfolding guard known write_plan
      write_odd i = simp (whole n log x z, in_phase_1 n log x z, lt-ltb c n h, le-ltb (get_or classes c 0) 16 i)

      pub write_class : get_or classes c 0 ≤ 15 → (m : ℕ) → m ≡ cap T (get_or classes c 0) → (p : Plan) → p ≡ write_capped log x l c v m → p ≡ write_plan T classes n log x l c v
      unfolding guard known write_plan
      write_class i m q p w = simp (whole n log x z, in_phase_1 n log x z, lt-ltb c n h, lt-ltb (get_or classes c 0) 16 (omega arith), ← q, w)

  -- ---- peek

  module _ (c : ℕ) (h : c < n) where
    pub peek_new : none ≡ slot_in log x.count c → Refuse 14 ≡ peek_plan n log x c
    unfolding peek_slot peek_plan
    peek_new s = by_place c h _ s (peek_slot log c)

    module _ (k : ℕ) (s : some k ≡ slot_in log x.count c) (b : Bool) (d : b ≡ (entry_at log k).dirty) where
      shows : (q : Bool) → b ≡ q → cond q (ShowLog k) (ShowStore c) ≡ peek_plan n log x c
      unfolding peek_slot peek_plan
      shows q g = ap (λ (w : Bool). cond w (ShowLog k) (ShowStore c)) (sym g ∙ d) ∙ by_place c h _ s (peek_slot log c)

      pub peek_written : b ≡ true → ShowLog k ≡ peek_plan n log x c
      peek_written g = shows true g

      pub peek_read : b ≡ false → ShowStore c ≡ peek_plan n log x c
      peek_read g = shows false g
