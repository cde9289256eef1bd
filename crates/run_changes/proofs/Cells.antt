-- The cell whose lock is changed i-th, as the code finds it in the session's log: its first entry, where it has one, says whether it publishes.
use mathlib.Core.Path.{◌≡◌, sym, ◌∙◌}
use mathlib.Core.Bool.{true, false}
use mathlib.Core.Option.{none, some}
use mathlib.Core.List.{List}
use Prim.Native.Nat.{ℕ}
use Rattle.model.specs.Buffers.{log_in, cell_at, entry_at, publishes, slot_in, publishes_in}
use Rattle.session_log.proofs.Targets.{first_judges, unheld}
use Rattle.run_changes.specs.declared.Change.TheVariants.{Turn}
use Rattle.records.specs.declared.Change.TheVariants as to
use Rattle.run_changes.specs.Run.{cell_of}

-- entry i of session s, of m: its cell c as the code reads it
module _ (W : List ℕ) (s m i : ℕ) (log : List ℕ) (w : log ≡ log_in W s) (c : ℕ) (cell : c ≡ cell_at log i) where
  written : publishes_in log m c ≡ true → 1024 ≡ cell_of W (Turn to.DropReads s m) i
  unfolding cell_of
  written h = rw (← w, ← cell, h)

  unwritten : publishes_in log m c ≡ false → c ≡ cell_of W (Turn to.DropReads s m) i
  unfolding cell_of
  unwritten h = rw (← w, ← cell, h)

  pub without_entry : none ≡ slot_in log m c → c ≡ cell_of W (Turn to.DropReads s m) i
  without_entry e = unwritten (unheld log m c e)

  module _ (k : ℕ) (e : some k ≡ slot_in log m c) where
    pub published : true ≡ publishes (entry_at log k) → 1024 ≡ cell_of W (Turn to.DropReads s m) i
    published h = written (first_judges log m c (sym e) ∙ sym h)

    pub unpublished : false ≡ publishes (entry_at log k) → c ≡ cell_of W (Turn to.DropReads s m) i
    unpublished h = unwritten (first_judges log m c (sym e) ∙ sym h)
