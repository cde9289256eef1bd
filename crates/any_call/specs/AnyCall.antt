-- Any call's turn: the cell whose lock it may need, and what it decides with that lock.
use Rattle.std.specs.Prelude.{ℕ, List}
use Rattle.model.specs.Buffers.{ours}
use Rattle.model.specs.Plans.{plan}
use Rattle.records.specs.declared.Session.{Session}
use Rattle.records.specs.declared.Lock.{Lock}
use Rattle.records.specs.declared.Plan.{Plan}
use Rattle.records.specs.declared.Call.{Call}
use Rattle.records.specs.declared.Call.TheVariants.{Begin, Read, Write, Seal, Advance, Abandon, Peek, Hold}
use Rattle.advance.specs.Pieces.{due_on, due_cell}

-- by its session's log and record, of n cells; 0 where it needs none
unfoldable pub cell_for : Call → ℕ → List ℕ → Session → ℕ
cell_for (Begin s) n log x = 0
cell_for (Read s c) n log x = c
cell_for (Write s c v) n log x = c
cell_for (Seal s) n log x = 0
cell_for (Advance s) n log x = due_cell log (due_on n log x)
cell_for (Abandon s) n log x = 0
cell_for (Peek s c) n log x = 0
cell_for (Hold s c) n log x = c

-- by our caps, with that lock
abbrev pub plan_with : Call → ℕ → List ℕ → List ℕ → Session → Lock → Plan
plan_with k n classes log x l = plan k n classes ours log x (λ c. l)
