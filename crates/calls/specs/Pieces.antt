-- What entering a new cell answers and leaves; and what a write is handed and answers, by whatever table it was decided.
use Rattle.std.specs.Prelude.{ℕ, ◌≡◌, List, Option, Some, None, cond, get_or, length}
use Rattle.model.specs.Slices.{Slice}
use Rattle.model.specs.Turns.{TakesTurn}
use Rattle.records.specs.declared.Turn.{Turn}
use Rattle.model.specs.Buffers.{free, appended}
use Rattle.model.specs.Plans.{claimed, write_plan}
use Rattle.records.specs.declared.Session.{Session}
use Rattle.records.specs.declared.Lock.{Lock}
use Rattle.records.specs.declared.Plan.{Plan}

-- the value of cell c, unless its lock is claimed
unfoldable pub found_unclaimed : List ℕ → Lock → ℕ → Option ℕ
found_unclaimed vs l c = cond (claimed l) None (Some (get_or vs c 0))

-- a log of k entries with that of cell c and its value, if there is one
abbrev pub logged : List ℕ → ℕ → ℕ → Option ℕ → List ℕ
logged log k c None = log
logged log k c (Some v) = appended log k c v

-- p is what a write decides, by some table and classes, as if nobody were claimant
pub record WriteDecided (n : ℕ) (log : List ℕ) (x : Session) (c v : ℕ) (p : Plan) : Type 0 where
  pub caps : List ℕ
  pub classes : List ℕ
  pub is : p ≡ write_plan caps classes n log x free c v

-- and its turn with the lock l is that of the write, by whatever table and classes p was decided
abbrev pub TurnsWrite : Slice → Slice → Session → Lock → ℕ → ℕ → Plan → Turn → Type 0
TurnsWrite values log x l c v p r =
    (T ks : List ℕ) → p ≡ write_plan T ks (length values.entry.now) log.entry.now x free c v
    → TakesTurn (write_plan T ks (length values.entry.now) log.entry.now x l c v) values log x r
