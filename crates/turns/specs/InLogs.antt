-- A turn on the logs of all sessions: the session's log among them is left as the turn leaves it, the others as they were.
use Rattle.std.specs.Prelude.{◌≡◌, ℕ, List, length}
use Rattle.model.specs.Buffers.{free, log_in, on_log}
use Rattle.model.specs.Plans.{write_plan}
use Rattle.model.specs.Slices.{Slice}
use Rattle.model.specs.Turns.{TurnEffect, leaves, turn_of}
use Rattle.records.specs.declared.Session.{Session}
use Rattle.records.specs.declared.Lock.{Lock}
use Rattle.records.specs.declared.Plan.{Plan}
use Rattle.records.specs.declared.Turn.{Turn}

-- a turn t of session s, with the logs in place of its log
abbrev pub in_logs : ℕ → List ℕ → TurnEffect → TurnEffect
in_logs s logs t = leaves t.answer t.values (on_log s (λ log. t.log) logs) t.session t.change

-- what a function left of lent values and logs, with what it answered, is the turn of the plan p
abbrev pub TakesIn : ℕ → Plan → Slice → Slice → Session → Turn → Type 0
TakesIn s p values logs x r =
    leaves r.answer values.exit.now logs.exit.now r.session r.change
    ≡ in_logs s logs.entry.now (turn_of p values.entry.now (log_in logs.entry.now s) x)

-- the same of a write with the lock l, by whatever table and classes p was decided as if nobody were claimant
abbrev pub TakesWriteIn : ℕ → Slice → Slice → Session → Lock → ℕ → ℕ → Plan → Turn → Type 0
TakesWriteIn s values logs x l c v p r =
    (T ks : List ℕ) → p ≡ write_plan T ks (length values.entry.now) (log_in logs.entry.now s) x free c v
    → TakesIn s (write_plan T ks (length values.entry.now) (log_in logs.entry.now s) x l c v) values logs x r
