-- What a change asks of its session alone follows from what it asks of all locks that it changes, by the cases of the change.
use Rattle.std.specs.Prelude.{ℕ, List}
use Rattle.records.specs.declared.Change.TheVariants.{Keep, Join, Claim, Acquire, Vacate, Withdraw, DropReads}
use Rattle.run_changes.specs.declared.Change.{Change}
use Rattle.run_changes.specs.declared.Change.TheVariants.{Turn, Clear}
use Rattle.run_changes.specs.Run.{SessionFits, ChangeFits}

-- a change that fits has a session that fits
pub session_fits : (logs : List ℕ) (d : Change) → ChangeFits logs d → SessionFits d
session_fits logs (Turn Keep s m) ok = tt
session_fits logs (Turn (Join c) s m) ok = ok
session_fits logs (Turn (Claim c) s m) ok = ok
session_fits logs (Turn (Acquire c) s m) ok = ok
session_fits logs (Turn (Vacate c) s m) ok = ok
session_fits logs (Turn Withdraw s m) ok = ok.0
session_fits logs (Turn DropReads s m) ok = ok.0
session_fits logs (Clear n) ok = tt
