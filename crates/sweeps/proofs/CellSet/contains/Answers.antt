-- The shifted word's lowest digit is the cell's (Digits).
use Rattle.sweeps.specs.Sweeps.{marked}
use Rattle.lock.proofs.Digits.{shift_tells}
use Rattle.sweeps.proofs.CellSet.contains.Goals as goal

pub returns : goal.returns
unfolding marked
returns c = rw (← c.self.view_is) (shift_tells _ _)
