-- The session leaves the readers of the cell; where the claimant is its own, claim and mark go too.
use Rattle.sweeps.proofs.Sweeps.{withdraw_own, withdraw_other}
use Rattle.sweeps.proofs.withdraw_at.Goals as goal

pub returns-then-locks-c-clause-withdrawn : goal.returns-then-locks-c-clause-withdrawn
returns-then-locks-c-clause-withdrawn c =
    let l = c.args.locks.now in
    rw c.leave_at.ensures (withdraw_own _ _ _ _ l.claimant_each l.exclusive_each c.requires.1 _ c.if-locks-c.true)

pub returns-else-locks-c-clause-withdrawn : goal.returns-else-locks-c-clause-withdrawn
returns-else-locks-c-clause-withdrawn c =
    let l = c.args.locks.now in
    rw c.leave_at.ensures (withdraw_other _ _ _ _ l.claimant_each l.exclusive_each c.requires.1 _ c.if-locks-c.false)
