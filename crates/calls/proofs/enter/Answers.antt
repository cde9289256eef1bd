-- Claimed, nothing is found and the log stays; else the value, and the log with the entry.
use Rattle.std.proofs.Common.{refl, sym, ◌∙◌, arith}
use Rattle.calls.specs.Pieces.{found_unclaimed}
use Rattle.calls.proofs.enter.Goals as goal

pub append-requires : goal.append-requires
append-requires c = omega (arith, c.requires.0, c.requires.1)

pub returns-then-is_claimed : goal.returns-then-is_claimed
unfolding found_unclaimed
returns-then-is_claimed c = (rw (sym c.is_claimed.ensures ∙ c.if-is_claimed.true) refl, refl)

pub returns : goal.returns
unfolding found_unclaimed
returns c = (rw (sym c.is_claimed.ensures ∙ c.if-is_claimed.false) refl, c.append.ensures)
