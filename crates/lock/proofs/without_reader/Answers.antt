-- The and with the complement of the shifted one is leaving (Digits).
use Rattle.lock.proofs.Digits.{shifted, and_leaves}
use Rattle.lock.proofs.without_reader.Goals as goal

pub returns : goal.returns
returns c = rw (shifted 16 c.args.session c.requires) (and_leaves 16 c.args.session c.args.readers c.requires c.ranges.readers.fits)
