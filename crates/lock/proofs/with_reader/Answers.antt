-- The or with the shifted one is joining (Digits).
use Rattle.lock.proofs.Digits.{shifted, or_joins}
use Rattle.lock.proofs.with_reader.Goals as goal

pub returns : goal.returns
returns c = rw (shifted 16 c.args.session c.requires) (or_joins c.args.session c.args.readers)
