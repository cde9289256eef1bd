-- No refusal's number is 0, which is a passed test's.
use mathlib.Core.Path.{◌≡◌}
use native.Mathlib.Omega.{arith}
use Rattle.records.specs.declared.Refusal.{Refusal}
use Rattle.records.specs.declared.Refusal.TheVariants.{UnknownSession, WrongPhase, UnknownCell, AboveCap, FullLog, Conflict, WrongLengths, UnknownClass, DamagedRecord, ShortTarget, NotEntered, WrongList, WrongCaps, ValueAboveCaps}
use Rattle.records.specs.Records.{refusal_number}

pub nonzero : (r : Refusal) → refusal_number r ≡ 0 → ⊥
nonzero UnknownSession h = omega arith
nonzero WrongPhase h = omega arith
nonzero UnknownCell h = omega arith
nonzero AboveCap h = omega arith
nonzero FullLog h = omega arith
nonzero Conflict h = omega arith
nonzero WrongLengths h = omega arith
nonzero UnknownClass h = omega arith
nonzero DamagedRecord h = omega arith
nonzero ShortTarget h = omega arith
nonzero NotEntered h = omega arith
nonzero WrongList h = omega arith
nonzero WrongCaps h = omega arith
nonzero ValueAboveCaps h = omega arith
