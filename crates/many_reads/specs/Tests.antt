-- The tests that come before the first read, as numbers. Nothing here is part of what the call promises.
use Rattle.std.specs.Prelude.{ℕ, List, eqb}
use Rattle.model.specs.Buffers.{log_in}
use Rattle.model.specs.ManyReads.{list_refusal}
use Rattle.model.specs.Plans.{require, record_fits}
use Rattle.records.specs.declared.Session.{Session}
use Rattle.refusals.specs.Pieces.{match_of, admission, tested}
use Rattle.refusals.specs.declared.Lengths.{Lengths}

-- a refusal, or where its number is 0 the next
abbrev pub then_of : ℕ → ℕ → ℕ
then_of n m = require (eqb n 0) n m

-- 15 and 13, of so many cells and words; 7 and 1; then 9 and 2; 0 where all pass
unfoldable pub first_refusal : Session → Lengths → List ℕ → ℕ → ℕ → ℕ → ℕ
first_refusal x l logs s cells words =
    then_of (list_refusal cells words)
    (then_of (admission (match_of l) s) (tested (record_fits l.values (log_in logs s) x) (eqb x.phase 1)))
