-- What a call tells of its session's transaction by its answer, and a write and a hold also by the value found (document 01, "What demand 3 counts"): the words of demand 3
-- know no calls and no answers, only what is told here. A call added later says here what it tells.
use Rattle.std.specs.Prelude.{ℕ, Bool, true, false, cond, not, ◌||◌, List, [], ◌∷◌, ◌++◌, eqb}
use Rattle.records.specs.declared.Call.{Call}
use Rattle.records.specs.declared.Call.TheVariants.{Begin, Read, Write, Seal, Advance, Abandon, Peek, Hold}
use Rattle.records.specs.declared.Answer.{Answer}
use Rattle.model.specs.Buffers.{Store, look_in, found_of}
use Rattle.model.specs.Effects.{number, value_of, record_of, log_of}

-- began: a begin answered 100; got: a read of a cell answered 101, with the value; put: a write to a cell answered 100, with the value
-- and with the value found in the cell; held: a hold of a cell answered 101, with the value and with the value found; sealed: a seal answered 102 or 105;
-- moved: an advance answered 103; ended: an answer 6 or 105, or an abandon answered 100
pub data Told : Type 0 where
  began : Told
  got : ℕ → ℕ → Told
  put : ℕ → ℕ → ℕ → Told
  held : ℕ → ℕ → ℕ → Told
  sealed : Told
  moved : Told
  ended : Told

-- an answer 6 or 105 to any call ends the transaction; any other answer that is not named below tells nothing
unfoldable pub ending : Answer → List Told
ending a = cond (eqb (number a) 6 || eqb (number a) 105) (ended ∷ []) []

-- the value found is no answer's: it is taken from the log that a write or a hold leaves (document 02, Papers 2 and 4)
abbrev pub found_by : Call → Store → ℕ
found_by (Begin s) τ = 0
found_by (Read s c) τ = 0
found_by (Write s c v) τ = found_of (look_in (log_of τ s) (record_of τ s).count c)
found_by (Seal s) τ = 0
found_by (Advance s) τ = 0
found_by (Abandon s) τ = 0
found_by (Peek s c) τ = 0
found_by (Hold s c) τ = found_of (look_in (log_of τ s) (record_of τ s).count c)

-- what a call tells with its answer and with the value found, which a write and a hold tell; the newest first: a seal answered 105 tells the seal and then the end; a peek's word does not count as read
unfoldable pub tells : Call → Answer → ℕ → List Told
tells (Begin s) a f = cond (eqb (number a) 100) (began ∷ []) (ending a)
tells (Read s c) a f = cond (eqb (number a) 101) (got c (value_of a) ∷ []) (ending a)
tells (Write s c v) a f = cond (eqb (number a) 100) (put c v f ∷ []) (ending a)
tells (Seal s) a f = cond (eqb (number a) 102) (sealed ∷ []) (cond (eqb (number a) 105) (ended ∷ sealed ∷ []) (ending a))
tells (Advance s) a f = cond (eqb (number a) 103) (moved ∷ []) (ending a)
tells (Abandon s) a f = cond (eqb (number a) 100) (ended ∷ []) (ending a)
tells (Peek s c) a f = ending a
tells (Hold s c) a f = cond (eqb (number a) 101) (held c (value_of a) f ∷ []) (ending a)

-- what many reads of cells tell by the values that they obtained and their last answer, the newest first: as much as these reads would tell one by one, and nothing
-- where the list was refused (`as_single_reads` and `refused_tell` in proofs/ManyReads.antt)
unfoldable pub reads_tell : List ℕ → List ℕ → Answer → List Told
reads_tell [] vs a = ending a
reads_tell (c ∷ cs) [] a = ending a
reads_tell (c ∷ cs) (v ∷ vs) a = reads_tell cs vs a ++ got c v ∷ []

-- ---- one test for each kind of thing told

abbrev pub begins : Told → Bool
begins began = true
begins (got c v) = false
begins (put c v f) = false
begins (held c v f) = false
begins sealed = false
begins moved = false
begins ended = false

-- a write to cell d
abbrev pub writes : Told → ℕ → Bool
writes began d = false
writes (got c v) d = false
writes (put c v f) d = eqb c d
writes (held c v f) d = false
writes sealed d = false
writes moved d = false
writes ended d = false

-- a write of a value other than the one found
abbrev pub differs : Told → Bool
differs began = false
differs (got c v) = false
differs (put c v f) = not (eqb v f)
differs (held c v f) = false
differs sealed = false
differs moved = false
differs ended = false

-- a hold of cell d
abbrev pub holds : Told → ℕ → Bool
holds began d = false
holds (got c v) d = false
holds (put c v f) d = false
holds (held c v f) d = eqb c d
holds sealed d = false
holds moved d = false
holds ended d = false

abbrev pub seals : Told → Bool
seals began = false
seals (got c v) = false
seals (put c v f) = false
seals (held c v f) = false
seals sealed = true
seals moved = false
seals ended = false

abbrev pub moves : Told → Bool
moves began = false
moves (got c v) = false
moves (put c v f) = false
moves (held c v f) = false
moves sealed = false
moves moved = true
moves ended = false

abbrev pub ends : Told → Bool
ends began = false
ends (got c v) = false
ends (put c v f) = false
ends (held c v f) = false
ends sealed = false
ends moved = false
ends ended = true

-- ---- what is told with a cell

-- the value written; of a hold, the value found
abbrev pub value_put : Told → ℕ
value_put began = 0
value_put (got c v) = 0
value_put (put c v f) = v
value_put (held c v f) = f
value_put sealed = 0
value_put moved = 0
value_put ended = 0

-- a claim about the value got from a cell
abbrev pub WhereGot : (ℕ → ℕ → Type 0) → Told → Type 0
WhereGot P began = Unit
WhereGot P (got c v) = P c v
WhereGot P (put c v f) = Unit
WhereGot P (held c v f) = P c v
WhereGot P sealed = Unit
WhereGot P moved = Unit
WhereGot P ended = Unit

-- a value read of a cell, or found there
pub record ReadOf : Type 0 where
  pub cell : ℕ
  pub value : ℕ

-- a value got is one read more, unless its cell passes a test
abbrev pub read_unless : (ℕ → Bool) → Told → List ReadOf → List ReadOf
read_unless w began rs = rs
read_unless w (got c v) rs = cond (w c) rs (record { cell = c; value = v } ∷ rs)
read_unless w (put c v f) rs = rs
read_unless w (held c v f) rs = cond (w c) rs (record { cell = c; value = v } ∷ rs)
read_unless w sealed rs = rs
read_unless w moved rs = rs
read_unless w ended rs = rs

-- a value found with a write or a hold is one more
abbrev pub and_found : Told → List ReadOf → List ReadOf
and_found began rs = rs
and_found (got c v) rs = rs
and_found (put c v f) rs = record { cell = c; value = f } ∷ rs
and_found (held c v f) rs = record { cell = c; value = f } ∷ rs
and_found sealed rs = rs
and_found moved rs = rs
and_found ended rs = rs
