-- The numbers with which a field is answered (document 01, "The steps" and "When a call is turned down").
-- Assumes nothing.
use Rattle.std.specs.Prelude.{ℕ}
use Rattle.field.specs.declared.Refusal.{Refusal}
use Rattle.field.specs.declared.Refusal.TheVariants.{CutShort, UnknownTag, WrongLength, ShortTarget}

-- A field was read or written.
abbrev pub done : ℕ
done = 100

-- No bytes are left.
abbrev pub end_of_fields : ℕ
end_of_fields = 106

-- A field cut short: in the three bytes before its body, or in its body.
abbrev pub cut_short : ℕ
cut_short = 10

-- A tag that the table lacks.
abbrev pub unknown_tag : ℕ
unknown_tag = 11

-- A length other than the tag's own.
abbrev pub wrong_length : ℕ
wrong_length = 12

-- A target with fewer bytes than the field.
abbrev pub short_target : ℕ
short_target = 13

-- The number of each refusal.
abbrev pub number_of : Refusal → ℕ
number_of CutShort = cut_short
number_of UnknownTag = unknown_tag
number_of WrongLength = wrong_length
number_of ShortTarget = short_target
