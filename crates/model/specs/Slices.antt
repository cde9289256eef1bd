-- What is lent to a call, as contracts see it: a slice or a number as it is passed and as it is left; of one lent to read, the two are equal. A lent table of
-- caps as the limits, and the part that a peek hands back, as a place in memory.
use Rattle.std.specs.Prelude.{◌≡◌, ℕ, ◌+◌, ◌*◌, List, [], length, take, drop}
use Rattle.std.specs.Borrow.{Bor, MutBor}
use denote.MutBor.{as_bor}
use denote.Triple.Both.{Both}
use Rattle.model.specs.Buffers.{Limits}
use Rattle.model.specs.Effects.{Part, store_word, log_word, no_word}

abbrev pub Slice : Type 0
Slice = Both (Bor (List ℕ)) (Bor (List ℕ))

abbrev pub Number : Type 0
Number = Both (Bor ℕ) (Bor ℕ)

-- one lent to be written, as these see it
abbrev pub as_lent : {A : Type 0} → Both (MutBor A) (MutBor A) → Both (Bor A) (Bor A)
as_lent x = record { entry = as_bor x.entry; exit = as_bor x.exit }

-- a lent table of caps as the limits, before the call and after it
abbrev pub caps_before : Slice → Limits
caps_before caps = record { caps = caps.entry.now }

abbrev pub caps_after : Slice → Limits
caps_after caps = record { caps = caps.exit.now }

-- r is the part of s that is n words of 4 bytes from place i: the words themselves, and not a copy; none of the n is missing
pub record PartOf (s : Bor (List ℕ)) (i n : ℕ) (r : Bor (List ℕ)) : Type 0 where
  pub block : r.ref_ptr.0 ≡ s.ref_ptr.0
  pub offset : r.ref_ptr.1 ≡ s.ref_ptr.1 + i * 4
  pub words : r.now ≡ take n (drop i s.now)
  pub long : length r.now ≡ n

-- what is handed back for a part: exactly one word of the values, exactly one word of the logs, or no word
abbrev pub IsPart : Bor (List ℕ) → Bor (List ℕ) → Part → Bor (List ℕ) → Type 0
IsPart values logs (store_word i) r = PartOf values i 1 r
IsPart values logs (log_word i) r = PartOf logs i 1 r
IsPart values logs no_word r = r.now ≡ []
