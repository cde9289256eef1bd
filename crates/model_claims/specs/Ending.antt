-- What an end tells, beside demand 3: a transaction that ends with the answer 105 is committed, and one that ends with
-- 6 or with an abandon is not (document 01: 105 committed).
use Rattle.std.specs.Prelude.{ℕ, ◌≡◌, true, false, List, [], ◌∷◌, eqb, length}
use Rattle.model.specs.Effects.{number}
use Rattle.model.specs.History.{Event, told, Name, transaction, is_open, committed}

-- the transaction x is open after h, and e, the next event, ends it
abbrev pub EndedBy : Name → Event → List Event → Type 0
EndedBy x e h = (is_open (transaction x (told [] h)) ≡ true) × (is_open (transaction x (told [] (e ∷ h))) ≡ false)

-- of the starting values and events, the newest first: a transaction that an event ends is committed exactly where the
-- event's answer is 105
abbrev pub EachEnds : List ℕ → List Event → Type 0
EachEnds first [] = Unit
EachEnds first (e ∷ h) =
    EachEnds first h
    × ((x : Name) → EndedBy x e h
    → committed (length first) (transaction x (told [] (e ∷ h))) ≡ eqb (number e.answer) 105)
