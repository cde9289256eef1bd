-- What `replay` answers and leaves of the lent output: the contract's own definitions.
use Rattle.std.specs.Prelude.{ℕ, cond, List, ◌++◌, leb, length, drop, Option, Some, None}
use Rattle.replay_text.specs.Transcript.{transcript}

-- the answer, and the output afterwards
pub record Replayed : Type 0 where
  pub answer : Option ℕ
  pub output : List ℕ

abbrev pub replayed : Option ℕ → List ℕ → Replayed
replayed answer output = record { answer = answer; output = output }

-- in an output of 409,600 bytes or more the text stands at the front, and what follows is as before; a shorter one is left as before
unfoldable pub replaying : List ℕ → List ℕ → Replayed
replaying input output =
    cond (leb 409600 (length output))
    (replayed (Some (length (transcript input))) (transcript input ++ drop (length (transcript input)) output))
    (replayed None output)
