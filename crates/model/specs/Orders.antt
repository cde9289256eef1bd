-- The starred orders of document 01, "Orders to try": a row for each star; two more, and orders with values written back. proofs/Orders.antt proves the tables by
-- computation; Rounds.antt has orders with many reads, Holding.antt those with holds.
use Rattle.std.specs.Prelude.{ℕ, List, [], ◌∷◌, length, replicate}
use Rattle.records.specs.declared.Call.{Call}
use Rattle.records.specs.declared.Call.TheVariants.{Begin, Read, Write, Seal, Advance, Abandon}
use Rattle.records.specs.declared.Answer.{Answer}
use Rattle.records.specs.declared.Answer.TheVariants.{Done, Value, Sealed, Moved, Waiting, Committed, Refused}
use Rattle.model.specs.Buffers.{Store, ours}
use Rattle.model.specs.Step.{step, answer_of, set_up_answer, set_up}

-- a row: the cells at set-up, the calls in order, what each must answer, and the values at the end
pub record Row : Type 0 where
  pub values : List ℕ
  pub classes : List ℕ
  pub calls : List Call
  pub answers : List Answer
  pub ends : List ℕ

-- what a row comes to: set-up's answer, the calls' answers, and the values at the end
pub record Result : Type 0 where
  pub set_up : Answer
  pub answers : List Answer
  pub ends : List ℕ

-- the store handed to set-up: values, classes, and locks and logs with something left in them
abbrev pub handed : List ℕ → List ℕ → Store
handed values classes =
    let n = length values in
    record {
      lent = record {
        values = values;
        classes = classes;
        locks = record { readers = replicate n 5; claimants = replicate n 2; exclusives = replicate n 1 };
        logs = replicate 2048 7;
      };
      limits = ours;
      sessions = record { records = replicate 16 (record { phase = 3; count = 9; next = 1 }) };
    }

unfoldable pub given : Row → Store
given r = handed r.values r.classes

unfoldable pub answers_from : Store → List Call → List Answer
answers_from σ [] = []
answers_from σ (k ∷ ks) = answer_of k σ ∷ answers_from (step k σ) ks

unfoldable pub values_after : Store → List Call → List ℕ
values_after σ [] = σ.lent.values
values_after σ (k ∷ ks) = values_after (step k σ) ks

unfoldable pub result : Row → Result
result r =
    let σ = set_up (given r) in
    record { set_up = set_up_answer (given r); answers = answers_from σ r.calls; ends = values_after σ r.calls }

unfoldable pub expected : Row → Result
expected r = record { set_up = Done; answers = r.answers; ends = r.ends }

-- ---- the rows

-- sessions 0 and 1 write one cell: 0 waits for 1's reader lock, 1 meets 0's claim
unfoldable pub listing : Row
listing =
    record {
      values = 3 ∷ 5 ∷ [];
      classes = 2 ∷ 2 ∷ [];
      calls = Begin 0 ∷ Begin 1 ∷ Read 0 0 ∷ Read 1 0 ∷ Write 0 0 4 ∷ Write 1 0 2 ∷ Seal 0 ∷ Seal 1 ∷ Advance 0 ∷ Advance 1 ∷ Advance 0 ∷ Advance 0 ∷ Advance 0 ∷ [];
      answers = Done ∷ Done ∷ Value 3 ∷ Value 3 ∷ Done ∷ Done ∷ Sealed ∷ Sealed ∷ Waiting 1 ∷ Refused 6 ∷ Moved ∷ Moved ∷ Committed ∷ [];
      ends = 4 ∷ 5 ∷ [];
    }

-- write skew: both read both cells and write different ones, and both commit
unfoldable pub skew : Row
skew =
    record {
      values = 3 ∷ 5 ∷ [];
      classes = 2 ∷ 2 ∷ [];
      calls = Begin 0 ∷ Begin 1 ∷ Read 0 0 ∷ Read 0 1 ∷ Read 1 0 ∷ Read 1 1 ∷ Write 0 0 1 ∷ Write 1 1 2 ∷ Seal 0 ∷ Seal 1
          ∷ Advance 0 ∷ Advance 0 ∷ Advance 0 ∷ Advance 1 ∷ Advance 1 ∷ Advance 1 ∷ [];
      answers = Done ∷ Done ∷ Value 3 ∷ Value 5 ∷ Value 3 ∷ Value 5 ∷ Done ∷ Done ∷ Sealed ∷ Sealed
          ∷ Moved ∷ Moved ∷ Committed ∷ Moved ∷ Moved ∷ Committed ∷ [];
      ends = 1 ∷ 2 ∷ [];
    }

-- the same, with session 0 advanced before session 1 seals
unfoldable pub skew_unsealed : Row
skew_unsealed =
    record {
      values = 3 ∷ 5 ∷ [];
      classes = 2 ∷ 2 ∷ [];
      calls = Begin 0 ∷ Begin 1 ∷ Read 0 0 ∷ Read 0 1 ∷ Read 1 0 ∷ Read 1 1 ∷ Write 0 0 1 ∷ Write 1 1 2 ∷ Seal 0 ∷ Advance 0 ∷ [];
      answers = Done ∷ Done ∷ Value 3 ∷ Value 5 ∷ Value 3 ∷ Value 5 ∷ Done ∷ Done ∷ Sealed ∷ Waiting 1 ∷ [];
      ends = 3 ∷ 5 ∷ [];
    }

-- after line 9 of the listing a new reader meets the claim
unfoldable pub read_past_claim : Row
read_past_claim =
    record {
      values = 3 ∷ 5 ∷ [];
      classes = 2 ∷ 2 ∷ [];
      calls = Begin 0 ∷ Begin 1 ∷ Read 0 0 ∷ Read 1 0 ∷ Write 0 0 4 ∷ Write 1 0 2 ∷ Seal 0 ∷ Seal 1 ∷ Advance 0 ∷ Begin 2 ∷ Read 2 0 ∷ [];
      answers = Done ∷ Done ∷ Value 3 ∷ Value 3 ∷ Done ∷ Done ∷ Sealed ∷ Sealed ∷ Waiting 1 ∷ Done ∷ Refused 6 ∷ [];
      ends = 3 ∷ 5 ∷ [];
    }

-- one cell of class 2, whose cap is 8
abbrev pub one_cell : List Call → List Answer → Row
one_cell calls answers = record { values = 3 ∷ []; classes = 2 ∷ []; calls = calls; answers = answers; ends = 3 ∷ [] }

unfoldable pub write_at_cap : Row
write_at_cap = one_cell (Begin 0 ∷ Write 0 0 8 ∷ []) (Done ∷ Done ∷ [])

unfoldable pub write_above_cap : Row
write_above_cap = one_cell (Begin 0 ∷ Write 0 0 9 ∷ []) (Done ∷ Refused 4 ∷ [])

unfoldable pub last_session : Row
last_session = one_cell (Begin 15 ∷ []) (Done ∷ [])

unfoldable pub no_such_session : Row
no_such_session = one_cell (Begin 16 ∷ []) (Refused 1 ∷ [])

unfoldable pub begin_twice : Row
begin_twice = one_cell (Begin 0 ∷ Begin 0 ∷ []) (Done ∷ Refused 2 ∷ [])

unfoldable pub begin_seal : Row
begin_seal = one_cell (Begin 0 ∷ Seal 0 ∷ []) (Done ∷ Committed ∷ [])

unfoldable pub abandon_publishing : Row
abandon_publishing = one_cell (Begin 0 ∷ Write 0 0 1 ∷ Seal 0 ∷ Advance 0 ∷ Abandon 0 ∷ []) (Done ∷ Done ∷ Sealed ∷ Moved ∷ Refused 2 ∷ [])

unfoldable pub orders : List Row
orders =
    listing ∷ skew ∷ skew_unsealed ∷ read_past_claim ∷ write_at_cap ∷ write_above_cap ∷ last_session ∷ no_such_session ∷ begin_twice ∷ begin_seal ∷ abandon_publishing ∷ []

-- ---- two orders more, for wrong stores that no starred order shows (document 01, "Wrong stores that look sound")

-- session 0 writes both cells while session 1 reads cell 1: nothing is published while cell 1 is unpromoted
unfoldable pub unpromoted : Row
unpromoted =
    record {
      values = 3 ∷ 5 ∷ [];
      classes = 2 ∷ 2 ∷ [];
      calls = Begin 0 ∷ Begin 1 ∷ Write 0 0 4 ∷ Write 0 1 6 ∷ Read 1 1 ∷ Seal 0 ∷ Advance 0 ∷ Advance 0 ∷ [];
      answers = Done ∷ Done ∷ Done ∷ Done ∷ Value 5 ∷ Sealed ∷ Moved ∷ Waiting 1 ∷ [];
      ends = 3 ∷ 5 ∷ [];
    }

-- session 0 has published cell 0 and not yet cell 1: no cell is free
unfoldable pub half_published : Row
half_published =
    record {
      values = 3 ∷ 5 ∷ [];
      classes = 2 ∷ 2 ∷ [];
      calls = Begin 0 ∷ Write 0 0 4 ∷ Write 0 1 6 ∷ Seal 0 ∷ Advance 0 ∷ Advance 0 ∷ Advance 0 ∷ Begin 1 ∷ Read 1 0 ∷ [];
      answers = Done ∷ Done ∷ Done ∷ Sealed ∷ Moved ∷ Moved ∷ Moved ∷ Done ∷ Refused 6 ∷ [];
      ends = 4 ∷ 5 ∷ [];
    }

unfoldable pub traps : List Row
traps = unpromoted ∷ half_published ∷ []

-- ---- orders with values written back (document 02, Paper 2), on the cells of the listing

abbrev pub two_cells : List Call → List Answer → List ℕ → Row
two_cells calls answers ends = record { values = 3 ∷ 5 ∷ []; classes = 2 ∷ 2 ∷ []; calls = calls; answers = answers; ends = ends }

-- two kiosks read a value and write it back: both commit with their seals
unfoldable pub both_back : Row
both_back =
    two_cells (Begin 0 ∷ Begin 1 ∷ Read 0 0 ∷ Read 1 0 ∷ Write 0 0 3 ∷ Write 1 0 3 ∷ Seal 0 ∷ Seal 1 ∷ [])
    (Done ∷ Done ∷ Value 3 ∷ Value 3 ∷ Done ∷ Done ∷ Committed ∷ Committed ∷ []) (3 ∷ 5 ∷ [])

-- another value and then the one found: not written; the one found and then another: written
unfoldable pub there_and_back : Row
there_and_back = two_cells (Begin 0 ∷ Write 0 0 4 ∷ Write 0 0 3 ∷ Read 0 0 ∷ Seal 0 ∷ []) (Done ∷ Done ∷ Done ∷ Value 3 ∷ Committed ∷ []) (3 ∷ 5 ∷ [])

unfoldable pub back_and_there : Row
back_and_there =
    two_cells (Begin 0 ∷ Write 0 0 3 ∷ Write 0 0 4 ∷ Seal 0 ∷ Advance 0 ∷ Advance 0 ∷ Advance 0 ∷ [])
    (Done ∷ Done ∷ Done ∷ Sealed ∷ Moved ∷ Moved ∷ Committed ∷ []) (4 ∷ 5 ∷ [])

-- of two cells with a write one is changed: three advances end it, and not six, though another session reads the cell that is written back
unfoldable pub one_changed : Row
one_changed =
    two_cells (Begin 1 ∷ Read 1 0 ∷ Begin 0 ∷ Write 0 0 3 ∷ Write 0 1 6 ∷ Seal 0 ∷ Advance 0 ∷ Advance 0 ∷ Advance 0 ∷ [])
    (Done ∷ Value 3 ∷ Done ∷ Done ∷ Done ∷ Sealed ∷ Moved ∷ Moved ∷ Committed ∷ []) (3 ∷ 6 ∷ [])

-- between the seal and the commit of a session another changes the cell that it wrote back: their spans meet, and nobody waits
unfoldable pub changed_meanwhile : Row
changed_meanwhile =
    two_cells (Begin 0 ∷ Begin 1 ∷ Write 0 0 3 ∷ Write 0 1 6 ∷ Write 1 0 4 ∷ Seal 0 ∷ Seal 1 ∷ Advance 1 ∷ Advance 0 ∷ Advance 1 ∷ Advance 1 ∷ Advance 0 ∷ Advance 0 ∷ [])
    (Done ∷ Done ∷ Done ∷ Done ∷ Done ∷ Sealed ∷ Sealed ∷ Moved ∷ Moved ∷ Moved ∷ Committed ∷ Moved ∷ Committed ∷ []) (4 ∷ 6 ∷ [])

-- until its seal the session reads the cell, and others wait for it
unfoldable pub back_unsealed : Row
back_unsealed =
    two_cells (Begin 0 ∷ Begin 1 ∷ Write 0 0 3 ∷ Write 1 0 4 ∷ Seal 1 ∷ Advance 1 ∷ Seal 0 ∷ Advance 1 ∷ [])
    (Done ∷ Done ∷ Done ∷ Done ∷ Sealed ∷ Waiting 1 ∷ Committed ∷ Moved ∷ []) (3 ∷ 5 ∷ [])

-- the value found is the one that the last commit left, not the starting one
unfoldable pub found_later : Row
found_later =
    two_cells (Begin 0 ∷ Write 0 0 4 ∷ Seal 0 ∷ Advance 0 ∷ Advance 0 ∷ Advance 0 ∷ Begin 0 ∷ Write 0 0 4 ∷ Seal 0 ∷ Begin 0 ∷ Write 0 0 3 ∷ Seal 0 ∷ [])
    (Done ∷ Done ∷ Sealed ∷ Moved ∷ Moved ∷ Committed ∷ Done ∷ Done ∷ Committed ∷ Done ∷ Done ∷ Sealed ∷ []) (4 ∷ 5 ∷ [])

unfoldable pub written_back : List Row
written_back = both_back ∷ there_and_back ∷ back_and_there ∷ one_changed ∷ changed_meanwhile ∷ back_unsealed ∷ found_later ∷ []
