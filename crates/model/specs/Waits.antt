-- Orders in which a session waits, with how many others it waits for, and who is in its way (document 02, Paper 6). proofs/Orders.antt proves the tables by computation.
use Rattle.std.specs.Prelude.{ℕ, Bool, true, false, List, [], ◌∷◌, map}
use Rattle.records.specs.declared.Call.{Call}
use Rattle.records.specs.declared.Call.TheVariants.{Begin, Read, Write, Hold, Seal, Advance, Abandon}
use Rattle.records.specs.declared.Answer.{Answer}
use Rattle.records.specs.declared.Answer.TheVariants.{Done, Value, Sealed, Moved, Waiting, Committed, Refused}
use Rattle.model.specs.Buffers.{Store}
use Rattle.model.specs.InTheWay.{is_in_the_way, others_in_the_way}
use Rattle.model.specs.Orders.{Row, handed, two_cells}
use Rattle.model.specs.Step.{step, answer_of, set_up}

-- three others, two that run and one that promotes: one commits, one is rolled back, one abandons
unfoldable pub three_others : Row
three_others =
    two_cells (Begin 0 ∷ Begin 1 ∷ Begin 2 ∷ Begin 3 ∷ Write 0 0 4 ∷ Read 1 0 ∷ Read 2 0 ∷ Write 3 0 2 ∷ Seal 0 ∷ Seal 3 ∷ Advance 0
    ∷ Seal 1 ∷ Advance 0 ∷ Advance 3 ∷ Advance 0 ∷ Abandon 2 ∷ Advance 0 ∷ Advance 0 ∷ Advance 0 ∷ [])
    (Done ∷ Done ∷ Done ∷ Done ∷ Done ∷ Value 3 ∷ Value 3 ∷ Done ∷ Sealed ∷ Sealed ∷ Waiting 3
    ∷ Committed ∷ Waiting 2 ∷ Refused 6 ∷ Waiting 1 ∷ Done ∷ Moved ∷ Moved ∷ Committed ∷ []) (4 ∷ 5 ∷ [])

-- held cells count from the hold to the end of their session; asked again, the answer is the same
unfoldable pub holders_count : Row
holders_count =
    two_cells (Begin 0 ∷ Begin 1 ∷ Begin 2 ∷ Write 0 0 4 ∷ Hold 1 0 ∷ Hold 2 0 ∷ Seal 1 ∷ Seal 0 ∷ Advance 0 ∷ Advance 0 ∷ Advance 1 ∷ Advance 0 ∷ [])
    (Done ∷ Done ∷ Done ∷ Done ∷ Value 3 ∷ Value 3 ∷ Sealed ∷ Sealed ∷ Waiting 2 ∷ Waiting 2 ∷ Refused 6 ∷ Waiting 1 ∷ []) (3 ∷ 5 ∷ [])

-- what is written back counts until the seal, and each cell has its own number: cell 0 none, cell 1 two
unfoldable pub each_its_own : Row
each_its_own =
    two_cells (Begin 0 ∷ Begin 1 ∷ Begin 2 ∷ Write 0 0 4 ∷ Write 0 1 6 ∷ Write 1 0 3 ∷ Write 1 1 2 ∷ Read 2 1 ∷ Seal 0 ∷ Advance 0 ∷ Seal 1 ∷ Advance 0 ∷ Advance 0 ∷ [])
    (Done ∷ Done ∷ Done ∷ Done ∷ Done ∷ Done ∷ Done ∷ Value 5 ∷ Sealed ∷ Waiting 1 ∷ Sealed ∷ Moved ∷ Waiting 2 ∷ []) (3 ∷ 5 ∷ [])

-- all sixteen read the cell, and session 7 waits for the fifteen others. A set of sixteen takes long to count by computation: crate model_claims proves this one (Crowds.antt)
unfoldable pub fifteen_others : Row
fifteen_others =
    two_cells (Begin 0 ∷ Begin 1 ∷ Begin 2 ∷ Begin 3 ∷ Begin 4 ∷ Begin 5 ∷ Begin 6 ∷ Begin 7 ∷ Begin 8 ∷ Begin 9 ∷ Begin 10 ∷ Begin 11 ∷ Begin 12 ∷ Begin 13 ∷ Begin 14 ∷ Begin 15
    ∷ Read 0 0 ∷ Read 1 0 ∷ Read 2 0 ∷ Read 3 0 ∷ Read 4 0 ∷ Read 5 0 ∷ Read 6 0 ∷ Write 7 0 4 ∷ Read 8 0 ∷ Read 9 0 ∷ Read 10 0 ∷ Read 11 0 ∷ Read 12 0 ∷ Read 13 0 ∷ Read 14 0 ∷ Read 15 0
    ∷ Seal 7 ∷ Advance 7 ∷ [])
    (Done ∷ Done ∷ Done ∷ Done ∷ Done ∷ Done ∷ Done ∷ Done ∷ Done ∷ Done ∷ Done ∷ Done ∷ Done ∷ Done ∷ Done ∷ Done
    ∷ Value 3 ∷ Value 3 ∷ Value 3 ∷ Value 3 ∷ Value 3 ∷ Value 3 ∷ Value 3 ∷ Done ∷ Value 3 ∷ Value 3 ∷ Value 3 ∷ Value 3 ∷ Value 3 ∷ Value 3 ∷ Value 3 ∷ Value 3
    ∷ Sealed ∷ Waiting 15 ∷ []) (3 ∷ 5 ∷ [])

unfoldable pub waits : List Row
waits = three_others ∷ holders_count ∷ each_its_own ∷ []

-- ---- who is in the way, once calls were made on those two cells

-- which of sessions 0 to 3 are at a cell, how many that is of the others, and what an advance of the session is then answered
pub record Count : Type 0 where
  pub who : List Bool
  pub others : ℕ
  pub answer : Answer

pub record Way : Type 0 where
  pub calls : List Call
  pub session : ℕ
  pub cell : ℕ
  pub count : Count

abbrev way : List Call → ℕ → ℕ → List Bool → ℕ → Answer → Way
way ks s c who others a = record { calls = ks; session = s; cell = c; count = record { who = who; others = others; answer = a } }

unfoldable pub store_after : Store → List Call → Store
store_after σ [] = σ
store_after σ (k ∷ ks) = store_after (step k σ) ks

unfoldable pub count_of : Way → Count
count_of w =
    let σ = store_after (set_up (handed (3 ∷ 5 ∷ []) (2 ∷ 2 ∷ []))) w.calls in
    record {
      who = map (is_in_the_way σ w.cell) (0 ∷ 1 ∷ 2 ∷ 3 ∷ []);
      others = others_in_the_way σ w.session w.cell;
      answer = answer_of (Advance w.session) σ;
    }

unfoldable pub ways : List Way
ways =
    -- two that run and two that promote, for either of these
    way (Begin 0 ∷ Begin 1 ∷ Begin 2 ∷ Begin 3 ∷ Write 0 0 4 ∷ Read 1 0 ∷ Read 2 0 ∷ Write 3 0 2 ∷ Seal 0 ∷ Seal 3 ∷ []) 0 0 (true ∷ true ∷ true ∷ true ∷ []) 3 (Waiting 3)
    ∷ way (Begin 0 ∷ Begin 1 ∷ Begin 2 ∷ Begin 3 ∷ Write 0 0 4 ∷ Read 1 0 ∷ Read 2 0 ∷ Write 3 0 2 ∷ Seal 0 ∷ Seal 3 ∷ []) 3 0 (true ∷ true ∷ true ∷ true ∷ []) 3 (Waiting 3)
    -- one that promotes is at the cell that it changed, and not at the one that it wrote back; one that runs at the cell in its log
    ∷ way (Begin 0 ∷ Begin 1 ∷ Begin 2 ∷ Write 0 0 4 ∷ Write 0 1 6 ∷ Write 1 0 3 ∷ Write 1 1 2 ∷ Read 2 1 ∷ Seal 0 ∷ Seal 1 ∷ []) 0 0 (true ∷ false ∷ false ∷ false ∷ []) 0 Moved
    ∷ way (Begin 0 ∷ Begin 1 ∷ Begin 2 ∷ Write 0 0 4 ∷ Write 0 1 6 ∷ Write 1 0 3 ∷ Write 1 1 2 ∷ Read 2 1 ∷ Seal 0 ∷ Seal 1 ∷ Advance 0 ∷ []) 0 1
    (true ∷ true ∷ true ∷ false ∷ []) 2 (Waiting 2)
    -- one that holds a cell, and one that has abandoned
    ∷ way (Begin 0 ∷ Begin 1 ∷ Begin 2 ∷ Write 0 0 4 ∷ Hold 1 0 ∷ Read 2 0 ∷ Seal 1 ∷ Abandon 2 ∷ Seal 0 ∷ []) 0 0 (true ∷ true ∷ false ∷ false ∷ []) 1 (Waiting 1)
    -- from phase 3 on nobody waits at the cell: another that comes to it meets the claim
    ∷ way (Begin 0 ∷ Begin 1 ∷ Write 0 0 4 ∷ Seal 0 ∷ Advance 0 ∷ []) 0 0 (false ∷ false ∷ false ∷ false ∷ []) 0 Moved
    ∷ []
