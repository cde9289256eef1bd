-- Orders with many reads in one call (document 02, Paper 1): what the call answers after calls, and all that it leaves. proofs/Rounds.antt proves the table by
-- computation.
use Rattle.std.specs.Prelude.{ℕ, List, [], ◌∷◌, ◌++◌, reverse, length, replicate, take}
use Rattle.records.specs.declared.Call.{Call}
use Rattle.records.specs.declared.Call.TheVariants.{Begin, Read, Write, Seal, Advance}
use Rattle.records.specs.declared.Session.{Session}
use Rattle.model.specs.Buffers.{Locks, Store, with_session, with_entries}
use Rattle.model.specs.Effects.{number, record_of, log_of}
use Rattle.model.specs.History.{as_actions, run}
use Rattle.model.specs.ManyReads.{read_many_effect}
use Rattle.model.specs.Orders.{handed}
use Rattle.model.specs.Step.{set_up_answer, set_up}

-- what is found after set-up, calls and many reads: set-up's number; the number and the count answered, and the target; the session's record, the locks, and the
-- first words of the session's log
pub record Found : Type 0 where
  pub set_up : ℕ
  pub number : ℕ
  pub count : ℕ
  pub target : List ℕ
  pub session : Session
  pub locks : Locks
  pub log : List ℕ

-- the cells at set-up, the calls in order, what else is done to the store before the reads, the session, the cells that it reads, its target, and what must be found
pub record Round : Type 0 where
  pub values : List ℕ
  pub classes : List ℕ
  pub calls : List Call
  pub damage : Store → Store
  pub reader : ℕ
  pub cells : List ℕ
  pub target : List ℕ
  pub found : Found

-- the store before the reads
unfoldable pub read_from : Round → Store
read_from r = r.damage (run (set_up (handed r.values r.classes)) (reverse (as_actions r.calls)))

unfoldable pub found_of : Round → Found
found_of r =
    let o = read_many_effect r.reader r.cells r.target (read_from r) in
    record {
      set_up = number (set_up_answer (handed r.values r.classes));
      number = o.number;
      count = o.count;
      target = o.target;
      session = record_of o.store r.reader;
      locks = o.store.lent.locks;
      log = take (length r.found.log) (log_of o.store r.reader);
    }

-- an answer with its count and target; a session's record with its phase and count, its log, and the locks
abbrev pub found : ℕ → ℕ → List ℕ → ℕ → ℕ → List ℕ → List ℕ → List ℕ → List ℕ → Found
found k m target phase count log rs cs es =
    record {
      set_up = 100;
      number = k;
      count = m;
      target = target;
      session = record { phase = phase; count = count; next = 0 };
      locks = record { readers = rs; claimants = cs; exclusives = es };
      log = log;
    }

-- four cells; with calls alone before the reads; and nobody claimant
abbrev pub four_damaged : List Call → (Store → Store) → ℕ → List ℕ → List ℕ → Found → Round
four_damaged calls damage s cells target f =
    record { values = 3 ∷ 5 ∷ 7 ∷ 9 ∷ []; classes = 4 ∷ 4 ∷ 4 ∷ 4 ∷ []; calls = calls; damage = damage; reader = s; cells = cells; target = target; found = f }

abbrev pub four_cells : List Call → ℕ → List ℕ → List ℕ → Found → Round
four_cells calls s cells target f = four_damaged calls (λ σ. σ) s cells target f

abbrev pub unclaimed : ℕ → ℕ → List ℕ → ℕ → ℕ → List ℕ → List ℕ → Found
unclaimed k m target phase count log rs = found k m target phase count log rs (16 ∷ 16 ∷ 16 ∷ 16 ∷ []) (0 ∷ 0 ∷ 0 ∷ 0 ∷ [])

-- session 0 runs with one entry, and its record is made to say 33: nothing is obtained, and all is as before
abbrev pub wrong_count : List ℕ → List ℕ → ℕ → Round
wrong_count cells target k =
    four_damaged (Begin 0 ∷ Read 0 3 ∷ []) (λ σ. record { lent = σ.lent; limits = σ.limits; sessions = with_session σ.sessions 0 (with_entries 33 (record_of σ 0)) }) 0 cells target
    (unclaimed k 0 target 1 33 (3 ∷ 9 ∷ 9 ∷ 0 ∷ 0 ∷ 0 ∷ []) (0 ∷ 0 ∷ 0 ∷ 1 ∷ []))

-- classes for three of four cells: set-up is refused by 7, and the store is as it was handed over
abbrev pub wrong_lengths : List ℕ → ℕ → Round
wrong_lengths target k =
    record {
      values = 3 ∷ 5 ∷ 7 ∷ 9 ∷ [];
      classes = 4 ∷ 4 ∷ 4 ∷ [];
      calls = [];
      damage = λ σ. σ;
      reader = 0;
      cells = 0 ∷ 1 ∷ [];
      target = target;
      found = record {
        set_up = 7;
        number = k;
        count = 0;
        target = target;
        session = record { phase = 3; count = 9; next = 1 };
        locks = record { readers = replicate 4 5; claimants = replicate 4 2; exclusives = replicate 4 1 };
        log = 7 ∷ 7 ∷ [];
      };
    }

abbrev pub thirty_two : List ℕ
thirty_two =
    0 ∷ 1 ∷ 2 ∷ 3 ∷ 4 ∷ 5 ∷ 6 ∷ 7 ∷ 8 ∷ 9 ∷ 10 ∷ 11 ∷ 12 ∷ 13 ∷ 14 ∷ 15 ∷ 16 ∷ 17 ∷ 18 ∷ 19 ∷ 20 ∷ 21 ∷ 22 ∷ 23 ∷ 24 ∷ 25 ∷ 26 ∷ 27 ∷ 28 ∷ 29 ∷ 30 ∷ 31 ∷ []

-- session 0 reads thirty-two of thirty-four cells, whose values are all 1
abbrev pub many_cells : List Call → Found → Round
many_cells calls f =
    record { values = replicate 34 1; classes = replicate 34 0; calls = calls; damage = λ σ. σ; reader = 0; cells = thirty_two; target = replicate 32 9; found = f }

-- the words of a log by which these cells were read, each with value 1
abbrev pub log_of_ones : List ℕ → List ℕ
log_of_ones [] = []
log_of_ones (c ∷ cs) = c ∷ 1 ∷ 1 ∷ 0 ∷ log_of_ones cs

-- the third cell is claimed by session 1: 6, and session 0 is idle and no reader; its log's words stay
abbrev pub third_claimed : List ℕ → List ℕ → ℕ → List ℕ → List ℕ → Round
third_claimed cells target m after log =
    four_cells (Begin 1 ∷ Write 1 2 8 ∷ Seal 1 ∷ Advance 1 ∷ Begin 0 ∷ Read 0 3 ∷ []) 0 cells target
    (found 6 m after 0 0 log (0 ∷ 0 ∷ 2 ∷ 0 ∷ []) (16 ∷ 16 ∷ 1 ∷ 16 ∷ []) (0 ∷ 0 ∷ 1 ∷ 0 ∷ []))

-- two values are obtained, and no cell after it is read
unfoldable pub stopped_at_claim : Round
stopped_at_claim =
    third_claimed (0 ∷ 1 ∷ 2 ∷ 3 ∷ []) (71 ∷ 72 ∷ 73 ∷ 74 ∷ 75 ∷ []) 2 (3 ∷ 5 ∷ 73 ∷ 74 ∷ 75 ∷ []) (3 ∷ 9 ∷ 9 ∷ 0 ∷ 0 ∷ 3 ∷ 3 ∷ 0 ∷ 1 ∷ 5 ∷ 5 ∷ 0 ∷ 0 ∷ 0 ∷ [])

unfoldable pub rounds : List Round
rounds =
    -- all are obtained, into the front of the target; with a target of as many words as cells
    four_cells (Begin 0 ∷ []) 0 (2 ∷ 0 ∷ []) (71 ∷ 72 ∷ 73 ∷ []) (unclaimed 101 2 (7 ∷ 3 ∷ 73 ∷ []) 1 2 (2 ∷ 7 ∷ 7 ∷ 0 ∷ 0 ∷ 3 ∷ 3 ∷ 0 ∷ []) (1 ∷ 0 ∷ 1 ∷ 0 ∷ []))
    ∷ four_cells (Begin 3 ∷ []) 3 (1 ∷ 3 ∷ []) (71 ∷ 72 ∷ []) (unclaimed 101 2 (5 ∷ 9 ∷ []) 1 2 (1 ∷ 5 ∷ 5 ∷ 0 ∷ 3 ∷ 9 ∷ 9 ∷ 0 ∷ []) (0 ∷ 8 ∷ 0 ∷ 8 ∷ []))
    -- a claimed cell, after others and as the first: 6
    ∷ stopped_at_claim ∷ third_claimed (2 ∷ 0 ∷ []) (71 ∷ 72 ∷ []) 0 (71 ∷ 72 ∷ []) (3 ∷ 9 ∷ 9 ∷ 0 ∷ 0 ∷ 0 ∷ [])
    -- a cell that comes again is entered once, and gives its value again: after a write of its own, the value written
    ∷ four_cells (Begin 0 ∷ []) 0 (1 ∷ 1 ∷ 0 ∷ 1 ∷ []) (71 ∷ 72 ∷ 73 ∷ 74 ∷ []) (unclaimed 101 4 (5 ∷ 5 ∷ 3 ∷ 5 ∷ []) 1 2 (1 ∷ 5 ∷ 5 ∷ 0 ∷ 0 ∷ 3 ∷ 3 ∷ 0 ∷ 0 ∷ 0 ∷ []) (1 ∷ 1 ∷ 0 ∷ 0 ∷ []))
    ∷ four_cells (Begin 0 ∷ Write 0 1 6 ∷ []) 0 (1 ∷ 0 ∷ 1 ∷ []) (71 ∷ 72 ∷ 73 ∷ []) (unclaimed 101 3 (6 ∷ 3 ∷ 6 ∷ []) 1 2 (1 ∷ 5 ∷ 6 ∷ 1 ∷ 0 ∷ 3 ∷ 3 ∷ 0 ∷ 0 ∷ 0 ∷ []) (1 ∷ 1 ∷ 0 ∷ 0 ∷ []))
    -- a cell not below n: 3, and what was read before it stays
    ∷ four_cells (Begin 0 ∷ []) 0 (0 ∷ 4 ∷ 1 ∷ []) (71 ∷ 72 ∷ 73 ∷ []) (unclaimed 3 1 (3 ∷ 72 ∷ 73 ∷ []) 1 1 (0 ∷ 3 ∷ 3 ∷ 0 ∷ 0 ∷ 0 ∷ []) (1 ∷ 0 ∷ 0 ∷ 0 ∷ []))
    -- an idle session: 2 with the first read
    ∷ four_cells [] 0 (0 ∷ 1 ∷ []) (71 ∷ 72 ∷ []) (unclaimed 2 0 (71 ∷ 72 ∷ []) 0 0 (0 ∷ 0 ∷ []) (0 ∷ 0 ∷ 0 ∷ 0 ∷ []))
    -- a record that does not fit: 9 with the first read, and before it 13 and 15
    ∷ wrong_count (0 ∷ 1 ∷ []) (71 ∷ 72 ∷ []) 9 ∷ wrong_count (0 ∷ 1 ∷ []) (71 ∷ []) 13 ∷ wrong_count [] (71 ∷ []) 15
    -- no cell, and thirty-three cells, are 15; also where the target is too short, and for a session above 15
    ∷ four_cells (Begin 0 ∷ Read 0 3 ∷ []) 0 [] (71 ∷ []) (unclaimed 15 0 (71 ∷ []) 1 1 (3 ∷ 9 ∷ 9 ∷ 0 ∷ 0 ∷ 0 ∷ []) (0 ∷ 0 ∷ 0 ∷ 1 ∷ []))
    ∷ four_cells (Begin 0 ∷ []) 0 (0 ∷ thirty_two) (71 ∷ []) (unclaimed 15 0 (71 ∷ []) 1 0 (0 ∷ 0 ∷ []) (0 ∷ 0 ∷ 0 ∷ 0 ∷ []))
    ∷ four_cells [] 16 [] [] (unclaimed 15 0 [] 0 0 [] (0 ∷ 0 ∷ 0 ∷ 0 ∷ []))
    -- a target of fewer words than cells is 13: before 1 for a session above 15, and before 7; with words enough these are answered
    ∷ four_cells (Begin 0 ∷ Read 0 3 ∷ []) 0 (0 ∷ 1 ∷ []) (71 ∷ []) (unclaimed 13 0 (71 ∷ []) 1 1 (3 ∷ 9 ∷ 9 ∷ 0 ∷ 0 ∷ 0 ∷ []) (0 ∷ 0 ∷ 0 ∷ 1 ∷ []))
    ∷ four_cells [] 16 (0 ∷ 1 ∷ []) (71 ∷ []) (unclaimed 13 0 (71 ∷ []) 0 0 [] (0 ∷ 0 ∷ 0 ∷ 0 ∷ []))
    ∷ four_cells [] 16 (0 ∷ 1 ∷ []) (71 ∷ 72 ∷ []) (unclaimed 1 0 (71 ∷ 72 ∷ []) 0 0 [] (0 ∷ 0 ∷ 0 ∷ 0 ∷ []))
    ∷ wrong_lengths (71 ∷ []) 13 ∷ wrong_lengths (71 ∷ 72 ∷ []) 7
    -- the largest last. Thirty-two new cells are obtained; a log with one entry is full after thirty-one of them: 5, and what was read stays
    ∷ many_cells (Begin 0 ∷ []) (found 101 32 (replicate 32 1) 1 32 (log_of_ones thirty_two) (replicate 32 1 ++ 0 ∷ 0 ∷ []) (replicate 34 16) (replicate 34 0))
    ∷ many_cells (Begin 0 ∷ Read 0 33 ∷ [])
    (found 5 31 (replicate 31 1 ++ 9 ∷ []) 1 32 (log_of_ones (33 ∷ take 31 thirty_two)) (replicate 31 1 ++ 0 ∷ 0 ∷ 1 ∷ []) (replicate 34 16) (replicate 34 0))
    ∷ []
