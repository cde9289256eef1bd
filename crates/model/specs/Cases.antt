-- Single calls, on buffers that no list of calls need have left: for each step of document 01 ("The steps") and each line of its table of refusals ("When a
-- call is turned down") a row, in numerals, with what the call answers and all that it leaves. Set-up's rows are in SetUpCases.antt. proofs/Cases.antt proves
-- the tables by computation.
use Rattle.std.specs.Prelude.{ℕ, ◌+◌, ◌*◌, ◌-◌, List, [], ◌∷◌, ◌++◌, map, length, set, replicate}
use Rattle.records.specs.declared.Session.{Session}
use Rattle.records.specs.declared.Call.{Call}
use Rattle.records.specs.declared.Call.TheVariants.{Begin, Read, Write, Seal, Advance, Abandon, Peek, Hold}
use Rattle.records.specs.declared.Answer.{Answer}
use Rattle.model.specs.Buffers.{Store, ours}
use Rattle.model.specs.Effects.{number, value_of, Part, store_word, log_word, no_word, shown}
use Rattle.model.specs.Step.{session_of, plan_of, step, answer_of}

-- ---- what a row is given and leaves

-- the calling session's record and the front of its log; values, reader sets, claimants and marks of two cells
pub record State : Type 0 where
  pub mine : Session
  pub words : List ℕ
  pub values : List ℕ
  pub readers : List ℕ
  pub claimants : List ℕ
  pub exclusives : List ℕ

abbrev pub session : ℕ → ℕ → ℕ → Session
session phase count next = record { phase = phase; count = count; next = next }

abbrev pub state : Session → List ℕ → List ℕ → List ℕ → List ℕ → List ℕ → State
state x w v r c e = record { mine = x; words = w; values = v; readers = r; claimants = c; exclusives = e }

-- the whole store: cells of class 2 and 16, other records and other log words of their own
unfoldable pub store_with : ℕ → State → Store
store_with s x =
    record {
      lent = record {
        values = x.values;
        classes = 2 ∷ 16 ∷ [];
        locks = record { readers = x.readers; claimants = x.claimants; exclusives = x.exclusives };
        logs = replicate (128 * s) 9 ++ (x.words ++ replicate (2048 - (128 * s + length x.words)) 9);
      };
      limits = ours;
      sessions = record { records = set (replicate 16 (session 3 9 1)) s x.mine };
    }

-- what is answered, in numbers, and the whole store afterwards
pub record Result : Type 0 where
  pub number : ℕ
  pub value : ℕ
  pub store : Store

abbrev pub result : Answer → Store → Result
result a σ = record { number = number a; value = value_of a; store = σ }

-- ---- the rows of one call each

pub record Case : Type 0 where
  pub given : State
  pub call : Call
  pub number : ℕ
  pub value : ℕ
  pub left : State

abbrev case : State → Call → ℕ → ℕ → State → Case
case x k n v y = record { given = x; call = k; number = n; value = v; left = y }

-- all as before; and turned down, with value 0
abbrev unchanged : State → Call → ℕ → ℕ → Case
unchanged x k n v = case x k n v x

abbrev refused : State → Call → ℕ → Case
refused x k n = unchanged x k n 0

unfoldable pub actual : Case → Result
actual r = let σ = store_with (session_of r.call) r.given in result (answer_of r.call σ) (step r.call σ)

unfoldable pub expected : Case → Result
expected r = record { number = r.number; value = r.value; store = store_with (session_of r.call) r.left }

-- one number for each of the two cells
abbrev cells : ℕ → ℕ → List ℕ
cells a b = a ∷ b ∷ []

-- an entry of the log: cell, value found, present value, fourth word
abbrev entry : ℕ → ℕ → ℕ → ℕ → List ℕ
entry c f p w = c ∷ f ∷ p ∷ w ∷ []

unfoldable pub steps : List Case
steps =
    -- begin: running, with count 0 and next 0, whatever an idle record's count is; log words stay
    case (state (session 0 33 7) (entry 0 8 4 1) (cells 3 5) (cells 7 6) (cells 1 9) (cells 1 0)) (Begin 1) 100 0
    (state (session 1 0 0) (entry 0 8 4 1) (cells 3 5) (cells 7 6) (cells 1 9) (cells 1 0))
    ∷ case (state (session 0 0 0) [] (cells 3 5) (cells 0 0) (cells 16 16) (cells 0 0)) (Begin 15) 100 0
    (state (session 1 0 0) [] (cells 3 5) (cells 0 0) (cells 16 16) (cells 0 0))
    -- read of a cell in the log: its present value, though the lock is claimed; of two entries the first counts
    ∷ unchanged (state (session 1 1 7) (entry 0 8 4 2) (cells 3 5) (cells 7 6) (cells 9 16) (cells 1 0)) (Read 1 0) 101 4
    ∷ unchanged (state (session 1 2 0) (entry 0 3 4 6 ++ entry 0 3 6 7) (cells 3 5) (cells 1 0) (cells 16 16) (cells 0 0)) (Read 0 0) 101 4
    -- read of a new cell: among the readers, and entered with the store's value, not written; also as the 32nd entry
    ∷ case (state (session 1 1 7) (entry 0 8 4 3) (cells 3 5) (cells 7 4) (cells 9 16) (cells 1 1)) (Read 1 1) 101 5
    (state (session 1 2 7) (entry 0 8 4 3 ++ entry 1 5 5 0) (cells 3 5) (cells 7 6) (cells 9 16) (cells 1 1))
    ∷ case (state (session 1 31 0) (replicate 124 0) (cells 3 5) (cells 0 0) (cells 16 16) (cells 0 0)) (Read 1 1) 101 5
    (state (session 1 32 0) (replicate 124 0 ++ entry 1 5 5 0) (cells 3 5) (cells 0 2) (cells 16 16) (cells 0 0))
    -- write of a cell in the log: present and written, the value found stays, though the lock is claimed; of two entries the first
    ∷ case (state (session 1 1 7) (entry 0 8 4 4) (cells 3 5) (cells 5 4) (cells 200 16) (cells 1 0)) (Write 1 0 6) 100 0
    (state (session 1 1 7) (entry 0 8 6 1) (cells 3 5) (cells 5 4) (cells 200 16) (cells 1 0))
    ∷ case (state (session 1 2 0) (entry 0 3 4 0 ++ entry 0 3 5 0) (cells 3 5) (cells 1 0) (cells 16 16) (cells 0 0)) (Write 0 0 8) 100 0
    (state (session 1 2 0) (entry 0 3 8 1 ++ entry 0 3 5 0) (cells 3 5) (cells 1 0) (cells 16 16) (cells 0 0))
    -- the held mark stays, and what stands above the two marks goes
    ∷ case (state (session 1 1 7) (entry 0 8 4 2) (cells 3 5) (cells 5 4) (cells 16 16) (cells 1 0)) (Write 1 0 6) 100 0
    (state (session 1 1 7) (entry 0 8 6 3) (cells 3 5) (cells 5 4) (cells 16 16) (cells 1 0))
    ∷ case (state (session 1 1 0) (entry 0 8 4 4294967294) (cells 3 5) (cells 5 4) (cells 16 16) (cells 1 0)) (Write 1 0 8) 100 0
    (state (session 1 1 0) (entry 0 8 8 3) (cells 3 5) (cells 5 4) (cells 16 16) (cells 1 0))
    ∷ case (state (session 1 1 0) (entry 0 8 4 4294967293) (cells 3 5) (cells 5 4) (cells 16 16) (cells 1 0)) (Write 1 0 6) 100 0
    (state (session 1 1 0) (entry 0 8 6 1) (cells 3 5) (cells 5 4) (cells 16 16) (cells 1 0))
    -- write of a new cell: locked and entered as by read, then written; also with the value found
    ∷ case (state (session 1 0 7) [] (cells 3 5) (cells 5 4) (cells 16 16) (cells 1 1)) (Write 1 0 6) 100 0
    (state (session 1 1 7) (entry 0 3 6 1) (cells 3 5) (cells 7 4) (cells 16 16) (cells 1 1))
    ∷ case (state (session 1 0 0) [] (cells 3 5) (cells 0 0) (cells 16 16) (cells 0 0)) (Write 2 0 3) 100 0
    (state (session 1 1 0) (entry 0 3 3 1) (cells 3 5) (cells 4 0) (cells 16 16) (cells 0 0))
    -- hold of a cell in the log: its present value, though the lock is claimed, and the entry is held; the written mark stays, and what stands above the two marks
    -- goes; of two entries the first
    ∷ case (state (session 1 1 7) (entry 0 8 4 4294967292) (cells 3 5) (cells 7 6) (cells 9 16) (cells 1 0)) (Hold 1 0) 101 4
    (state (session 1 1 7) (entry 0 8 4 2) (cells 3 5) (cells 7 6) (cells 9 16) (cells 1 0))
    ∷ case (state (session 1 1 7) (entry 0 8 4 4294967293) (cells 3 5) (cells 7 6) (cells 16 16) (cells 1 0)) (Hold 1 0) 101 4
    (state (session 1 1 7) (entry 0 8 4 3) (cells 3 5) (cells 7 6) (cells 16 16) (cells 1 0))
    ∷ unchanged (state (session 1 1 7) (entry 0 8 4 3) (cells 3 5) (cells 7 6) (cells 16 16) (cells 1 0)) (Hold 1 0) 101 4
    ∷ case (state (session 1 2 0) (entry 0 3 4 6 ++ entry 0 3 6 0) (cells 3 5) (cells 1 0) (cells 16 16) (cells 0 0)) (Hold 0 0) 101 4
    (state (session 1 2 0) (entry 0 3 4 2 ++ entry 0 3 6 0) (cells 3 5) (cells 1 0) (cells 16 16) (cells 0 0))
    ∷ case (state (session 1 32 0) (replicate 128 0) (cells 3 5) (cells 7 6) (cells 16 3) (cells 1 1)) (Hold 1 0) 101 0
    (state (session 1 32 0) (entry 0 0 0 2 ++ replicate 124 0) (cells 3 5) (cells 7 6) (cells 16 3) (cells 1 1))
    -- hold of a new cell: locked and entered as by read, then held; also as the 32nd entry
    ∷ case (state (session 1 1 7) (entry 0 8 4 3) (cells 3 5) (cells 7 4) (cells 9 16) (cells 1 1)) (Hold 1 1) 101 5
    (state (session 1 2 7) (entry 0 8 4 3 ++ entry 1 5 5 2) (cells 3 5) (cells 7 6) (cells 9 16) (cells 1 1))
    ∷ case (state (session 1 31 0) (replicate 124 0) (cells 3 5) (cells 0 0) (cells 16 16) (cells 0 0)) (Hold 1 1) 101 5
    (state (session 1 32 0) (replicate 124 0 ++ entry 1 5 5 2) (cells 3 5) (cells 0 2) (cells 16 16) (cells 0 0))
    -- seal with nothing written and nothing held: off the readers of every cell entered, idle; claims, marks and log words stay
    ∷ case (state (session 1 2 7) (entry 0 8 4 4 ++ entry 1 5 6 0) (cells 3 5) (cells 7 6) (cells 1 9) (cells 1 1)) (Seal 1) 105 0
    (state (session 0 0 0) (entry 0 8 4 4 ++ entry 1 5 6 0) (cells 3 5) (cells 5 4) (cells 1 9) (cells 1 1))
    ∷ case (state (session 1 2 0) (entry 0 3 4 12 ++ entry 0 3 5 7) (cells 3 5) (cells 1 1) (cells 16 16) (cells 0 0)) (Seal 0) 105 0
    (state (session 0 0 0) (entry 0 3 4 12 ++ entry 0 3 5 7) (cells 3 5) (cells 0 1) (cells 16 16) (cells 0 0))
    -- seal with a cell written: off the readers of the others; phase 2, next 0
    ∷ case (state (session 1 2 7) (entry 0 8 4 4 ++ entry 1 5 6 5) (cells 3 5) (cells 7 6) (cells 1 9) (cells 1 1)) (Seal 1) 102 0
    (state (session 2 2 0) (entry 0 8 4 4 ++ entry 1 5 6 5) (cells 3 5) (cells 5 6) (cells 1 9) (cells 1 1))
    ∷ case (state (session 1 2 0) (entry 0 3 4 13 ++ entry 0 3 5 4) (cells 3 5) (cells 1 1) (cells 16 16) (cells 0 0)) (Seal 0) 102 0
    (state (session 2 2 0) (entry 0 3 4 13 ++ entry 0 3 5 4) (cells 3 5) (cells 1 1) (cells 16 16) (cells 0 0))
    -- what has a write and the value found is let go as merely read; by the value found, whatever the store has; of two entries the first counts
    ∷ case (state (session 1 2 7) (entry 0 8 8 1 ++ entry 1 5 6 1) (cells 3 5) (cells 7 6) (cells 1 9) (cells 1 1)) (Seal 1) 102 0
    (state (session 2 2 0) (entry 0 8 8 1 ++ entry 1 5 6 1) (cells 3 5) (cells 5 6) (cells 1 9) (cells 1 1))
    ∷ case (state (session 1 2 7) (entry 0 8 3 1 ++ entry 1 6 6 1) (cells 3 5) (cells 7 6) (cells 1 9) (cells 1 1)) (Seal 1) 102 0
    (state (session 2 2 0) (entry 0 8 3 1 ++ entry 1 6 6 1) (cells 3 5) (cells 7 4) (cells 1 9) (cells 1 1))
    ∷ case (state (session 1 2 7) (entry 0 8 8 1 ++ entry 1 6 6 5) (cells 3 5) (cells 7 6) (cells 1 9) (cells 1 1)) (Seal 1) 105 0
    (state (session 0 0 0) (entry 0 8 8 1 ++ entry 1 6 6 5) (cells 3 5) (cells 5 4) (cells 1 9) (cells 1 1))
    ∷ case (state (session 1 2 0) (entry 0 3 3 1 ++ entry 0 3 5 1) (cells 3 5) (cells 1 1) (cells 16 16) (cells 0 0)) (Seal 0) 105 0
    (state (session 0 0 0) (entry 0 3 3 1 ++ entry 0 3 5 1) (cells 3 5) (cells 0 1) (cells 16 16) (cells 0 0))
    ∷ case (state (session 1 2 0) (entry 0 3 5 1 ++ entry 0 3 3 1) (cells 3 5) (cells 1 1) (cells 16 16) (cells 0 0)) (Seal 0) 102 0
    (state (session 2 2 0) (entry 0 3 5 1 ++ entry 0 3 3 1) (cells 3 5) (cells 1 1) (cells 16 16) (cells 0 0))
    -- a held cell stays, not written or with the value found, whatever stands above the two marks; of two entries the first counts
    ∷ case (state (session 1 2 7) (entry 0 8 8 2 ++ entry 1 5 5 0) (cells 3 5) (cells 7 6) (cells 1 9) (cells 1 1)) (Seal 1) 102 0
    (state (session 2 2 0) (entry 0 8 8 2 ++ entry 1 5 5 0) (cells 3 5) (cells 7 4) (cells 1 9) (cells 1 1))
    ∷ case (state (session 1 2 7) (entry 0 8 8 1 ++ entry 1 5 5 3) (cells 3 5) (cells 7 6) (cells 1 9) (cells 1 1)) (Seal 1) 102 0
    (state (session 2 2 0) (entry 0 8 8 1 ++ entry 1 5 5 3) (cells 3 5) (cells 5 6) (cells 1 9) (cells 1 1))
    ∷ case (state (session 1 2 7) (entry 0 8 8 12 ++ entry 1 5 5 4294967294) (cells 3 5) (cells 7 6) (cells 1 9) (cells 1 1)) (Seal 1) 102 0
    (state (session 2 2 0) (entry 0 8 8 12 ++ entry 1 5 5 4294967294) (cells 3 5) (cells 5 6) (cells 1 9) (cells 1 1))
    ∷ case (state (session 1 2 0) (entry 0 3 3 0 ++ entry 0 3 3 2) (cells 3 5) (cells 1 1) (cells 16 16) (cells 0 0)) (Seal 0) 105 0
    (state (session 0 0 0) (entry 0 3 3 0 ++ entry 0 3 3 2) (cells 3 5) (cells 0 1) (cells 16 16) (cells 0 0))
    -- a held cell is promoted, published with its present value, whatever the store has, and released
    ∷ case (state (session 2 2 0) (entry 1 5 5 2 ++ entry 0 8 4 1) (cells 3 5) (cells 2 2) (cells 1 16) (cells 0 0)) (Advance 1) 103 0
    (state (session 2 2 1) (entry 1 5 5 2 ++ entry 0 8 4 1) (cells 3 5) (cells 2 2) (cells 1 16) (cells 1 0))
    ∷ case (state (session 2 1 0) (entry 1 5 5 2) (cells 3 5) (cells 0 6) (cells 16 16) (cells 0 0)) (Advance 1) 104 1
    (state (session 2 1 0) (entry 1 5 5 2) (cells 3 5) (cells 0 6) (cells 16 1) (cells 0 0))
    ∷ case (state (session 3 1 0) (entry 0 8 8 2) (cells 3 5) (cells 2 0) (cells 1 16) (cells 1 0)) (Advance 1) 103 0
    (state (session 4 1 0) (entry 0 8 8 2) (cells 8 5) (cells 2 0) (cells 1 16) (cells 1 0))
    ∷ case (state (session 4 2 0) (entry 0 8 8 1 ++ entry 1 5 5 3) (cells 3 6) (cells 4 2) (cells 4 1) (cells 1 1)) (Advance 1) 105 0
    (state (session 0 0 0) (entry 0 8 8 1 ++ entry 1 5 5 3) (cells 3 6) (cells 4 0) (cells 4 16) (cells 1 0))
    -- advance passes by what has a write and the value found, as a target and as what is left, in each phase
    ∷ case (state (session 2 3 0) (entry 0 8 8 1 ++ entry 1 5 6 1 ++ entry 0 8 4 1) (cells 3 5) (cells 0 2) (cells 16 16) (cells 0 0)) (Advance 1) 103 0
    (state (session 3 3 0) (entry 0 8 8 1 ++ entry 1 5 6 1 ++ entry 0 8 4 1) (cells 3 5) (cells 0 2) (cells 16 1) (cells 0 1))
    ∷ case (state (session 3 2 0) (entry 0 8 4 1 ++ entry 1 5 5 1) (cells 3 5) (cells 2 0) (cells 1 16) (cells 1 0)) (Advance 1) 103 0
    (state (session 4 2 0) (entry 0 8 4 1 ++ entry 1 5 5 1) (cells 4 5) (cells 2 0) (cells 1 16) (cells 1 0))
    ∷ case (state (session 4 2 0) (entry 0 8 8 1 ++ entry 1 5 6 1) (cells 3 6) (cells 4 2) (cells 4 1) (cells 1 1)) (Advance 1) 105 0
    (state (session 0 0 0) (entry 0 8 8 1 ++ entry 1 5 6 1) (cells 3 6) (cells 4 0) (cells 4 16) (cells 1 0))
    -- advance, phase 2: claimant, and waiting while anybody else reads, the own bit left aside; next, mark and readers stay
    ∷ case (state (session 2 1 0) (entry 0 8 4 1) (cells 3 5) (cells 6 6) (cells 16 9) (cells 0 1)) (Advance 1) 104 1
    (state (session 2 1 0) (entry 0 8 4 1) (cells 3 5) (cells 6 6) (cells 1 9) (cells 0 1))
    ∷ unchanged (state (session 2 1 0) (entry 0 8 4 1) (cells 3 5) (cells 4 6) (cells 1 9) (cells 1 1)) (Advance 1) 104 1
    -- the value is how many: of that cell's readers, whatever the log and the other cell have; two, and two of a set without the own bit
    ∷ case (state (session 2 3 1) (entry 0 8 4 1 ++ entry 1 5 6 1 ++ entry 1 5 7 1) (cells 3 5) (cells 15 11) (cells 16 16) (cells 0 0)) (Advance 1) 104 2
    (state (session 2 3 1) (entry 0 8 4 1 ++ entry 1 5 6 1 ++ entry 1 5 7 1) (cells 3 5) (cells 15 11) (cells 16 1) (cells 0 0))
    ∷ case (state (session 2 1 0) (entry 0 8 4 1) (cells 3 5) (cells 9 2) (cells 16 16) (cells 0 0)) (Advance 1) 104 2
    (state (session 2 1 0) (entry 0 8 4 1) (cells 3 5) (cells 9 2) (cells 1 16) (cells 0 0))
    -- promoted: claimant with mark 1; the lowest cell first, next one above it; after the last phase 3, next 0
    ∷ case (state (session 2 2 0) (entry 1 5 6 1 ++ entry 0 8 4 1) (cells 3 5) (cells 2 6) (cells 16 9) (cells 0 0)) (Advance 1) 103 0
    (state (session 2 2 1) (entry 1 5 6 1 ++ entry 0 8 4 1) (cells 3 5) (cells 2 6) (cells 1 9) (cells 1 0))
    ∷ case (state (session 2 2 1) (entry 1 5 6 1 ++ entry 0 8 4 1) (cells 3 5) (cells 2 0) (cells 1 1) (cells 1 0)) (Advance 1) 103 0
    (state (session 3 2 0) (entry 1 5 6 1 ++ entry 0 8 4 1) (cells 3 5) (cells 2 0) (cells 1 1) (cells 1 1))
    -- published: the present value of the cell's first entry, whatever the cap; after the last phase 4, next 0
    ∷ case (state (session 3 2 0) (entry 0 8 4 1 ++ entry 1 5 6 1) (cells 3 5) (cells 2 2) (cells 1 1) (cells 1 1)) (Advance 1) 103 0
    (state (session 3 2 1) (entry 0 8 4 1 ++ entry 1 5 6 1) (cells 4 5) (cells 2 2) (cells 1 1) (cells 1 1))
    ∷ case (state (session 3 2 1) (entry 1 5 60 1 ++ entry 1 5 7 1) (cells 3 5) (cells 0 4) (cells 16 9) (cells 1 1)) (Advance 1) 103 0
    (state (session 4 2 0) (entry 1 5 60 1 ++ entry 1 5 7 1) (cells 3 60) (cells 0 4) (cells 16 9) (cells 1 1))
    -- released: off the readers, claimant 16 whoever it was, mark 0; after the last idle, 105
    ∷ case (state (session 4 2 0) (entry 0 8 4 1 ++ entry 1 5 6 1) (cells 3 5) (cells 7 7) (cells 1 1) (cells 1 1)) (Advance 1) 103 0
    (state (session 4 2 1) (entry 0 8 4 1 ++ entry 1 5 6 1) (cells 3 5) (cells 5 7) (cells 16 1) (cells 0 1))
    ∷ case (state (session 4 1 0) (entry 0 8 4 1) (cells 3 5) (cells 7 7) (cells 9 9) (cells 1 1)) (Advance 1) 105 0
    (state (session 0 0 0) (entry 0 8 4 1) (cells 3 5) (cells 5 7) (cells 16 9) (cells 0 1))
    -- abandon, phases 1 and 2: off the readers of each entry's cell, its own claims and their marks gone, idle; log words stay
    ∷ case (state (session 1 2 7) (entry 0 8 4 0 ++ entry 1 5 6 1) (cells 3 5) (cells 7 7) (cells 1 9) (cells 1 1)) (Abandon 1) 100 0
    (state (session 0 0 0) (entry 0 8 4 0 ++ entry 1 5 6 1) (cells 3 5) (cells 5 5) (cells 16 9) (cells 0 1))
    ∷ case (state (session 2 1 0) (entry 0 8 4 1) (cells 3 5) (cells 7 7) (cells 1 1) (cells 1 1)) (Abandon 1) 100 0
    (state (session 0 0 0) (entry 0 8 4 1) (cells 3 5) (cells 5 7) (cells 16 1) (cells 0 1))
    -- peek's twin: nothing changes
    ∷ unchanged (state (session 1 1 7) (entry 0 8 4 1) (cells 3 5) (cells 7 6) (cells 9 9) (cells 1 1)) (Peek 1 0) 100 0
    ∷ []

-- an advance that waits for fifteen, with the own bit in the set and without it, of a middle session and of the first and the last; proved in crate model_claims (Crowds.antt)
unfoldable pub crowds : List Case
crowds =
    unchanged (state (session 2 1 0) (entry 0 8 4 1) (cells 3 5) (cells 65535 6) (cells 7 16) (cells 0 0)) (Advance 7) 104 15
    ∷ unchanged (state (session 2 1 0) (entry 0 8 4 1) (cells 3 5) (cells 65407 6) (cells 7 16) (cells 0 0)) (Advance 7) 104 15
    ∷ unchanged (state (session 2 1 0) (entry 1 8 4 1) (cells 3 5) (cells 1 65534) (cells 16 0) (cells 0 0)) (Advance 0) 104 15
    ∷ unchanged (state (session 2 1 0) (entry 1 8 4 1) (cells 3 5) (cells 1 32767) (cells 16 15) (cells 0 0)) (Advance 15) 104 15
    ∷ []

-- a session in a phase, with nothing entered; with cell 0 written; with 32 entries, all of cell 0, and a claimant of cell 1
abbrev empty : ℕ → State
empty p = state (session p 0 0) [] (cells 3 5) (cells 7 6) (cells 16 16) (cells 1 1)

abbrev writing : ℕ → State
writing p = state (session p 1 0) (entry 0 8 4 1) (cells 3 5) (cells 2 2) (cells 16 16) (cells 0 0)

abbrev full : ℕ → State
full claimant = state (session 1 32 0) (replicate 128 0) (cells 3 5) (cells 7 6) (cells 16 claimant) (cells 1 1)

-- the table of refusals, in the order of its numbers; 7 and set-up's 8 are in SetUpCases.antt, 10 to 13 are the fields', and 15 and 13 of many reads are in Rounds.antt
unfoldable pub refusals : List Case
refusals =
    -- 1: session above 15, of each call
    refused (empty 1) (Begin 16) 1 ∷ refused (empty 1) (Read 16 0) 1 ∷ refused (empty 1) (Write 16 0 1) 1 ∷ refused (empty 1) (Seal 16) 1
    ∷ refused (empty 1) (Advance 16) 1 ∷ refused (empty 1) (Abandon 16) 1 ∷ refused (empty 1) (Peek 16 0) 1 ∷ refused (empty 1) (Hold 16 0) 1
    -- 2: the call does not fit the phase: the table `phases` has each call in each phase
    ∷ refused (writing 3) (Abandon 1) 2
    -- 3: cell not below n
    ∷ refused (writing 1) (Read 1 2) 3 ∷ refused (writing 1) (Write 1 2 0) 3 ∷ refused (writing 1) (Peek 1 2) 3 ∷ refused (writing 1) (Hold 1 2) 3
    -- 4: written value above its cap, in a new cell and in a known one
    ∷ refused (empty 1) (Write 1 0 9) 4 ∷ refused (writing 1) (Write 1 0 9) 4
    -- 5: a new cell with 32 entries
    ∷ refused (full 16) (Read 1 1) 5 ∷ refused (full 16) (Hold 1 1) 5
    ∷ refused (state (session 1 32 0) (replicate 124 1 ++ entry 1 5 5 0) (cells 3 5) (cells 7 6) (cells 16 16) (cells 1 1)) (Write 1 0 1) 5
    -- 6: lock claimed, on read, hold and write by anyone, on advance by another; rolled back: own claims and their marks alone are gone
    ∷ case (state (session 1 1 7) (entry 0 8 4 0) (cells 3 5) (cells 7 7) (cells 1 1) (cells 1 1)) (Read 1 1) 6 0
    (state (session 0 0 0) (entry 0 8 4 0) (cells 3 5) (cells 5 7) (cells 16 1) (cells 0 1))
    ∷ case (state (session 1 1 7) (entry 0 8 4 2) (cells 3 5) (cells 7 7) (cells 1 200) (cells 1 1)) (Hold 1 1) 6 0
    (state (session 0 0 0) (entry 0 8 4 2) (cells 3 5) (cells 5 7) (cells 16 200) (cells 0 1))
    ∷ case (state (session 1 1 7) (entry 1 5 6 1) (cells 3 5) (cells 7 7) (cells 200 9) (cells 1 1)) (Write 1 0 4) 6 0
    (state (session 0 0 0) (entry 1 5 6 1) (cells 3 5) (cells 7 5) (cells 200 9) (cells 1 1))
    ∷ case (state (session 2 2 1) (entry 0 8 4 1 ++ entry 1 5 6 1) (cells 3 5) (cells 7 2) (cells 1 200) (cells 1 1)) (Advance 1) 6 0
    (state (session 0 0 0) (entry 0 8 4 1 ++ entry 1 5 6 1) (cells 3 5) (cells 5 0) (cells 16 200) (cells 0 1))
    -- 8: the class byte of a written cell above 15
    ∷ refused (empty 1) (Write 1 1 0) 8
    -- 9: the table `damaged` has each cause in each phase
    ∷ refused (state (session 5 1 0) (entry 0 8 4 1) (cells 3 5) (cells 7 7) (cells 1 1) (cells 1 1)) (Advance 1) 9
    ∷ refused (state (session 255 0 0) [] (cells 3 5) (cells 7 7) (cells 1 1) (cells 1 1)) (Begin 1) 9
    -- 14: peeked cell not in the log
    ∷ refused (writing 1) (Peek 1 1) 14
    ∷ []

-- the order 7, 1, 9, 2, 3, 8, 4, then 14 or 5, then 6, where two are due; 7 before 1 is in SetUpCases.antt
unfoldable pub order : List Case
order =
    -- 9 before 2; 2 before 3, before 8 and 4, before 14 and 5
    refused (state (session 2 33 0) [] (cells 3 5) (cells 7 6) (cells 16 16) (cells 1 1)) (Read 1 7) 9
    ∷ refused (writing 2) (Read 1 7) 2 ∷ refused (writing 2) (Write 1 1 9) 2 ∷ refused (writing 2) (Write 1 0 9) 2 ∷ refused (writing 2) (Peek 1 1) 2
    ∷ refused (state (session 2 33 0) [] (cells 3 5) (cells 7 6) (cells 16 16) (cells 1 1)) (Hold 1 7) 9 ∷ refused (writing 2) (Hold 1 7) 2
    -- 3 before 14 and before 5 (a cell that is not there has no class and no lock)
    ∷ refused (empty 1) (Peek 1 2) 3 ∷ refused (full 16) (Read 1 2) 3 ∷ refused (full 16) (Hold 1 2) 3
    -- 8 before 4, before 5 and before 6; 4 before 5 and before 6
    ∷ refused (empty 1) (Write 1 1 4294967295) 8 ∷ refused (full 3) (Write 1 1 0) 8
    ∷ refused (state (session 1 32 0) (replicate 124 1 ++ entry 1 5 5 0) (cells 3 5) (cells 7 6) (cells 3 16) (cells 1 1)) (Write 1 0 9) 4
    ∷ refused (state (session 1 0 0) [] (cells 3 5) (cells 7 6) (cells 3 16) (cells 1 1)) (Write 1 0 9) 4
    -- 5 before 6; a known cell is neither
    ∷ refused (full 3) (Read 1 1) 5 ∷ refused (full 3) (Hold 1 1) 5
    ∷ refused (state (session 1 32 0) (replicate 124 1 ++ entry 1 5 5 0) (cells 3 5) (cells 7 6) (cells 3 16) (cells 1 1)) (Write 1 0 1) 5
    ∷ unchanged (full 3) (Read 1 0) 101 0
    ∷ []

-- ---- what a call answers in phases 0 to 4, and 5, which is none

pub record Phased : Type 0 where
  pub given : ℕ → State
  pub call : Call
  pub numbers : List ℕ

abbrev phased : (ℕ → State) → Call → List ℕ → Phased
phased x k ns = record { given = x; call = k; numbers = ns }

unfoldable pub answered : Phased → List ℕ
answered r = map (λ (p : ℕ). number (answer_of r.call (store_with 1 (r.given p)))) (0 ∷ 1 ∷ 2 ∷ 3 ∷ 4 ∷ 5 ∷ [])

unfoldable pub phases : List Phased
phases =
    phased writing (Begin 1) (100 ∷ 2 ∷ 2 ∷ 2 ∷ 2 ∷ 9 ∷ [])
    ∷ phased writing (Read 1 0) (2 ∷ 101 ∷ 2 ∷ 2 ∷ 2 ∷ 9 ∷ [])
    ∷ phased writing (Write 1 0 8) (2 ∷ 100 ∷ 2 ∷ 2 ∷ 2 ∷ 9 ∷ [])
    ∷ phased writing (Seal 1) (2 ∷ 102 ∷ 2 ∷ 2 ∷ 2 ∷ 9 ∷ [])
    ∷ phased writing (Advance 1) (2 ∷ 2 ∷ 103 ∷ 103 ∷ 105 ∷ 9 ∷ [])
    ∷ phased writing (Abandon 1) (2 ∷ 100 ∷ 100 ∷ 2 ∷ 2 ∷ 9 ∷ [])
    ∷ phased writing (Peek 1 0) (2 ∷ 100 ∷ 2 ∷ 2 ∷ 2 ∷ 9 ∷ [])
    ∷ phased writing (Hold 1 0) (2 ∷ 101 ∷ 2 ∷ 2 ∷ 2 ∷ 9 ∷ [])
    ∷ []

-- a log of these words, with a count and a next cell
abbrev logged : ℕ → ℕ → List ℕ → ℕ → State
logged count next words p = state (session p count next) words (cells 3 5) (cells 0 0) (cells 16 16) (cells 0 0)

-- refusal 9, by what begin answers: 100 in phase 0, which judges neither count nor log; 2 in the others where the record and the log pass
unfoldable pub damaged : List Phased
damaged =
    -- a count above 32
    phased (logged 33 0 (replicate 132 1)) (Begin 1) (100 ∷ 9 ∷ 9 ∷ 9 ∷ 9 ∷ 9 ∷ [])
    -- an entered cell not below n, the first or the last of three; words past the count are not judged
    ∷ phased (logged 3 0 (entry 2 5 6 1 ++ entry 1 5 6 1 ++ entry 0 5 6 1)) (Begin 1) (100 ∷ 9 ∷ 9 ∷ 9 ∷ 9 ∷ 9 ∷ [])
    ∷ phased (logged 3 0 (entry 0 5 6 1 ++ entry 1 5 6 1 ++ entry 2 5 6 1)) (Begin 1) (100 ∷ 9 ∷ 9 ∷ 9 ∷ 9 ∷ 9 ∷ [])
    ∷ phased (logged 2 0 (entry 0 5 6 1 ++ entry 1 5 6 1 ++ entry 2 5 6 1)) (Begin 1) (100 ∷ 2 ∷ 2 ∷ 2 ∷ 2 ∷ 9 ∷ [])
    -- in phases 2 to 4 no written cell at or above next: none there, none written, or the cell's first entry is not
    ∷ phased (logged 1 0 (entry 0 8 4 1)) (Begin 1) (100 ∷ 2 ∷ 2 ∷ 2 ∷ 2 ∷ 9 ∷ [])
    ∷ phased (logged 1 1 (entry 0 8 4 1)) (Begin 1) (100 ∷ 2 ∷ 9 ∷ 9 ∷ 9 ∷ 9 ∷ [])
    ∷ phased (logged 1 0 (entry 0 8 4 4)) (Begin 1) (100 ∷ 2 ∷ 9 ∷ 9 ∷ 9 ∷ 9 ∷ [])
    ∷ phased (logged 2 0 (entry 0 5 6 0 ++ entry 0 5 6 1)) (Begin 1) (100 ∷ 2 ∷ 9 ∷ 9 ∷ 9 ∷ 9 ∷ [])
    ∷ phased (logged 0 0 (entry 0 8 4 1)) (Begin 1) (100 ∷ 2 ∷ 9 ∷ 9 ∷ 9 ∷ 9 ∷ [])
    -- or it has the value found; of a cell with two entries the first counts
    ∷ phased (logged 1 0 (entry 0 8 8 1)) (Begin 1) (100 ∷ 2 ∷ 9 ∷ 9 ∷ 9 ∷ 9 ∷ [])
    ∷ phased (logged 2 1 (entry 0 8 4 1 ++ entry 1 5 5 1)) (Begin 1) (100 ∷ 2 ∷ 9 ∷ 9 ∷ 9 ∷ 9 ∷ [])
    ∷ phased (logged 2 0 (entry 0 5 5 1 ++ entry 0 5 6 1)) (Begin 1) (100 ∷ 2 ∷ 9 ∷ 9 ∷ 9 ∷ 9 ∷ [])
    ∷ phased (logged 2 0 (entry 0 5 6 1 ++ entry 0 5 5 1)) (Begin 1) (100 ∷ 2 ∷ 2 ∷ 2 ∷ 2 ∷ 9 ∷ [])
    -- unless it is held, by its second bit alone; the first entry counts here too
    ∷ phased (logged 1 0 (entry 0 8 8 2)) (Begin 1) (100 ∷ 2 ∷ 2 ∷ 2 ∷ 2 ∷ 9 ∷ [])
    ∷ phased (logged 1 0 (entry 0 8 8 4294967295)) (Begin 1) (100 ∷ 2 ∷ 2 ∷ 2 ∷ 2 ∷ 9 ∷ [])
    ∷ phased (logged 1 0 (entry 0 8 8 4294967293)) (Begin 1) (100 ∷ 2 ∷ 9 ∷ 9 ∷ 9 ∷ 9 ∷ [])
    ∷ phased (logged 1 1 (entry 0 8 8 2)) (Begin 1) (100 ∷ 2 ∷ 9 ∷ 9 ∷ 9 ∷ 9 ∷ [])
    ∷ phased (logged 2 0 (entry 0 5 5 1 ++ entry 0 5 5 2)) (Begin 1) (100 ∷ 2 ∷ 9 ∷ 9 ∷ 9 ∷ 9 ∷ [])
    ∷ []

-- ---- the part that peek hands back

pub record Peeked : Type 0 where
  pub given : State
  pub call : Call
  pub part : Part

abbrev peeked : State → Call → Part → Peeked
peeked x k w = record { given = x; call = k; part = w }

unfoldable pub handed : Peeked → Part
handed r = let σ = store_with (session_of r.call) r.given in shown (session_of r.call) (plan_of r.call σ) σ

unfoldable pub parts : List Peeked
parts =
    -- the store's own word of an entry not written, held or not, the log's present word of a written one, in the session's own log; refused, no word
    peeked (logged 2 0 (entry 0 8 4 6 ++ entry 1 5 6 1) 1) (Peek 1 0) (store_word 0)
    ∷ peeked (logged 2 0 (entry 0 8 4 6 ++ entry 1 5 6 1) 1) (Peek 1 1) (log_word 134)
    ∷ peeked (logged 2 0 (entry 0 8 8 2 ++ entry 1 5 6 3) 1) (Peek 1 0) (store_word 0) ∷ peeked (logged 2 0 (entry 0 8 8 2 ++ entry 1 5 6 3) 1) (Peek 1 1) (log_word 134)
    ∷ peeked (logged 2 0 (entry 0 8 4 9 ++ entry 1 5 6 6) 1) (Peek 15 0) (log_word 1922)
    ∷ peeked (logged 2 0 (entry 0 8 4 9 ++ entry 1 5 6 6) 1) (Peek 15 1) (store_word 1)
    -- a written one's also where it has the value found, the store's or another
    ∷ peeked (logged 1 0 (entry 0 3 3 1) 1) (Peek 2 0) (log_word 258) ∷ peeked (logged 1 0 (entry 0 8 8 1) 1) (Peek 1 0) (log_word 130)
    ∷ peeked (logged 1 0 (entry 0 8 4 6 ++ entry 1 5 6 1) 1) (Peek 1 1) no_word
    ∷ peeked (logged 2 0 (entry 0 8 4 6 ++ entry 1 5 6 1) 2) (Peek 1 1) no_word
    ∷ peeked (logged 2 0 (entry 0 8 4 6 ++ entry 1 5 6 1) 1) (Peek 1 2) no_word
    ∷ []
