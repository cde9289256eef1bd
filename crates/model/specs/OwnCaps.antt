-- Tables of caps (document 02, Paper 5): which pass, set-up, writes and loads by them on buffers of every length, and lists with loads; rows in numerals, as in
-- Cases.antt. proofs/OwnCaps.antt proves the tables of rows by computation.
use Rattle.std.specs.Prelude.{ℕ, Bool, true, false, cond, List, [], ◌∷◌, ◌++◌, map, reverse, eqb, length, set, replicate, take}
use Rattle.records.specs.declared.Session.{Session}
use Rattle.records.specs.declared.Call.{Call}
use Rattle.records.specs.declared.Call.TheVariants.{Begin, Read, Write, Seal, Advance, Abandon, Peek, Hold}
use Rattle.model.specs.Buffers.{Store, ours}
use Rattle.model.specs.Cases.{session, Result, result}
use Rattle.model.specs.Effects.{number, value_of, log_of}
use Rattle.model.specs.History.{Action, one_call, load_caps, Event, run, events}
use Rattle.model.specs.Load.{load_answer, load}
use Rattle.model.specs.Step.{step, answer_of, set_up_answer, set_up}

-- ---- tables

-- two that pass: of class 2 the one has a cap of 7, the other of 9; ours has 8
abbrev pub low : List ℕ
low = 2 ∷ 4 ∷ 7 ∷ 9 ∷ 11 ∷ 14 ∷ 16 ∷ 20 ∷ 22 ∷ 25 ∷ 28 ∷ 33 ∷ 40 ∷ 45 ∷ 55 ∷ 90 ∷ []

abbrev pub high : List ℕ
high = 2 ∷ 5 ∷ 9 ∷ 10 ∷ 12 ∷ 15 ∷ 18 ∷ 21 ∷ 24 ∷ 27 ∷ 30 ∷ 36 ∷ 42 ∷ 48 ∷ 60 ∷ 61 ∷ []

-- that do not: two that are equal, the first two and the last two; one that falls; a first cap of 0
abbrev pub level : List ℕ
level = 2 ∷ 2 ∷ 7 ∷ 9 ∷ 11 ∷ 14 ∷ 16 ∷ 20 ∷ 22 ∷ 25 ∷ 28 ∷ 33 ∷ 40 ∷ 45 ∷ 55 ∷ 90 ∷ []

abbrev level_last : List ℕ
level_last = 2 ∷ 4 ∷ 7 ∷ 9 ∷ 11 ∷ 14 ∷ 16 ∷ 20 ∷ 22 ∷ 25 ∷ 28 ∷ 33 ∷ 40 ∷ 45 ∷ 55 ∷ 55 ∷ []

abbrev pub falling : List ℕ
falling = 2 ∷ 4 ∷ 9 ∷ 7 ∷ 11 ∷ 14 ∷ 16 ∷ 20 ∷ 22 ∷ 25 ∷ 28 ∷ 33 ∷ 40 ∷ 45 ∷ 55 ∷ 90 ∷ []

abbrev from_zero : List ℕ
from_zero = 0 ∷ 4 ∷ 7 ∷ 9 ∷ 11 ∷ 14 ∷ 16 ∷ 20 ∷ 22 ∷ 25 ∷ 28 ∷ 33 ∷ 40 ∷ 45 ∷ 55 ∷ 90 ∷ []

abbrev from_one : List ℕ
from_one = 1 ∷ 4 ∷ 7 ∷ 9 ∷ 11 ∷ 14 ∷ 16 ∷ 20 ∷ 22 ∷ 25 ∷ 28 ∷ 33 ∷ 40 ∷ 45 ∷ 55 ∷ 90 ∷ []

-- and two that are not of 16 caps
abbrev fifteen : List ℕ
fifteen = 2 ∷ 4 ∷ 7 ∷ 9 ∷ 11 ∷ 14 ∷ 16 ∷ 20 ∷ 22 ∷ 25 ∷ 28 ∷ 33 ∷ 40 ∷ 45 ∷ 55 ∷ []

abbrev seventeen : List ℕ
seventeen = low ++ 91 ∷ []

-- which of them pass
unfoldable pub tables : List (List ℕ)
tables = low ∷ high ∷ ours.caps ∷ from_one ∷ level ∷ level_last ∷ falling ∷ from_zero ∷ []

unfoldable pub passing : List Bool
passing = true ∷ true ∷ true ∷ true ∷ false ∷ false ∷ false ∷ false ∷ []

-- ---- set-up by a table

-- the table, values, classes, how many log words are lent; set-up's number
pub record Lending : Type 0 where
  pub caps : List ℕ
  pub values : List ℕ
  pub classes : List ℕ
  pub words : ℕ
  pub number : ℕ

abbrev lending : List ℕ → List ℕ → List ℕ → ℕ → ℕ → Lending
lending T v k w n = record { caps = T; values = v; classes = k; words = w; number = n }

-- a store with that table in force, each lock and log word the same, and these records
abbrev pub filled : List ℕ → List ℕ → List ℕ → ℕ → ℕ → ℕ → ℕ → ℕ → List Session → Store
filled T v k words set claimant mark word xs =
    let n = length v in
    record {
      lent = record {
        values = v;
        classes = k;
        locks = record { readers = replicate n set; claimants = replicate n claimant; exclusives = replicate n mark };
        logs = replicate words word;
      };
      limits = record { caps = T };
      sessions = record { records = xs };
    }

abbrev used : Lending → Store
used r = filled r.caps r.values r.classes r.words 5 2 1 7 (replicate 16 (session 3 9 1))

unfoldable pub started_by : Lending → Result
started_by r = result (set_up_answer (used r)) (set_up (used r))

-- 100: sessions idle, locks empty, log words 0, and the table as it was handed in; else all as before
unfoldable pub starts_by : Lending → Result
starts_by r =
    record {
      number = r.number;
      value = 0;
      store = cond (eqb r.number 100) (filled r.caps r.values r.classes 2048 0 16 0 0 (replicate 16 (session 0 0 0))) (used r);
    }

unfoldable pub lendings : List Lending
lendings =
    -- a value above our cap and within this one; one within ours and above this one; at this one
    lending high (9 ∷ []) (2 ∷ []) 2048 100 ∷ lending low (8 ∷ []) (2 ∷ []) 2048 8 ∷ lending low (7 ∷ []) (2 ∷ []) 2048 100
    -- 8 by a class above 15
    ∷ lending low (0 ∷ 0 ∷ []) (2 ∷ 16 ∷ []) 2048 8
    -- 16, before 8
    ∷ lending level (7 ∷ []) (2 ∷ []) 2048 16 ∷ lending level_last (7 ∷ []) (2 ∷ []) 2048 16 ∷ lending falling (7 ∷ []) (2 ∷ []) 2048 16
    ∷ lending from_zero (7 ∷ []) (2 ∷ []) 2048 16 ∷ lending level (7 ∷ []) (16 ∷ []) 2048 16 ∷ lending falling (99 ∷ []) (2 ∷ []) 2048 16
    -- 7 by the table's length, and by the others', before 16
    ∷ lending fifteen (7 ∷ []) (2 ∷ []) 2048 7 ∷ lending seventeen (7 ∷ []) (2 ∷ []) 2048 7 ∷ lending [] (7 ∷ []) (2 ∷ []) 2048 7
    ∷ lending level (7 ∷ []) (2 ∷ []) 2047 7 ∷ lending low (7 ∷ []) (2 ∷ []) 2049 7 ∷ lending falling [] [] 2048 7
    ∷ []

-- ---- a write by a table

-- the table in force, the class of the one cell, the session and the value that it writes; its number, and the first words of session 0's log
pub record Written : Type 0 where
  pub caps : List ℕ
  pub class : ℕ
  pub writer : ℕ
  pub value : ℕ
  pub number : ℕ
  pub words : List ℕ

abbrev written : List ℕ → ℕ → ℕ → ℕ → ℕ → List ℕ → Written
written T k s v n w = record { caps = T; class = k; writer = s; value = v; number = n; words = w }

-- one cell, of value 0; session 0 runs
abbrev pub one_cell : List ℕ → ℕ → Store
one_cell T k = filled T (0 ∷ []) (k ∷ []) 2048 0 16 0 0 (session 1 0 0 ∷ replicate 15 (session 0 0 0))

-- the number, the first words of session 0's log, and the table afterwards
pub record Wrote : Type 0 where
  pub number : ℕ
  pub words : List ℕ
  pub caps : List ℕ

unfoldable pub wrote_by : Written → Wrote
wrote_by r =
    let k = Write r.writer 0 r.value in
    let σ = one_cell r.caps r.class in
    record { number = number (answer_of k σ); words = take 4 (log_of (step k σ) 0); caps = (step k σ).limits.caps }

unfoldable pub writes_by : Written → Wrote
writes_by r = record { number = r.number; words = r.words; caps = r.caps }

unfoldable pub writes : List Written
writes =
    -- at the cap, and above it, by the class
    written low 2 0 7 100 (0 ∷ 0 ∷ 7 ∷ 1 ∷ []) ∷ written low 2 0 8 4 (0 ∷ 0 ∷ 0 ∷ 0 ∷ []) ∷ written high 2 0 9 100 (0 ∷ 0 ∷ 9 ∷ 1 ∷ [])
    ∷ written low 0 0 2 100 (0 ∷ 0 ∷ 2 ∷ 1 ∷ []) ∷ written low 0 0 3 4 (0 ∷ 0 ∷ 0 ∷ 0 ∷ []) ∷ written low 15 0 90 100 (0 ∷ 0 ∷ 90 ∷ 1 ∷ []) ∷ written low 15 0 91 4 (0 ∷ 0 ∷ 0 ∷ 0 ∷ [])
    -- by one that does not pass
    ∷ written falling 3 0 7 100 (0 ∷ 0 ∷ 7 ∷ 1 ∷ []) ∷ written falling 3 0 8 4 (0 ∷ 0 ∷ 0 ∷ 0 ∷ []) ∷ written from_zero 0 0 0 100 (0 ∷ 0 ∷ 0 ∷ 1 ∷ []) ∷ written from_zero 0 0 1 4 (0 ∷ 0 ∷ 0 ∷ 0 ∷ [])
    ∷ written falling 16 0 0 8 (0 ∷ 0 ∷ 0 ∷ 0 ∷ []) ∷ written low 16 0 99 8 (0 ∷ 0 ∷ 0 ∷ 0 ∷ [])
    -- 7, before 1, 2 and 8
    ∷ written fifteen 2 0 1 7 (0 ∷ 0 ∷ 0 ∷ 0 ∷ []) ∷ written seventeen 2 0 1 7 (0 ∷ 0 ∷ 0 ∷ 0 ∷ []) ∷ written [] 16 0 1 7 (0 ∷ 0 ∷ 0 ∷ 0 ∷ [])
    ∷ written fifteen 2 16 1 7 (0 ∷ 0 ∷ 0 ∷ 0 ∷ []) ∷ written seventeen 2 1 1 7 (0 ∷ 0 ∷ 0 ∷ 0 ∷ []) ∷ written low 2 16 1 1 (0 ∷ 0 ∷ 0 ∷ 0 ∷ []) ∷ written low 2 1 1 2 (0 ∷ 0 ∷ 0 ∷ 0 ∷ [])
    ∷ []

-- no other call reads the table: none in force, and they answer all the same
unfoldable pub others : List Call
others = Begin 1 ∷ Read 0 0 ∷ Hold 0 0 ∷ Seal 0 ∷ Advance 0 ∷ Abandon 0 ∷ Peek 0 0 ∷ Write 0 0 0 ∷ []

unfoldable pub answers_without : List ℕ
answers_without = map (λ (k : Call). number (answer_of k (one_cell [] 2))) others

-- ---- a load

-- the table in force and the new one, values, classes, how many log words are lent, and a session's phase, where the others are idle; the load's number
pub record Loading : Type 0 where
  pub caps : List ℕ
  pub table : List ℕ
  pub values : List ℕ
  pub classes : List ℕ
  pub words : ℕ
  pub who : ℕ
  pub phase : ℕ
  pub number : ℕ

abbrev loading : List ℕ → List ℕ → List ℕ → List ℕ → ℕ → ℕ → ℕ → ℕ → Loading
loading C T v k w s p n = record { caps = C; table = T; values = v; classes = k; words = w; who = s; phase = p; number = n }

abbrev loaded_from : Loading → List ℕ → Store
loaded_from r T = filled T r.values r.classes r.words 5 2 1 7 (set (replicate 16 (session 0 9 1)) r.who (session r.phase 9 1))

unfoldable pub loaded_by : Loading → Result
loaded_by r = let σ = loaded_from r r.caps in result (load_answer r.table σ) (load r.table σ)

-- 100: the new table is in force; else the old one; and all else as before
unfoldable pub loads_by : Loading → Result
loads_by r = record { number = r.number; value = 0; store = loaded_from r (cond (eqb r.number 100) r.table r.caps) }

unfoldable pub loads : List Loading
loads =
    loading low high (7 ∷ []) (2 ∷ []) 2048 0 0 100 ∷ loading high low (7 ∷ []) (2 ∷ []) 2048 0 0 100 ∷ loading low low (7 ∷ []) (2 ∷ []) 2048 0 0 100
    -- the one in force need not pass
    ∷ loading falling high (7 ∷ []) (2 ∷ []) 2048 0 0 100
    -- 2: a session in any phase but 0, the first or the last, damaged or not; before 16
    ∷ loading low high (7 ∷ []) (2 ∷ []) 2048 0 1 2 ∷ loading low high (7 ∷ []) (2 ∷ []) 2048 7 2 2 ∷ loading low high (7 ∷ []) (2 ∷ []) 2048 15 4 2
    ∷ loading low high (7 ∷ []) (2 ∷ []) 2048 0 5 2 ∷ loading low high (7 ∷ []) (2 ∷ []) 2048 15 255 2 ∷ loading low level (7 ∷ []) (16 ∷ []) 2048 3 1 2
    -- 16, before 8 and 17
    ∷ loading low level (7 ∷ []) (2 ∷ []) 2048 0 0 16 ∷ loading low level_last (7 ∷ []) (2 ∷ []) 2048 0 0 16 ∷ loading low falling (7 ∷ []) (2 ∷ []) 2048 0 0 16
    ∷ loading low from_zero (7 ∷ []) (2 ∷ []) 2048 0 0 16 ∷ loading low level (7 ∷ []) (16 ∷ []) 2048 0 0 16 ∷ loading low level (99 ∷ []) (2 ∷ []) 2048 0 0 16
    -- 8, before 17, of any cell
    ∷ loading low high (7 ∷ []) (16 ∷ []) 2048 0 0 8 ∷ loading low high (99 ∷ 0 ∷ []) (2 ∷ 255 ∷ []) 2048 0 0 8
    -- 17: above its new cap, of any cell, within the old one or not; at it
    ∷ loading high low (8 ∷ []) (2 ∷ []) 2048 0 0 17 ∷ loading high low (7 ∷ 8 ∷ []) (2 ∷ 2 ∷ []) 2048 0 0 17 ∷ loading low high (10 ∷ []) (2 ∷ []) 2048 0 0 17
    ∷ loading low high (9 ∷ []) (2 ∷ []) 2048 0 0 100
    -- 7 by either table's length, and by the others', before 2
    ∷ loading fifteen high (7 ∷ []) (2 ∷ []) 2048 0 0 7 ∷ loading seventeen high (7 ∷ []) (2 ∷ []) 2048 0 0 7 ∷ loading low fifteen (7 ∷ []) (2 ∷ []) 2048 0 0 7
    ∷ loading low seventeen (7 ∷ []) (2 ∷ []) 2048 0 0 7 ∷ loading low [] (7 ∷ []) (2 ∷ []) 2048 0 1 7 ∷ loading low level (7 ∷ []) (2 ∷ []) 2047 0 1 7
    ∷ loading low high [] [] 2048 0 0 7
    ∷ []

-- ---- lists with loads

-- the table at set-up and the actions in order, on a cell of class 2 with value 3; the number of each with its value, the values at the end and the table in force there
pub record Course : Type 0 where
  pub caps : List ℕ
  pub actions : List Action
  pub numbers : List ℕ
  pub answered : List ℕ
  pub ends : List ℕ
  pub table : List ℕ

abbrev course : List ℕ → List Action → List ℕ → List ℕ → List ℕ → List ℕ → Course
course T ks n v e U = record { caps = T; actions = ks; numbers = n; answered = v; ends = e; table = U }

-- what it comes to: set-up's number, and the same of the actions
pub record Ends : Type 0 where
  pub set_up : ℕ
  pub numbers : List ℕ
  pub answered : List ℕ
  pub ends : List ℕ
  pub table : List ℕ

abbrev pub start_of : Course → Store
start_of r = used (lending r.caps (3 ∷ []) (2 ∷ []) 2048 100)

unfoldable pub ends_of : Course → Ends
ends_of r =
    let σ = set_up (start_of r) in
    let h = reverse (events σ (reverse r.actions)) in
    let τ = run σ (reverse r.actions) in
    record {
      set_up = number (set_up_answer (start_of r));
      numbers = map (λ (e : Event). number e.answer) h;
      answered = map (λ (e : Event). value_of e.answer) h;
      ends = τ.lent.values;
      table = τ.limits.caps;
    }

unfoldable pub expected_of : Course → Ends
expected_of r = record { set_up = 100; numbers = r.numbers; answered = r.answered; ends = r.ends; table = r.table }

-- session 0 writes v and commits
abbrev commits : ℕ → List Action
commits v = one_call (Begin 0) ∷ one_call (Write 0 0 v) ∷ one_call (Seal 0) ∷ one_call (Advance 0) ∷ one_call (Advance 0) ∷ one_call (Advance 0) ∷ []

unfoldable pub courses : List Course
courses =
    -- above the old cap and within the new one: 4, and after the load it passes
    course low (one_call (Begin 0) ∷ one_call (Write 0 0 9) ∷ one_call (Abandon 0) ∷ load_caps high ∷ commits 9) (100 ∷ 4 ∷ 100 ∷ 100 ∷ 100 ∷ 100 ∷ 102 ∷ 103 ∷ 103 ∷ 105 ∷ []) (replicate 10 0) (9 ∷ []) high
    -- 17 leaves the old table, and a write after it goes by that
    ∷ course high (commits 9 ++ load_caps low ∷ one_call (Begin 0) ∷ one_call (Write 0 0 8) ∷ one_call (Write 0 0 10) ∷ [])
    (100 ∷ 100 ∷ 102 ∷ 103 ∷ 103 ∷ 105 ∷ 17 ∷ 100 ∷ 100 ∷ 4 ∷ []) (replicate 10 0) (9 ∷ []) high
    -- 2 while a session runs, promotes, publishes or releases; 100 once it has ended
    ∷ course low (one_call (Begin 0) ∷ load_caps high ∷ one_call (Write 0 0 5) ∷ one_call (Seal 0) ∷ load_caps high ∷ one_call (Advance 0) ∷ load_caps high ∷ one_call (Advance 0) ∷ load_caps high ∷ one_call (Advance 0) ∷ load_caps high ∷ [])
    (100 ∷ 2 ∷ 100 ∷ 102 ∷ 2 ∷ 103 ∷ 2 ∷ 103 ∷ 2 ∷ 105 ∷ 100 ∷ []) (replicate 11 0) (5 ∷ []) high
    -- refused by 16 and 7, the old table stays; a lower cap holds after a load
    ∷ course high (load_caps level ∷ load_caps from_zero ∷ load_caps fifteen ∷ one_call (Begin 0) ∷ one_call (Write 0 0 9) ∷ one_call (Abandon 0) ∷ load_caps low ∷ one_call (Begin 0) ∷ one_call (Write 0 0 8) ∷ one_call (Write 0 0 7) ∷ one_call (Read 0 0) ∷ [])
    (16 ∷ 16 ∷ 7 ∷ 100 ∷ 100 ∷ 100 ∷ 100 ∷ 100 ∷ 4 ∷ 100 ∷ 101 ∷ []) (replicate 10 0 ++ 7 ∷ []) (3 ∷ []) low
    ∷ []
