-- Set-up on buffers of every length, and each cap (document 01, "What the caller lends", and 7 and 8 of "When a call is turned down"): rows in numerals, as in
-- Cases.antt.
use Rattle.std.specs.Prelude.{ℕ, cond, List, [], ◌∷◌, eqb, replicate}
use Rattle.records.specs.declared.Session.{Session}
use Rattle.records.specs.declared.Call.TheVariants.{Begin, Write}
use Rattle.model.specs.Buffers.{Store, ours}
use Rattle.model.specs.Effects.{number}
use Rattle.model.specs.Step.{answer_of, set_up_answer, set_up}
use Rattle.model.specs.Cases.{session, Result, result}

-- ---- set-up

-- values, classes, and how many reader sets, claimants, marks and log words are lent; set-up's number
pub record Lending : Type 0 where
  pub values : List ℕ
  pub classes : List ℕ
  pub readers : ℕ
  pub claimants : ℕ
  pub exclusives : ℕ
  pub words : ℕ
  pub number : ℕ

abbrev lending : List ℕ → List ℕ → ℕ → ℕ → ℕ → ℕ → ℕ → Lending
lending v k r c e w n = record { values = v; classes = k; readers = r; claimants = c; exclusives = e; words = w; number = n }

-- a store of that shape, with these words, claimants and records in it
abbrev filled : Lending → ℕ → ℕ → ℕ → ℕ → Session → Store
filled r set claimant mark word x =
    record {
      lent = record {
        values = r.values;
        classes = r.classes;
        locks = record { readers = replicate r.readers set; claimants = replicate r.claimants claimant; exclusives = replicate r.exclusives mark };
        logs = replicate r.words word;
      };
      limits = ours;
      sessions = record { records = replicate 16 x };
    }

abbrev used : Lending → Store
used r = filled r 5 2 1 7 (session 3 9 1)

-- set-up's answer and all that it leaves, and what a begin of session 16 answers on the same buffers
pub record Started : Type 0 where
  pub set_up : Result
  pub begin : ℕ

unfoldable pub started_by : Lending → Started
started_by r = record { set_up = result (set_up_answer (used r)) (set_up (used r)); begin = number (answer_of (Begin 16) (used r)) }

-- 100: sessions idle, locks empty, log words 0, values and classes as before; else all as before. The begin is 7 where lengths are wrong, else 1
unfoldable pub starts_by : Lending → Started
starts_by r =
    record {
      set_up = record { number = r.number; value = 0; store = cond (eqb r.number 100) (filled r 0 16 0 0 (session 0 0 0)) (used r) };
      begin = cond (eqb r.number 7) 7 1;
    }

unfoldable pub lendings : List Lending
lendings =
    lending (3 ∷ 4 ∷ []) (2 ∷ 3 ∷ []) 2 2 2 2048 100
    -- 8: a class byte above 15; a value above its cap; of any cell
    ∷ lending (0 ∷ []) (16 ∷ []) 1 1 1 2048 8 ∷ lending (0 ∷ []) (255 ∷ []) 1 1 1 2048 8
    ∷ lending (3 ∷ 9 ∷ []) (2 ∷ 2 ∷ []) 2 2 2 2048 8 ∷ lending (9 ∷ 3 ∷ []) (2 ∷ 2 ∷ []) 2 2 2 2048 8
    -- 7: n outside 1 to 1,024; classes or locks not n long; logs not 2,048 words; before 8
    ∷ lending (replicate 1024 1) (replicate 1024 0) 1024 1024 1024 2048 100
    ∷ lending [] [] 0 0 0 2048 7 ∷ lending (replicate 1025 1) (replicate 1025 0) 1025 1025 1025 2048 7
    ∷ lending (9 ∷ []) (2 ∷ 2 ∷ []) 1 1 1 2048 7 ∷ lending (9 ∷ []) [] 1 1 1 2048 7
    ∷ lending (9 ∷ []) (2 ∷ []) 2 1 1 2048 7 ∷ lending (9 ∷ []) (2 ∷ []) 0 1 1 2048 7
    ∷ lending (9 ∷ []) (2 ∷ []) 1 2 1 2048 7 ∷ lending (9 ∷ []) (2 ∷ []) 1 0 1 2048 7
    ∷ lending (9 ∷ []) (2 ∷ []) 1 1 2 2048 7 ∷ lending (9 ∷ []) (2 ∷ []) 1 1 0 2048 7
    ∷ lending (9 ∷ []) (2 ∷ []) 1 1 1 2049 7 ∷ lending (9 ∷ []) (2 ∷ []) 1 1 1 2047 7
    ∷ []

-- ---- caps

pub record Cap : Type 0 where
  pub class : ℕ
  pub most : ℕ

-- one cell of a class with a value; its session 0 runs
abbrev pub of_class : ℕ → ℕ → Store
of_class k v = filled (lending (v ∷ []) (k ∷ []) 1 1 1 2048 0) 0 16 0 0 (session 1 0 0)

-- what set-up answers to a value, and a write to it
unfoldable pub judged : ℕ → ℕ → List ℕ
judged k v = number (set_up_answer (of_class k v)) ∷ number (answer_of (Write 0 0 v) (of_class k 0)) ∷ []

abbrev cap : ℕ → ℕ → Cap
cap k m = record { class = k; most = m }

-- caps by class 0 to 15
unfoldable pub caps : List Cap
caps =
    cap 0 1 ∷ cap 1 6 ∷ cap 2 8 ∷ cap 3 10 ∷ cap 4 12 ∷ cap 5 15 ∷ cap 6 18 ∷ cap 7 21 ∷ cap 8 24 ∷ cap 9 27 ∷ cap 10 30 ∷ cap 11 36 ∷ cap 12 42 ∷ cap 13 48
    ∷ cap 14 60 ∷ cap 15 4294967295 ∷ []
