-- Loading a table of caps in place of the one in force (document 02, Paper 5), while every session is idle.
use Rattle.std.specs.Prelude.{ℕ, zero, suc, ◌≡◌, Bool, true, ◌&&◌, List, [], ◌∷◌, ltb, eqb}
use Rattle.model.specs.Buffers.{Store, session_at, has_caps, passes, all_fit, lengths_fit}
use Rattle.records.specs.declared.Sessions.{Sessions}
use Rattle.records.specs.declared.Call.{Call}
use Rattle.records.specs.declared.Answer.{Answer}
use Rattle.records.specs.declared.Answer.TheVariants.{Done, Refused}
use Rattle.model.specs.Plans.{require}
use Rattle.model.specs.Step.{Outcome, outcome, step, answer_of}

-- the phase of each of the first m sessions is 0; of all: one above 4 is not idle
unfoldable pub idle_below : ℕ → Sessions → Bool
idle_below zero ss = true
idle_below (suc s) ss = idle_below s ss && eqb (session_at ss s).phase 0

unfoldable pub all_idle : Sessions → Bool
all_idle ss = idle_below 16 ss

-- every class byte is at most 15
unfoldable pub all_classed : List ℕ → Bool
all_classed [] = true
all_classed (k ∷ ks) = ltb k 16 && all_classed ks

-- what refuses to load the table T, in order: wrong lengths, of either table too, 7; a session that is not idle 2; a table that does not pass 16; a class byte
-- above 15 8; a value above its new cap 17; 0 where nothing does
unfoldable pub load_refusal : List ℕ → Store → ℕ
load_refusal T σ =
    require (has_caps σ.limits.caps && has_caps T && lengths_fit σ.lent) 7
    (require (all_idle σ.sessions) 2
    (require (passes T) 16
    (require (all_classed σ.lent.classes) 8
    (require (all_fit T σ.lent.values σ.lent.classes) 17 0))))

-- with the table T in force, and all else as it was
abbrev pub with_caps : List ℕ → Store → Store
with_caps T σ = record { lent = σ.lent; limits = record { caps = T }; sessions = σ.sessions }

-- refused, the old table and all else are as before
unfoldable pub load_answer : List ℕ → Store → Answer
load_answer T σ = let r = load_refusal T σ in require (eqb r 0) (Refused r) Done

unfoldable pub load : List ℕ → Store → Store
load T σ = require (eqb (load_refusal T σ) 0) σ (with_caps T σ)

-- its answer and all that it leaves
unfoldable pub load_effect : List ℕ → Store → Outcome
load_effect T σ = outcome (load_answer T σ) (load T σ)

-- ---- who reads the table

-- the call k does not: with another one in force it answers the same, and leaves the same but for the table; `table_unread` of model_claims proves it of every call but
-- a write
pub record Unread (k : Call) (T : List ℕ) (σ : Store) : Type 0 where
  pub answer : answer_of k (with_caps T σ) ≡ answer_of k σ
  pub left : step k (with_caps T σ) ≡ with_caps T (step k σ)
