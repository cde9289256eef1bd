-- Many reads in one call (document 02, Paper 1): the session reads the cells of a list one by one, in order, and ends with the first read that gets no value.
use Rattle.std.specs.Prelude.{ℕ, ◌%◌, ◌≡◌, cond, ◌&&◌, List, [], ◌∷◌, ◌++◌, ltb, leb, eqb, length, drop}
use Rattle.model.specs.Buffers.{Buffers, Limits, Store, session_at, with_session}
use Rattle.records.specs.declared.Session.{Session}
use Rattle.records.specs.declared.Sessions.{Sessions}
use Rattle.records.specs.declared.Call.TheVariants.{Read}
use Rattle.records.specs.declared.Answer.{Answer}
use Rattle.records.specs.declared.Answer.TheVariants.{Done, Refused}
use Rattle.records.specs.declared.ReadManyReply.{ReadManyReply}
use Rattle.model.specs.Effects.{number, value_of}
use Rattle.model.specs.Plans.{require}
use Rattle.model.specs.Step.{step, answer_of}

-- what reads come to: the values obtained, in the order of the cells; the last answer; and the store that they leave
pub record Reads : Type 0 where
  pub values : List ℕ
  pub last : Answer
  pub store : Store

-- nothing more is obtained
abbrev pub stopped : Answer → Store → Reads
stopped a σ = record { values = []; last = a; store = σ }

-- one value more, before what the later reads come to
abbrev pub obtained : ℕ → Reads → Reads
obtained v r = record { values = v ∷ r.values; last = r.last; store = r.store }

-- single reads by session s, in order: each on what the one before left, and none after an answer that is not 101. `a` is the answer before them
unfoldable pub reads : ℕ → Answer → List ℕ → Store → Reads
reads s a [] σ = stopped a σ
reads s a (c ∷ cs) σ =
    let b = answer_of (Read s c) σ in
    let τ = step (Read s c) σ in
    cond (eqb (number b) 101) (obtained (value_of b) (reads s b cs τ)) (stopped b τ)

-- refusals of the list: 15 where it has no cell or more than 32, then 13 where the target has fewer words than the list has cells; 0 where it is not refused
unfoldable pub list_refusal : ℕ → ℕ → ℕ
list_refusal cells words = require (ltb 0 cells && leb cells 32) 15 (require (leb cells words) 13 0)

-- the call, into a target of so many words: the list is judged before all else, and with a refused one nothing is obtained and all is as before. `Done` is never the
-- last answer: there is a first read
unfoldable pub read_many : ℕ → List ℕ → ℕ → Store → Reads
read_many s cs words σ =
    let n = list_refusal (length cs) words in
    require (eqb n 0) (stopped (Refused n) σ) (reads s Done cs σ)

-- what the call answers, the number of the last answer and how many values were obtained, and all that it leaves: the values stand at the front of the target, and its
-- other words are as before
pub record ReadsOutcome : Type 0 where
  pub number : ℕ
  pub count : ℕ
  pub target : List ℕ
  pub store : Store

unfoldable pub read_many_effect : ℕ → List ℕ → List ℕ → Store → ReadsOutcome
read_many_effect s cs target σ =
    let r = read_many s cs (length target) σ in
    record { number = number r.last; count = length r.values; target = r.values ++ drop (length r.values) target; store = r.store }

-- a call that is handed the lent buffers B, its session's record x, the cells cs and the target t, replies r, and leaves the buffers C and the target u: of every
-- sixteen records of which x is the session's, and whatever the limits are, it answers and leaves what the model says, as `TakesRecord` says it of the other calls
abbrev pub TakesReads : ℕ → List ℕ → Buffers → Session → List ℕ → ReadManyReply → Buffers → List ℕ → Type 0
TakesReads s cs B x t r C u =
    (G : Limits) (ss : Sessions) → session_at ss (s % 16) ≡ x
    → record { number = r.number; count = r.count; target = u; store = record { lent = C; limits = G; sessions = with_session ss (s % 16) r.session } }
    ≡ read_many_effect s cs t (record { lent = B; limits = G; sessions = ss })
