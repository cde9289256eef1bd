-- The calls and set-up (document 01, "The steps"): a call is its plan, and what the plan does.
use Rattle.std.specs.Prelude.{◌≡◌, ℕ, ◌%◌, ◌&&◌, eqb}
use Rattle.model.specs.Buffers.{Buffers, Limits, Store, size, session_at, with_session, lock_at, our_caps, has_caps, passes, all_fit, lengths_fit, fresh}
use Rattle.records.specs.declared.Session.{Session}
pub use Rattle.records.specs.Records.{session_of}
use Rattle.records.specs.declared.Sessions.{Sessions}
use Rattle.records.specs.declared.Call.{Call}
use Rattle.records.specs.declared.Call.TheVariants.{Begin, Read, Write, Seal, Advance, Abandon, Peek, Hold}
use Rattle.records.specs.declared.Answer.{Answer}
use Rattle.records.specs.declared.Answer.TheVariants.{Done, Refused}
use Rattle.records.specs.declared.Plan.{Plan}
use Rattle.records.specs.declared.Plan.TheVariants.{Refuse}
use Rattle.model.specs.Plans.{require, admit, plan, table_fits}
use Rattle.model.specs.Effects.{record_of, log_of, Part, answer, shown, after}

-- a call's plan in a store: 7 and 1, then the plan of what its session sees
unfoldable pub plan_of : Call → Store → Plan
plan_of k σ =
    require (table_fits k σ.limits) (Refuse 7)
    (admit σ.lent (session_of k)
    (plan k (size σ.lent) σ.lent.classes σ.limits (log_of σ (session_of k)) (record_of σ (session_of k)) (lock_at σ.lent.locks)))

unfoldable pub step : Call → Store → Store
step k σ = after (session_of k) (plan_of k σ) σ

unfoldable pub answer_of : Call → Store → Answer
answer_of k σ = answer (session_of k) (plan_of k σ) σ

-- what a peek of cell c by session s is shown; a refused peek is shown no word, and its number is `answer_of`'s
abbrev pub peek_shows : ℕ → ℕ → Store → Part
peek_shows s c σ = shown s (plan_of (Peek s c) σ) σ

-- set-up refuses wrong lengths, also the table's, by 7, a table that does not pass by 16 (document 02, Paper 5), and a class above 15 or a value above its cap by 8;
-- 0 where it refuses nothing
unfoldable pub set_up_refusal : Limits → Buffers → ℕ
set_up_refusal G B =
    require (has_caps G.caps && lengths_fit B) 7 (require (passes G.caps) 16 (require (all_fit G.caps B.values B.classes) 8 0))

unfoldable pub set_up_answer : Store → Answer
set_up_answer σ = let r = set_up_refusal σ.limits σ.lent in require (eqb r 0) (Refused r) Done

-- refused, all is as before
unfoldable pub set_up : Store → Store
set_up σ = require (eqb (set_up_refusal σ.limits σ.lent) 0) σ (fresh σ.limits σ.lent)

-- a call's answer and all that it leaves; what a peek is shown is `peek_shows`
pub record Outcome : Type 0 where
  pub answer : Answer
  pub store : Store

abbrev pub outcome : Answer → Store → Outcome
outcome a σ = record { answer = a; store = σ }

unfoldable pub effect : Call → Store → Outcome
effect k σ = outcome (answer_of k σ) (step k σ)

unfoldable pub set_up_effect : Store → Outcome
set_up_effect σ = outcome (set_up_answer σ) (set_up σ)

-- a call that is handed the lent buffers B and its session's record x, under the limits G, answers a, and leaves the buffers C and the record y: of every sixteen
-- records of which x is the session's it answers and leaves what the model says. A session above 15 has no record: the one handed in stands for that of its number
-- modulo 16, and comes back as it came, since the call is refused
abbrev pub TakesUnder : Limits → Call → Buffers → Session → Answer → Buffers → Session → Type 0
TakesUnder G k B x a C y =
    (ss : Sessions) → session_at ss (session_of k % 16) ≡ x
    → outcome a (record { lent = C; limits = G; sessions = with_session ss (session_of k % 16) y }) ≡ effect k (record { lent = B; limits = G; sessions = ss })

-- what a call asks of the limits that it is not handed: a write goes by our caps; no other call reads the table
abbrev pub GoesBy : Call → Limits → Type 0
GoesBy (Begin s) G = Unit
GoesBy (Read s c) G = Unit
GoesBy (Write s c v) G = G.caps ≡ our_caps
GoesBy (Seal s) G = Unit
GoesBy (Advance s) G = Unit
GoesBy (Abandon s) G = Unit
GoesBy (Peek s c) G = Unit
GoesBy (Hold s c) G = Unit

-- the same of a call that is handed no table: whatever the limits are, where it goes by them
abbrev pub TakesRecord : Call → Buffers → Session → Answer → Buffers → Session → Type 0
TakesRecord k B x a C y = (G : Limits) → GoesBy k G → TakesUnder G k B x a C y
