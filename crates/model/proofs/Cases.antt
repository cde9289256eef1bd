-- Single calls and set-up answer and leave what the tables of specs/Cases.antt and specs/SetUpCases.antt say, by computation over the step definitions.
use Prim.Native.Nat.{ℕ, suc, ◌+◌, ◌*◌, ◌-◌}
use mathlib.Core.Path.{◌≡◌, refl, ◌∙◌}
use mathlib.Core.Bool.{Bool, ◌&&◌}
use mathlib.Core.List.{List, [], ◌∷◌, map}
use lib.Dec.{ltb, eqb}
use lib.ListN.{length, replicate, length-append, length-replicate}
use Rattle.records.specs.declared.Call.{Call}
use Rattle.records.specs.declared.Call.TheVariants.{Write}
use Rattle.records.specs.declared.Answer.TheVariants.{Done, Refused}
use Rattle.records.specs.declared.Plan.{Plan}
use Rattle.records.specs.declared.Plan.TheVariants.{Refuse}
use Rattle.model.specs.Buffers.{Buffers, Store, size, lock_at, our_caps, has_caps, passes, all_fit, lengths_match, lengths_fit}
use Rattle.model.specs.Plans.{require, plan, table_fits}
use Rattle.model.specs.Computing.{computing}
use Rattle.model.specs.Effects.{Part, number, record_of, log_of, answer, after}
use Rattle.model.specs.Step.{session_of, plan_of, step, answer_of, set_up_refusal, set_up_answer}
use Rattle.model.specs.Cases.{State, store_with, Result, result, Case, actual, expected, steps, refusals, order, Phased, answered, phases, damaged, Peeked, handed, parts}
use Rattle.model.specs.SetUpCases.{Started, started_by, starts_by, lendings, Cap, of_class, judged, caps}

-- ---- log words counted by their parts, and not one by one in every row

words : (s : ℕ) (x : State) → length (store_with s x).lent.logs ≡ 128 * s + (length x.words + (2048 - (128 * s + length x.words)))
unfolding store_with
words s x = simp (length-append, length-replicate)

-- the test of lengths, and a call's plan, with n for the number of log words
abbrev fit_by : ℕ → Buffers → Bool
fit_by n B = lengths_match (size B) (length B.classes) (length B.locks.readers) (length B.locks.claimants) (length B.locks.exclusives) n

unfoldable plan_by : ℕ → Call → Store → Plan
plan_by n k σ =
    require (table_fits k σ.limits) (Refuse 7)
    (require (fit_by n σ.lent) (Refuse 7)
    (require (ltb (session_of k) 16) (Refuse 1)
    (plan k (size σ.lent) σ.lent.classes σ.limits (log_of σ (session_of k)) (record_of σ (session_of k)) (lock_at σ.lent.locks))))

unfoldable plan_in : Call → ℕ → State → Plan
plan_in k s x = plan_by (128 * s + (length x.words + (2048 - (128 * s + length x.words)))) k (store_with s x)

planned : (k : Call) (s : ℕ) (x : State) → plan_of k (store_with s x) ≡ plan_in k s x
unfolding plan_of plan_by plan_in lengths_fit
planned k s x = λ i. plan_by (words s x i) k (store_with s x)

-- what the tables compare, by that plan
abbrev result_by : Case → Plan → Result
result_by r p = let s = session_of r.call in let σ = store_with s r.given in result (answer s p σ) (after s p σ)

abbrev numbers_by : Phased → (ℕ → Plan) → List ℕ
numbers_by r p = map (λ (i : ℕ). number (answer (session_of r.call) (p i) (store_with 1 (r.given i)))) (0 ∷ 1 ∷ 2 ∷ 3 ∷ 4 ∷ 5 ∷ [])

actual_by : (rs : List Case) → map {B = Result} actual rs ≡ map {B = Result} (λ (r : Case). result_by r (plan_in r.call (session_of r.call) r.given)) rs
unfolding actual answer_of step
actual_by rs = λ i. map (λ (r : Case). result_by r (planned r.call (session_of r.call) r.given i)) rs

answered_by : (rs : List Phased) → map {B = List ℕ} answered rs ≡ map {B = List ℕ} (λ (r : Phased). numbers_by r (λ p. plan_in r.call 1 (r.given p))) rs
unfolding answered answer_of
answered_by rs = λ i. map (λ (r : Phased). numbers_by r (λ p. planned r.call 1 (r.given p) i)) rs

-- and a cap's two numbers
abbrev judged_by : ℕ → ℕ → ℕ → List ℕ
judged_by n k v =
    let B = (of_class k v).lent in
    let r : ℕ = require (has_caps our_caps && fit_by n B) 7 (require (passes our_caps) 16 (require (all_fit our_caps B.values B.classes) 8 0)) in
    number (require (eqb r 0) (Refused r) Done)
    ∷ number (answer 0 (plan_by n (Write 0 0 v) (of_class k 0)) (of_class k 0))
    ∷ []

judged_by_lem : (f : Cap → ℕ) (rs : List Cap) → map {B = List ℕ} (λ (r : Cap). judged r.class (f r)) rs ≡ map {B = List ℕ} (λ (r : Cap). judged_by 2048 r.class (f r)) rs
unfolding judged answer_of plan_of plan_by lengths_fit set_up_answer set_up_refusal
judged_by_lem f rs = λ i. map (λ (r : Cap). judged_by (length-replicate {A = ℕ} 2048 0 i) r.class (f r)) rs

-- ---- the tables

-- the answer, in numbers, and every lent word and record
pub steps_hold : map {B = Result} actual steps ≡ map {B = Result} expected steps
unfolding steps store_with expected plan_in plan_by computing
steps_hold = actual_by steps ∙ refl

pub refusals_hold : map {B = Result} actual refusals ≡ map {B = Result} expected refusals
unfolding refusals store_with expected plan_in plan_by computing
refusals_hold = actual_by refusals ∙ refl

pub order_holds : map {B = Result} actual order ≡ map {B = Result} expected order
unfolding order store_with expected plan_in plan_by computing
order_holds = actual_by order ∙ refl

-- the number in each phase
pub phases_hold : map {B = List ℕ} answered phases ≡ map {B = List ℕ} (λ (r : Phased). r.numbers) phases
unfolding phases store_with plan_in plan_by computing
phases_hold = answered_by phases ∙ refl

pub damaged_hold : map {B = List ℕ} answered damaged ≡ map {B = List ℕ} (λ (r : Phased). r.numbers) damaged
unfolding damaged store_with plan_in plan_by computing
damaged_hold = answered_by damaged ∙ refl

-- the word that a peek shows
pub parts_hold : map {B = Part} handed parts ≡ map {B = Part} (λ (r : Peeked). r.part) parts
unfolding parts store_with handed computing
parts_hold = refl

-- set-up, and 7 before 1
pub lendings_hold : map {B = Started} started_by lendings ≡ map {B = Started} starts_by lendings
unfolding lendings started_by starts_by computing
lendings_hold = refl

-- a value that is its cap passes; one above it is 8 at set-up and 4 on a write
pub caps_hold : (map {B = List ℕ} (λ (r : Cap). judged r.class r.most) caps ≡ replicate 16 (100 ∷ 100 ∷ []))
    × (map {B = List ℕ} (λ (r : Cap). judged r.class (suc r.most)) caps ≡ replicate 16 (8 ∷ 4 ∷ []))
unfolding caps plan_by computing
caps_hold = (judged_by_lem (λ r. r.most) caps ∙ refl, judged_by_lem (λ r. suc r.most) caps ∙ refl)
