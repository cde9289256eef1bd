-- What a peek's plan can be, and what it then hands back and answers: a word of the store, a word of the log, or a refusal and no word.
use mathlib.Core.Path.{◌≡◌, refl, sym, ap, ◌∙◌}
use mathlib.Core.Bool.{true, not}
use mathlib.Core.Option.{Option, none, some}
use mathlib.Core.List.{List, []}
use Prim.Native.Nat.{ℕ, ◌+◌, ◌*◌, ◌-◌, ◌%◌, ◌<◌, ◌≤◌}
use native.Mathlib.Omega.{arith}
use borrow.Author.Tests.{lt-ltb, ltb-true, eqb-true}
use borrow.Rule.Slice.PartAt.{sl_partˢ}
use borrow.Rule.Slice.Shared.{by_size}
use denote.Ref.{Bor}
use lib.Dec.{T, ltb, eqb}
use lib.ListN.{length, take, drop, replicate, get_or-replicate, length-replicate, length-take, length-drop}
use Rattle.model.specs.Buffers.{Buffers, Limits, ours, Store, size, idle, session_at, log_in, entry_at, slot_in, lengths_fit}
use Rattle.model.specs.Plans.{record_fits, guard, known, peek_slot, peek_plan, plan}
use Rattle.model.specs.Effects.{record_of, shown, answer, after, log_of}
use Rattle.model.specs.Slices.{PartOf, IsPart}
use Rattle.model.specs.Step.{outcome, effect, answer_of, step, plan_of, peek_shows, TakesRecord}
use Rattle.records.specs.declared.Session.{Session}
use Rattle.records.specs.declared.Sessions.{Sessions}
use Rattle.records.specs.declared.Call.TheVariants.{Peek}
use Rattle.records.specs.declared.Answer.TheVariants.{Done, Refused}
use Rattle.records.specs.declared.Plan.{Plan}
use Rattle.records.specs.declared.Plan.TheVariants.{Refuse, ShowStore, ShowLog}
use Rattle.model.proofs.Tools.{split}
use Rattle.model.proofs.Laws.{find_some}
use Rattle.model.proofs.Carried.{same_record}
use Rattle.records.proofs.Tags.{tag, clashes}
use Rattle.records.specs.declared.Refusal.{Refusal}
use Rattle.records.specs.Records.{refusal_number}
use Rattle.refusals.specs.declared.Lengths.{Lengths}
use Rattle.refusals.specs.Pieces.{lengths_in, match_of, admission}
use Rattle.refusals.proofs.Admission.{lengths_of, refuses, admits, admitted, plan_refused}
use Rattle.plans.specs.Peeks.{PlansPeek, ShowsPeek}
use Rattle.model.proofs.Passing.{record_entries}

-- ---- what a plan p of a peek can be

data Peeked (σ : Store) (s c : ℕ) (p : Plan) : Type 0 where
  turned : (r : ℕ) → p ≡ Refuse r → Peeked σ s c p
  plain : c < length σ.lent.values → p ≡ ShowStore c → Peeked σ s c p
  written : (k : ℕ) → k < 32 → c < length σ.lent.values → s < 16 → length σ.lent.logs ≡ 2048 → p ≡ ShowLog k → Peeked σ s c p

module _ (σ : Store) (s c : ℕ) where
  by_slot : lengths_fit σ.lent ≡ true → s < 16 → c < length σ.lent.values → (record_of σ s).count ≤ 32
      → (o : Option ℕ) → slot_in (log_of σ s) (record_of σ s).count c ≡ o → Peeked σ s c (peek_slot (log_of σ s) c o)
  unfolding peek_slot slot_in
  by_slot l h i few none e = turned 14 refl
  by_slot l h i few (some k) e =
      let f = (find_some _ c (record_of σ s).count e).0 in
      split (Peeked σ s c) (entry_at (log_of σ s) k).dirty (λ d. written k (omega arith) i h (lengths_of σ.lent l).logs refl) (λ d. plain i refl)

  peeked : Peeked σ s c (plan_of (Peek s c) σ)
  unfolding plan_of plan guard known size
  peeked =
      let x = record_of σ s in
      split (Peeked σ s c) (lengths_fit σ.lent)
      (λ l.
      split (Peeked σ s c) (ltb s 16)
      (λ h.
      split (Peeked σ s c) (record_fits (size σ.lent) (log_of σ s) x)
      (λ w.
      split (Peeked σ s c) (eqb x.phase 1)
      (λ f.
      let one = eqb-true x.phase 1 f in
      let few = (record_entries (size σ.lent) (log_of σ s) x w (omega arith)).count in
      split (Peeked σ s c) (ltb c (length σ.lent.values)) (λ i. by_slot l (ltb-true s 16 h) (ltb-true c _ i) few _ refl) (λ i. turned 3 refl))
      (λ f. turned 2 refl))
      (λ w. turned 9 refl))
      (λ h. turned 1 refl))
      (λ l. turned 7 refl)

module _ {σ : Store} {s c : ℕ} {p : Plan} where
  of_any : Peeked σ s c p → (q : Plan) → T (not (eqb 0 (tag q))) → p ≡ q → c < length σ.lent.values
  of_any (turned r f) q t e = absurd (clashes p (Refuse r) q t f e)
  of_any (plain i f) q t e = i
  of_any (written j l i h w f) q t e = i

  of_store : Peeked σ s c p → (k : ℕ) → p ≡ ShowStore k → p ≡ ShowStore c
  of_store (turned r f) k e = absurd (clashes p (Refuse r) (ShowStore k) tt f e)
  of_store (plain i f) k e = f
  of_store (written j l i h w f) k e = absurd (clashes p (ShowLog j) (ShowStore k) tt f e)

  of_log : Peeked σ s c p → (k : ℕ) → p ≡ ShowLog k → 128 * s + (4 * k + 2) + 1 ≤ length σ.lent.logs
  of_log (turned r f) k e = absurd (clashes p (Refuse r) (ShowLog k) tt f e)
  of_log (plain i f) k e = absurd (clashes p (ShowStore c) (ShowLog k) tt f e)
  of_log (written j l i h w f) k e = let q : j ≡ k = cc in omega arith

  of_neither : Peeked σ s c p → ((k : ℕ) → p ≡ ShowStore k → ⊥) → ((k : ℕ) → p ≡ ShowLog k → ⊥) → (r : ℕ) × (p ≡ Refuse r)
  of_neither (turned r f) a b = (r, f)
  of_neither (plain i f) a b = absurd (a c f)
  of_neither (written j l i h w f) a b = absurd (b j f)

  of_either : Peeked σ s c p → ((r : ℕ) → p ≡ Refuse r → ⊥) → outcome Done σ ≡ outcome (answer s p σ) (after s p σ)
  unfolding answer after
  of_either (turned r f) a = absurd (a r f)
  of_either (plain i f) a = rw f
  of_either (written j l i h w f) a = rw f

-- ---- what each hands back and answers

-- one word from a place i inside, as the code takes it, is the slice's own
one : (v : Bor (List ℕ)) (i : ℕ) → i + 1 ≤ length v.now → PartOf v i 1 (sl_partˢ v (by_size 4 i v.ref_ptr.1) i (i + 1))
one v i h =
    let e : i + 1 - i ≡ 1 = omega arith in
    record {
      block = refl;
      offset = omega arith;
      words = ap (λ (n : ℕ). take n (drop i v.now)) e;
      long = simp (length-take, length-drop) (omega arith);
    }

-- the code's plan p
module _ (σ : Store) (s c : ℕ) (p : Plan) (e : p ≡ plan_of (Peek s c) σ) where
  way : Peeked σ s c p
  way = rw e (peeked σ s c)

  -- the cell is inside where the plan is no refusal, which `tt` shows
  pub peek_inside : (q : Plan) → T (not (eqb 0 (tag q))) → p ≡ q → c + 1 ≤ length σ.lent.values
  peek_inside q t f = omega (arith, of_any way q t f)

  pub peek_logged : (k : ℕ) → p ≡ ShowLog k → 128 * s + (4 * k + 2) + 1 ≤ length σ.lent.logs
  peek_logged k f = of_log way k f

  pub peek_refused : (r : ℕ) → p ≡ Refuse r → outcome (Refused r) σ ≡ effect (Peek s c) σ
  peek_refused r f = refuses (Peek s c) σ r (sym f ∙ e)

  pub peek_done : ((r : ℕ) → p ≡ Refuse r → ⊥) → outcome Done σ ≡ effect (Peek s c) σ
  unfolding effect answer_of step
  peek_done a = of_either way a ∙ rw e

  -- past both words there is a refusal
  pub peek_neither : ((k : ℕ) → p ≡ ShowStore k → ⊥) → ((k : ℕ) → p ≡ ShowLog k → ⊥) → (r : ℕ) × (p ≡ Refuse r)
  peek_neither = of_neither way

  module _ (v logs : Bor (List ℕ)) where
    pub hands_store : σ.lent.values ≡ v.now → (k : ℕ) → p ≡ ShowStore k → IsPart v logs (peek_shows s c σ) (sl_partˢ v (by_size 4 c v.ref_ptr.1) c (c + 1))
    unfolding shown
    hands_store i k f = rw (← e, of_store way k f) (one v c (rw i at (peek_inside (ShowStore k) tt f)))

    pub hands_log : σ.lent.logs ≡ logs.now → (k : ℕ) → p ≡ ShowLog k
        → IsPart v logs (peek_shows s c σ) (sl_partˢ logs (by_size 4 (128 * s + (4 * k + 2)) logs.ref_ptr.1) (128 * s + (4 * k + 2)) (128 * s + (4 * k + 2) + 1))
    unfolding shown
    hands_log i k f = rw (← e, f) (one logs (128 * s + (4 * k + 2)) (rw i at (peek_logged k f)))

    pub hands_nothing : ((k : ℕ) → p ≡ ShowStore k → ⊥) → ((k : ℕ) → p ≡ ShowLog k → ⊥) → (r : Bor (List ℕ)) → r.now ≡ [] → IsPart v logs (peek_shows s c σ) r
    unfolding shown
    hands_nothing a b r n = rw (← e, (peek_neither a b).1) n

-- ---- of the lengths l, the logs W and the record x

module _ (l : Lengths) (W : List ℕ) (x : Session) (s c : ℕ) where
  pub peek_turned : (r : Refusal) → refusal_number r ≡ admission (match_of l) s → PlansPeek s c l W x (Refuse (refusal_number r))
  peek_turned r e G B ss i j o = plan_refused B s r (rw i at e) (Peek s c) refl (record { lent = B; limits = G; sessions = ss }) refl refl

  pub peek_admitted : 0 ≡ admission (match_of l) s → (log : List ℕ) → log ≡ log_in W s → (p : Plan) → p ≡ peek_plan l.values log x c → PlansPeek s c l W x p
  unfolding plan_of plan size
  peek_admitted e log w p f G B ss i j o =
      let z = admits l s e in let m : s % 16 ≡ s = let h = z.1 in omega arith in
      rw ((admitted B s (rw i at e)).fit, lt-ltb s 16 z.1, rw m at o, ← j, ← w) (f ∙ ap (λ (k : Lengths). peek_plan k.values log x c) i)

-- sixteen records of which x is the session's
each : (x : Session) (s : ℕ) → session_at (record { records = replicate 16 x }) (s % 16) ≡ x
unfolding session_at
each x s = get_or-replicate 16 (s % 16) x idle (omega arith)

-- of the values v and the logs w, p is what was decided
module _ (l : Lengths) (v w : Bor (List ℕ)) (long : (l.values ≡ length v.now) × (l.logs ≡ length w.now)) (x : Session) (s c : ℕ) (p : Plan) (e : PlansPeek s c l w.now x p) where
  -- buffers so long
  abbrev lent : Buffers
  lent =
      record {
        values = v.now;
        classes = replicate l.classes 0;
        locks = record { readers = replicate l.readers 0; claimants = replicate l.claimants 0; exclusives = replicate l.exclusives 0 };
        logs = w.now;
      }

  so_long : l ≡ lengths_in lent
  so_long = rw (length-replicate {A = ℕ} l.classes 0, length-replicate {A = ℕ} l.readers 0, length-replicate {A = ℕ} l.claimants 0, length-replicate {A = ℕ} l.exclusives 0, ← long.0, ← long.1)

  at_one : p ≡ plan_of (Peek s c) (record { lent = lent; limits = ours; sessions = record { records = replicate 16 x } })
  at_one = e ours lent (record { records = replicate 16 x }) so_long refl (each x s)

  pub store_inside : {k : ℕ} → p ≡ ShowStore k → c + 1 ≤ length v.now
  store_inside {k} f = peek_inside _ s c p at_one (ShowStore k) tt f

  pub log_inside : {k : ℕ} → p ≡ ShowLog k → 128 * s + (4 * k + 2) + 1 ≤ length w.now
  log_inside {k} f = peek_logged _ s c p at_one k f

  pub shows_store : {k : ℕ} → p ≡ ShowStore k → ShowsPeek s c l v w x (sl_partˢ v (by_size 4 c v.ref_ptr.1) c (c + 1))
  shows_store {k} f G B ss i j m o = hands_store _ s c p (e G B ss i m o) v w (sym j) k f

  pub shows_log : {k : ℕ} → p ≡ ShowLog k
      → ShowsPeek s c l v w x (sl_partˢ w (by_size 4 (128 * s + (4 * k + 2)) w.ref_ptr.1) (128 * s + (4 * k + 2)) (128 * s + (4 * k + 2) + 1))
  shows_log {k} f G B ss i j m o = hands_log _ s c p (e G B ss i m o) v w (sym m) k f

  pub shows_nothing : ((k : ℕ) → p ≡ ShowStore k → ⊥) → ((k : ℕ) → p ≡ ShowLog k → ⊥) → (r : Bor (List ℕ)) → r.now ≡ [] → ShowsPeek s c l v w x r
  shows_nothing a b r n G B ss i j m o = hands_nothing _ s c p (e G B ss i m o) v w a b r n

-- ---- of the lent buffers B and the record x

-- p is the plan, whatever the other records are
module _ (B : Buffers) (x : Session) (s c : ℕ) (p : Plan) (e : (G : Limits) (ss : Sessions) → session_at ss (s % 16) ≡ x → p ≡ plan_of (Peek s c) (record { lent = B; limits = G; sessions = ss })) where
  pub twin_refused : (r : ℕ) → p ≡ Refuse r → TakesRecord (Peek s c) B x (Refused r) B x
  twin_refused r f G _ ss o = rw (← o, same_record ss (s % 16)) (peek_refused (record { lent = B; limits = G; sessions = ss }) s c p (e G ss o) r f)

  pub twin_done : ((r : ℕ) → p ≡ Refuse r → ⊥) → TakesRecord (Peek s c) B x Done B x
  twin_done a G _ ss o = rw (← o, same_record ss (s % 16)) (peek_done (record { lent = B; limits = G; sessions = ss }) s c p (e G ss o) a)
