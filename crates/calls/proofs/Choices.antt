-- What a read, a hold and a write decide as if nobody were claimant, and with that what they decide with the lock: the same, unless a new cell is claimed.
use mathlib.Core.Path.{◌≡◌, refl, sym, ◌∙◌}
use mathlib.Core.Bool.{cond, not}
use mathlib.Core.Option.{Option, none, some}
use mathlib.Core.List.{List}
use Prim.Native.Nat.{ℕ, ◌<◌}
use native.Mathlib.Omega.{arith}
use borrow.Author.Tests.{ltb-true, eqb-true}
use lib.ListN.{get_or}
use lib.Dec.{T, leb, ltb, eqb}
use Rattle.model.specs.Buffers.{free, entry_at, slot_in, cap}
use Rattle.model.specs.Plans
use Rattle.model.specs.Plans.{new_cell, claimed, record_fits, guard, read_slot, read_plan, hold_slot, hold_plan, write_slot, write_capped, write_plan}
use Rattle.records.specs.declared.Session.{Session}
use Rattle.records.specs.declared.Lock.{Lock}
use Rattle.records.specs.declared.Plan.{Plan}
use Rattle.records.specs.declared.Plan.TheVariants.{Refuse, Tell, Enter, Update, EnterUpdate, Mark, EnterMark, RollBack}
use Rattle.model.proofs.Tools.{test, which}
use Rattle.session_log.proofs.Targets.{slot_some}
use Rattle.records.proofs.Tags.{tag, clashes}
use Rattle.model.proofs.Passing.{Entries, record_entries}

-- p is decided as if nobody were claimant, q with the lock l: both refuse; both are that of entry k in the log; or the cell is new
pub data Choice (n : ℕ) (log : List ℕ) (x : Session) (l : Lock) (c : ℕ) (known : ℕ → Plan) (new p q : Plan) : Type 0 where
  refuses : (r : ℕ) → p ≡ Refuse r → q ≡ Refuse r → Choice n log x l c known new p q
  knows : (k : ℕ) → k < 32 → p ≡ known k → q ≡ known k → Choice n log x l c known new p q
  enters : c < n → x.count < 32 → Entries n log x → p ≡ new → q ≡ cond (claimed l) RollBack new → Choice n log x l c known new p q

module _ (n : ℕ) (log : List ℕ) (x : Session) (l : Lock) (c : ℕ) where
  -- past the tests, and with no entry of the cell
  module _ (known : ℕ → Plan) (new : Plan) where
    past : (p q : Plan) → (Entries n log x → c < n → Choice n log x l c known new p q)
        → Choice n log x l c known new (guard n log x (eqb x.phase 1) (Plans.known n c p)) (guard n log x (eqb x.phase 1) (Plans.known n c q))
    unfolding guard Plans.known
    past p q f =
        test (record_fits n log x)
        (λ w.
        test (eqb x.phase 1)
        (λ r.
        test (ltb c n)
        (λ i. let h = eqb-true x.phase 1 r in rw (w, r, i) (f (record_entries n log x w (omega arith)) (ltb-true c n i)))
        (λ i. rw (w, r, i) (refuses 3 refl refl)))
        (λ r. rw (w, r) (refuses 2 refl refl)))
        (λ w. rw w (refuses 9 refl refl))

    fresh : Entries n log x → c < n → Choice n log x l c known new (new_cell x free new) (new_cell x l new)
    unfolding new_cell claimed
    fresh e i =
        test (ltb x.count 32) (λ a. rw a (enters i (ltb-true x.count 32 a) e refl refl)) (λ a. rw a (refuses 5 refl refl))

    -- an entry found is one of at most 32
    spot : Entries n log x → (k : ℕ) → slot_in log x.count c ≡ some k → k < 32
    spot e k q = let i = (slot_some log x.count c q).0 in let f = e.count in omega arith

    -- f decides by the place of the cell's entry
    placed : (f : Lock → Option ℕ → Plan) → ((m : Lock) → f m none ≡ new_cell x m new) → ((m : Lock) (k : ℕ) → f m (some k) ≡ known k)
        → Entries n log x → c < n → Choice n log x l c known new (f free (slot_in log x.count c)) (f l (slot_in log x.count c))
    placed f g h e i =
        which (slot_in log x.count c) (λ q. rw (q, g free, g l) (fresh e i)) (λ k q. rw q (knows k (spot e k q) (h free k) (h l k)))

  pub read_choice : Choice n log x l c (λ k. Tell (entry_at log k).current) (Enter c) (read_plan n log x free c) (read_plan n log x l c)
  unfolding read_plan read_slot
  read_choice =
      let known : ℕ → Plan = λ k. Tell (entry_at log k).current in
      past known (Enter c) _ _ (placed known (Enter c) (λ m o. read_slot log x m c o) (λ m. refl) (λ m k. refl))

  pub hold_choice : Choice n log x l c (λ k. Mark k (entry_at log k).current) (EnterMark c) (hold_plan n log x free c) (hold_plan n log x l c)
  unfolding hold_plan hold_slot
  hold_choice =
      let known : ℕ → Plan = λ k. Mark k (entry_at log k).current in
      past known (EnterMark c) _ _ (placed known (EnterMark c) (λ m o. hold_slot log x m c o) (λ m. refl) (λ m k. refl))

  pub write_choice : (T ks : List ℕ) (v : ℕ) → Choice n log x l c (λ k. Update k v) (EnterUpdate c v) (write_plan T ks n log x free c v) (write_plan T ks n log x l c v)
  unfolding write_plan write_capped write_slot
  write_choice T ks v =
      let known : ℕ → Plan = λ k. Update k v in
      past known (EnterUpdate c v) _ _
      (λ e i.
      test (ltb (get_or ks c 0) 16)
      (λ a.
      test (leb v (cap T (get_or ks c 0)))
      (λ b. rw (a, b) (placed known (EnterUpdate c v) (λ m o. write_slot x m c v o) (λ m. refl) (λ m k. refl) e i))
      (λ b. rw (a, b) (refuses 4 refl refl)))
      (λ a. rw a (refuses 8 refl refl)))

-- what a match on p leaves; each `T` is met by `tt`
module _ {n : ℕ} {log : List ℕ} {x : Session} {l : Lock} {c : ℕ} {p q : Plan} {known : ℕ → Plan} {new : Plan} where
  -- a plan other than the new cell's stands
  pub when_told : Choice n log x l c known new p q → (o : Plan) → T (not (eqb (tag new) (tag o))) → p ≡ o → q ≡ o
  when_told (refuses r f g) o t e = g ∙ sym f ∙ e
  when_told (knows k i f g) o t e = g ∙ sym f ∙ e
  when_told (enters i j w f g) o t e = absurd (clashes p new o t f e)

  -- past a known cell's plans and the refusals, the cell is new
  pub when_new : Choice n log x l c known new p q → ((k : ℕ) → p ≡ known k → ⊥) → ((r : ℕ) → p ≡ Refuse r → ⊥)
      → (c < n) × (x.count < 32) × Entries n log x × (q ≡ cond (claimed l) RollBack new)
  when_new (refuses r f g) a b = absurd (b r f)
  when_new (knows k h f g) a b = absurd (a k f)
  when_new (enters h m w f g) a b = (h, m, w, g)

  -- a plan that is neither a refusal nor the new cell's is that of an entry
  when_known : Choice n log x l c known new p q → (o : Plan) (k : ℕ) → T (not (eqb 0 (tag o))) → T (not (eqb (tag new) (tag o)))
      → ((j : ℕ) → known j ≡ o → j ≡ k) → p ≡ o → k < 32
  when_known (refuses r f g) o k t u h e = absurd (clashes p (Refuse r) o t f e)
  when_known (knows j i f g) o k t u h e = let z = h j (sym f ∙ e) in omega arith
  when_known (enters i j w f g) o k t u h e = absurd (clashes p new o u f e)

pub when_updated : {n : ℕ} {log : List ℕ} {x : Session} {l : Lock} {c v : ℕ} {p q : Plan} → Choice n log x l c (λ k. Update k v) (EnterUpdate c v) p q
    → (k u : ℕ) → p ≡ Update k u → k < 32
when_updated h k u e = when_known h (Update k u) k tt tt (λ j f. cc) e

pub when_marked : {n : ℕ} {log : List ℕ} {x : Session} {l : Lock} {c : ℕ} {p q : Plan} → Choice n log x l c (λ k. Mark k (entry_at log k).current) (EnterMark c) p q
    → (k u : ℕ) → p ≡ Mark k u → k < 32
when_marked h k u e = when_known h (Mark k u) k tt tt (λ j f. cc) e
