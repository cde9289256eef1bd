-- What the store's answers spare: a session that begins has no open transaction, and values are got and put and a seal is told before the seal.
-- So the ledger goes on to match with every action.
use Prim.Native.Nat.{ℕ, suc, ◌≤◌, ◌<◌}
use native.Mathlib.Omega.{arith}
use mathlib.Core.Path.{◌≡◌, refl, sym, ◌∙◌, ap, subst}
use mathlib.Core.Bool.{true, false, ◌||◌}
use mathlib.Core.List.{List, [], ◌∷◌, ◌++◌}
use lib.Dec.{ltb, eqb}
use lib.ListN.{length}
use borrow.Author.Tests.{eqb-true, ltb-true, ltb-false}
use Rattle.records.specs.declared.Call.{Call}
use Rattle.records.specs.declared.Call.TheVariants.{Begin, Read, Write, Seal, Advance, Abandon, Peek, Hold}
use Rattle.records.specs.declared.Answer.{Answer}
use Rattle.records.specs.declared.Plan.{Plan}
use Rattle.records.specs.declared.Plan.TheVariants.{Refuse, Start}
use Rattle.model.specs.Buffers.{Store, size, has_caps}
use Rattle.model.specs.History.{Action, one_call, many_reads, load_caps, actor, Event, tells_of, event_of, Item, add, Name, name, transaction, is_open}
use Rattle.model.specs.Isolation.{All}
use Rattle.model.specs.Plans.{guard, plan, admit}
use Rattle.model.specs.Effects.{number, value_of, record_of, answer, after, log_of}
use Rattle.model.specs.Step.{session_of, plan_of, step, answer_of}
use Rattle.model.specs.Told.{Told, began, got, put, held, sealed, moved, ended, ending, found_by, tells, begins}
use Rattle.model.proofs.Invariant.{Inv}
use Rattle.model.proofs.Ledger.{Ledger, calm, amend, starts, hear, hears, observe}
use Rattle.model.proofs.ManyReads.{ByRead, value, end}
use Rattle.model.proofs.Matching.{Next, stays, grows, starts_here, next, Matches, unchanged, one_told}
use Rattle.model.proofs.Passing.{guarded}
use Rattle.model.proofs.Preservation.{runs, kept_with_inv}
use Rattle.model.proofs.Tools.{split, test, clash}
use Rattle.model.proofs.Words.{Unsealed, Fits}

-- ---- before a place

-- no transaction of a list begins past its places
pub unborn : (q : ℕ) (h : List Item) → All (λ (i : Item). i.place < q) h → (x : Name) → q ≤ x.place → transaction x h ≡ []
unborn q [] a x l = unfold transaction in refl
unborn q (i ∷ h) a x l = go (unborn q h a.1 x l) (next x i h)
  where
    go : transaction x h ≡ [] → Next x i h → transaction x (i ∷ h) ≡ []
    go n (stays e _) = e ∙ n
    go n (grows _ o _) = absurd (clash (is_open (transaction x h)) o (rw n))
    go n (starts_here _ e _ _ _) = absurd (omega (arith, a.0))

-- those that are open began before
pub Before : ℕ → List Item → Type 0
Before q h = (x : Name) → is_open (transaction x h) ≡ true → x.place < q

pub before_place : (q : ℕ) (h : List Item) → All (λ (i : Item). i.place < q) h → Before q h
unfolding Before
before_place q h a x o =
    test (ltb x.place q) (λ y. ltb-true x.place q y)
    (λ y. absurd (clash (is_open (transaction x h)) o (rw (unborn q h a x (ltb-false x.place q y)))))

-- and so it stays, unless something begins
pub before_more : (q : ℕ) (i : Item) (h : List Item) → begins i.told ≡ false → Before q h → Before q (i ∷ h)
unfolding Before
before_more q i h b f x o = go (next x i h)
  where
    go : Next x i h → x.place < q
    go (stays e _) = f x (rw e at o)
    go (grows _ p _) = f x p
    go (starts_here y _ _ _ _) = absurd (clash (begins i.told) y b)

before_reads : (q s : ℕ) (ws : List Told) (h : List Item) → All ByRead ws → Before q h → Before q (add q s ws h)
before_reads q s [] h a b = b
before_reads q s (w ∷ ws) h a b = before_more q (record { place = q; session = s; told = w }) (add q s ws h) (no_begin w a.0) (before_reads q s ws h a.1 b)
  where
    no_begin : (w : Told) → ByRead w → begins w ≡ false
    no_begin w (value c v) = refl
    no_begin w end = refl

add_append : (q s : ℕ) (us ws : List Told) (h : List Item) → add q s (us ++ ws) h ≡ add q s us (add q s ws h)
add_append q s [] ws h = refl
add_append q s (u ∷ us) ws h = ap (λ (g : List Item). record { place = q; session = s; told = u } ∷ g) (add_append q s us ws h)

-- ---- a ledger's place

hear_place : (n s : ℕ) (w : Told) (T : Ledger) → (hear n s w T).place ≡ T.place
unfolding amend
hear_place n s w T =
    split (λ (U : Ledger). U.place ≡ T.place) (begins w) (λ _. unfold starts in refl)
    (λ _. split (λ (U : Ledger). U.place ≡ T.place) (T.mine s).live (λ _. refl) (λ _. refl))

pub hears_place : (n s : ℕ) (ws : List Told) (T : Ledger) → (hears n s ws T).place ≡ T.place
hears_place n s [] T = refl
hears_place n s (w ∷ ws) T = hear_place n s w (hears n s ws T) ∙ hears_place n s ws T

-- ---- a call

module _ {first : List ℕ} {σ : Store} {T : Ledger} (I : Inv first σ T) {n : ℕ} {h : List Item} (M : Matches n h T) (before : Before T.place h) where
  abbrev Goes : ℕ → List Told → Type 0
  Goes s ws = Matches n (add T.place s ws h) (hears n s ws (calm T))

  nothing_told : (s : ℕ) → Goes s []
  nothing_told s = unchanged (λ x. refl) refl refl M

  told_one : (s : ℕ) (w : Told) → begins w ≡ false → Fits (T.mine s) w → Goes s (w ∷ [])
  told_one s w b f = one_told (nothing_told s) s I.begun (unfold Before in before) w f (λ e. absurd (clash (begins w) e b))

  told_ending : (s : ℕ) (a : Answer) → Goes s (ending a)
  unfolding ending
  told_ending s a = split (Goes s) (eqb (number a) 6 || eqb (number a) 105) (λ _. told_one s ended refl tt) (λ _. nothing_told s)

  -- a seal and the end
  told_both : (s : ℕ) → Unsealed (T.mine s) → Goes s (ended ∷ sealed ∷ [])
  told_both s u =
      let e = hears_place n s (sealed ∷ []) (calm T) in
      subst (λ (q : ℕ). Matches n (record { place = q; session = s; told = ended } ∷ add T.place s (sealed ∷ []) h) (hears n s (ended ∷ sealed ∷ []) (calm T))) e
      (one_told (told_one s sealed refl u) s (rw e I.begun)
      (rw e (unfold Before in before_more T.place (record { place = T.place; session = s; told = sealed }) h refl before)) ended tt (λ z. absurd (clash false z refl)))

  -- what a call may tell, whatever it is answered
  says_read : (s c : ℕ) (a : Answer) → Unsealed (T.mine s) → Goes s (tells (Read s c) a 0)
  unfolding tells
  says_read s c a u = split (Goes s) (eqb (number a) 101) (λ _. told_one s (got c (value_of a)) refl u) (λ _. told_ending s a)

  says_write : (s c v : ℕ) (a : Answer) (f : ℕ) → Unsealed (T.mine s) → Goes s (tells (Write s c v) a f)
  unfolding tells
  says_write s c v a f u = split (Goes s) (eqb (number a) 100) (λ _. told_one s (put c v f) refl u) (λ _. told_ending s a)

  says_hold : (s c : ℕ) (a : Answer) (f : ℕ) → Unsealed (T.mine s) → Goes s (tells (Hold s c) a f)
  unfolding tells
  says_hold s c a f u = split (Goes s) (eqb (number a) 101) (λ _. told_one s (held c (value_of a) f) refl u) (λ _. told_ending s a)

  says_seal : (s : ℕ) (a : Answer) → Unsealed (T.mine s) → Goes s (tells (Seal s) a 0)
  unfolding tells
  says_seal s a u =
      split (Goes s) (eqb (number a) 102) (λ _. told_one s sealed refl u) (λ _. split (Goes s) (eqb (number a) 105) (λ _. told_both s u) (λ _. told_ending s a))

  says_advance : (s : ℕ) (a : Answer) → Goes s (tells (Advance s) a 0)
  unfolding tells
  says_advance s a = split (Goes s) (eqb (number a) 103) (λ _. told_one s moved refl tt) (λ _. told_ending s a)

  says_abandon : (s : ℕ) (a : Answer) → Goes s (tells (Abandon s) a 0)
  unfolding tells
  says_abandon s a = split (Goes s) (eqb (number a) 100) (λ _. told_one s ended refl tt) (λ _. told_ending s a)

  abbrev Fine : Call → Plan → Type 0
  Fine k p = Goes (session_of k) (tells k (answer (session_of k) p σ) (found_by k (after (session_of k) p σ)))

  early : (s : ℕ) → eqb (record_of σ s).phase 1 ≡ true → Unsealed (T.mine s)
  early s y = let r = runs I s (eqb-true (record_of σ s).phase 1 y) in record { open' = r.open'; moved = r.moved; unsealed = r.unsealed }

  -- a call of a running session: refused for its length, session, record or phase it tells nothing
  running : (k : Call) (p : Plan) → let s = session_of k in
      Fine k (Refuse 7) → Fine k (Refuse 1) → Fine k (Refuse 9) → Fine k (Refuse 2) → (Unsealed (T.mine s) → Fine k p)
      → Fine k (admit σ.lent s (guard (size σ.lent) (log_of σ s) (record_of σ s) (eqb (record_of σ s).phase 1) p))
  running k p a b c d f = let s = session_of k in guarded (Fine k) σ.lent s (record_of σ s) (eqb (record_of σ s).phase 1) p a b c d (λ _ _ y. f (early s y))

  module _ (s : ℕ) where
    abbrev z : Goes s []
    z = nothing_told s

    heard_read : (c : ℕ) → Fine (Read s c) (plan_of (Read s c) σ)
    unfolding plan_of plan
    heard_read c = running (Read s c) _ (unfold tells ending answer in z) (unfold tells ending answer in z) (unfold tells ending answer in z) (unfold tells ending answer in z) (says_read s c _)

    heard_write : (c v : ℕ) → Fine (Write s c v) (plan_of (Write s c v) σ)
    unfolding plan_of plan
    heard_write c v =
        split (Fine (Write s c v)) (has_caps σ.limits.caps)
        (λ _. running (Write s c v) _ (unfold tells ending answer in z) (unfold tells ending answer in z) (unfold tells ending answer in z) (unfold tells ending answer in z) (says_write s c v _ _))
        (λ _. unfold tells ending answer in z)

    heard_hold : (c : ℕ) → Fine (Hold s c) (plan_of (Hold s c) σ)
    unfolding plan_of plan
    heard_hold c = running (Hold s c) _ (unfold tells ending answer in z) (unfold tells ending answer in z) (unfold tells ending answer in z) (unfold tells ending answer in z) (says_hold s c _ _)

    heard_seal : Fine (Seal s) (plan_of (Seal s) σ)
    unfolding plan_of plan
    heard_seal = running (Seal s) _ (unfold tells ending answer in z) (unfold tells ending answer in z) (unfold tells ending answer in z) (unfold tells ending answer in z) (says_seal s _)

    heard_begin : transaction (name T.place s) h ≡ [] → Fine (Begin s) (plan_of (Begin s) σ)
    unfolding plan_of plan tells ending answer
    heard_begin none =
        guarded (Fine (Begin s)) σ.lent s (record_of σ s) (eqb (record_of σ s).phase 0) Start z z z z
        (λ _ _ y. one_told z s I.begun (unfold Before in before) began (rw (eqb-true (record_of σ s).phase 0 y) at (I.link s)) (λ _. none))

  pub heard : (k : Call) → ((s : ℕ) → transaction (name T.place s) h ≡ []) → Matches n (add T.place (session_of k) (tells k (answer_of k σ) (found_by k (step k σ))) h) (hears n (session_of k) (tells k (answer_of k σ) (found_by k (step k σ))) (calm T))
  unfolding answer_of step
  heard (Begin s) none = heard_begin s (none s)
  heard (Read s c) none = heard_read s c
  heard (Write s c v) none = heard_write s c v
  heard (Seal s) none = heard_seal s
  heard (Advance s) none = says_advance s _
  heard (Abandon s) none = says_abandon s _
  heard (Peek s c) none = unfold tells in told_ending s _
  heard (Hold s c) none = heard_hold s c

-- ---- an action

module _ {first : List ℕ} {σ : Store} {T : Ledger} (I : Inv first σ T) {h : List Item} (M : Matches (length first) h T) (before : Before T.place h) where
  heard_action : (k : Action) → ((s : ℕ) → transaction (name T.place s) h ≡ []) → let e = event_of k σ in
      Matches (length first) (add T.place (actor e.action) (tells_of e) h) (hears (length first) (actor e.action) (tells_of e) (calm T))
  unfolding answer_of
  heard_action (one_call k) none = heard I M before k none
  heard_action (many_reads s cs words) none =
      let n = length first in
      let still = nothing_told I M before s in
      (kept_with_inv I s (λ ws _ U. Matches n (add T.place s ws h) U)
      (λ ws _ τ a J N c.
      let us = tells (Read s c) (answer_of (Read s c) τ) 0 in
      let g = add T.place s ws h in
      let e = hears_place n s ws (calm T) in
      rw (add_append T.place s us ws h)
      (subst (λ (q : ℕ). Matches n (add q s us g) (hears n s us (calm (hears n s ws (calm T))))) e
      (heard_read J N (subst (λ (q : ℕ). Before q g) (sym e) (before_reads T.place s ws h a before)) s c)))
      cs words still still still).1
  heard_action (load_caps caps) none = nothing_told I M before 16

-- the ledger goes on to match
pub heeds : {first : List ℕ} {σ : Store} {T : Ledger} → Inv first σ T → {h : List Item} → Matches (length first) h T → (q : ℕ) → T.place ≡ q
    → All (λ (i : Item). i.place < q) h → (k : Action) → let e = event_of k σ in
    Matches (length first) (add q (actor e.action) (tells_of e) h) (observe (length first) e T)
unfolding observe
heeds {first} {σ} {T} I {h} M q p old k =
    let n = length first in
    let e = event_of k σ in
    let U = hears n (actor e.action) (tells_of e) (calm T) in
    let N = heard_action I M (subst (λ (q : ℕ). Before q h) (sym p) (before_place q h old)) k (λ s. rw p (unborn q h old (name q s) (omega arith))) in
    unchanged {T = U} (λ x. refl) refl refl (subst (λ (q : ℕ). Matches n (add q (actor e.action) (tells_of e) h) U) p N)

pub observe_place : (n : ℕ) (e : Event) (T : Ledger) → (observe n e T).place ≡ suc T.place
unfolding observe
observe_place n e T = ap suc (hears_place n (actor e.action) (tells_of e) (calm T))
