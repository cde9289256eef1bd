-- One cell and all sessions: what each session is to the cell, the lock, the value in the store and the last committed value.
use Prim.Native.Nat.{ℕ, ◌<◌}
use native.Mathlib.Omega.{arith}
use mathlib.Core.Path.{◌≡◌, refl, sym, ◌∙◌, ap, subst}
use mathlib.Core.Logic.{◌⊎◌, inl, inr}
use mathlib.Core.Bool.{Bool, true, false, ◌||◌}
use lib.Dec.{eqb}
use borrow.Author.Tests.{eqb-true, eqb-false}
use Rattle.records.specs.declared.Lock.{Lock}
use Rattle.model.specs.Buffers.{join, leave, vacate, withdraw, claim, acquire}
use Rattle.model.specs.Readers.{member, assign}
use Rattle.model.proofs.Tools.{same, split, clash, member_assign_same, member_assign_other}

-- nothing; entered while running, with the value found; to be published and not yet promoted; promoted, with the present value; committed
-- and not yet published; published and not yet released
pub data Role : Type 0 where
  out : Role
  reading : ℕ → Role
  wanting : Role
  owning : ℕ → Role
  pending : ℕ → Role
  published : Role

abbrev pub holds : Role → Bool
holds out = false
holds (reading f) = true
holds wanting = true
holds (owning v) = true
holds (pending v) = true
holds published = true

abbrev pub owns : Role → Bool
owns out = false
owns (reading f) = false
owns wanting = false
owns (owning v) = true
owns (pending v) = true
owns published = true

abbrev pub pends : Role → Bool
pends out = false
pends (reading f) = false
pends wanting = false
pends (owning v) = false
pends (pending v) = true
pends published = false

-- it has a claim or may make one: its cell is to be promoted, or has been
abbrev pub claims? : Role → Bool
claims? out = false
claims? (reading f) = false
claims? wanting = true
claims? (owning v) = true
claims? (pending v) = true
claims? published = true

-- the lock goes with the roles
pub record Locked (p : ℕ → Role) (l : Lock) : Type 0 where
  pub readers : (s : ℕ) → member l.readers s ≡ holds (p s)
  pub owner : (s : ℕ) → owns (p s) ≡ true → (l.claimant ≡ s) × (l.exclusive ≡ 1) × (s < 16)
  pub alone : (s t : ℕ) → owns (p s) ≡ true → holds (p t) ≡ true → t ≡ s
  pub early : (s : ℕ) → l.claimant ≡ s → l.exclusive ≡ 1 → owns (p s) ≡ true
  pub claimer : (l.claimant ≡ 16) ⊎ (claims? (p l.claimant) ≡ true)

-- the values go with the parts
pub record Valued (p : ℕ → Role) (fig lat : ℕ) : Type 0 where
  pub fresh : (s f : ℕ) → p s ≡ reading f → f ≡ lat
  pub due : (s v : ℕ) → p s ≡ pending v → v ≡ lat
  pub settled : ((s : ℕ) → pends (p s) ≡ false) → fig ≡ lat

pub owns_holds : (x : Role) → owns x ≡ true → holds x ≡ true
owns_holds out h = absurd (clash false h refl)
owns_holds (reading f) h = refl
owns_holds wanting h = refl
owns_holds (owning v) h = refl
owns_holds (pending v) h = refl
owns_holds published h = refl

owns_claims : (x : Role) → owns x ≡ true → claims? x ≡ true
owns_claims out h = h
owns_claims (reading f) h = h
owns_claims wanting h = refl
owns_claims (owning v) h = refl
owns_claims (pending v) h = refl
owns_claims published h = refl

pends_owns : (x : Role) → owns x ≡ false → pends x ≡ false
pends_owns out h = refl
pends_owns (reading f) h = refl
pends_owns wanting h = refl
pends_owns (owning v) h = refl
pends_owns (pending v) h = h
pends_owns published h = refl

pub flip : (b : Bool) → (b ≡ true → ⊥) → b ≡ false
flip true h = absurd (h refl)
flip false h = refl

-- nobody claims: nobody owns
pub unowned : {p : ℕ → Role} {l : Lock} → Locked p l → l.claimant ≡ 16 → (t : ℕ) → owns (p t) ≡ false
unowned {p} g c t = flip (owns (p t)) (λ h. let w = g.owner t h in omega arith)

-- session s becomes X, the other sessions stay what they are
module _ {p q : ℕ → Role} (s : ℕ) (o : (t : ℕ) → (t ≡ s → ⊥) → q t ≡ p t) {X : Role} (b : q s ≡ X) where
  every : (P : ℕ → Role → Type 0) → P s X → ((t : ℕ) → (t ≡ s → ⊥) → P t (p t)) → (t : ℕ) → P t (q t)
  every P a f t = same t s (λ e. rw (e, b) a) (λ n. rw (o t n) (f t n))

  module _ {l : Lock} (g : Locked p l) where
    -- the claim of another stays good, and its own where it goes on to claim
    claimer_on : (claims? (p s) ≡ true → claims? X ≡ true) → (l.claimant ≡ 16) ⊎ (claims? (q l.claimant) ≡ true)
    claimer_on k = go g.claimer
      where
        go : (l.claimant ≡ 16) ⊎ (claims? (p l.claimant) ≡ true) → (l.claimant ≡ 16) ⊎ (claims? (q l.claimant) ≡ true)
        go (inl e) = inl e
        go (inr h) =
            inr (same l.claimant s (λ e. ap claims? (ap q e ∙ b) ∙ k (ap (λ (t : ℕ). claims? (p t)) (sym e) ∙ h)) (λ n. ap claims? (o l.claimant n) ∙ h))

    -- nothing that the lock shows
    pub kept : holds X ≡ holds (p s) → owns X ≡ owns (p s) → (claims? (p s) ≡ true → claims? X ≡ true) → Locked q l
    kept h w k =
        record {
          readers = every (λ t x. member l.readers t ≡ holds x) (g.readers s ∙ sym h) (λ t n. g.readers t);
          owner = every (λ t x. owns x ≡ true → (l.claimant ≡ t) × (l.exclusive ≡ 1) × (t < 16)) (λ e. g.owner s (sym w ∙ e)) (λ t n. g.owner t);
          alone = λ t u. every (λ t x. owns x ≡ true → holds (q u) ≡ true → u ≡ t) (λ e. rest s u (sym w ∙ e)) (λ t n. rest t u) t;
          early = every (λ t x. l.claimant ≡ t → l.exclusive ≡ 1 → owns x ≡ true) (λ c m. w ∙ g.early s c m) (λ t n. g.early t);
          claimer = claimer_on k;
        }
      where
        rest : (t u : ℕ) → owns (p t) ≡ true → holds (q u) ≡ true → u ≡ t
        rest t u a = every (λ u x. holds x ≡ true → u ≡ t) (λ e. g.alone t s a (sym h ∙ e)) (λ u n. g.alone t u a) u

    -- a new reader where nobody claims
    pub joins : holds X ≡ true → owns X ≡ false → l.claimant ≡ 16 → Locked q (join s l)
    unfolding join
    joins h w c =
        record {
          readers = every (λ t x. member (assign l.readers s true) t ≡ holds x) (member_assign_same l.readers s true ∙ sym h)
              (λ t n. member_assign_other l.readers s t true n ∙ g.readers t);
          owner = λ t e. absurd (clash (owns (q t)) e (idle t));
          alone = λ t u e. absurd (clash (owns (q t)) e (idle t));
          early = λ t e m. absurd (clash (owns (p 16)) (g.early 16 c m) (unowned g c 16));
          claimer = inl c;
        }
      where
        idle : (t : ℕ) → owns (q t) ≡ false
        idle = every (λ t x. owns x ≡ false) w (λ t n. unowned g c t)

    -- a reader less; the claim is not its own
    pub leaves : X ≡ out → (l.claimant ≡ s → ⊥) → Locked q (leave s l)
    unfolding leave
    leaves h w =
        record {
          readers = every (λ t x. member (assign l.readers s false) t ≡ holds x) (member_assign_same l.readers s false ∙ sym (ap holds h))
              (λ t n. member_assign_other l.readers s t false n ∙ g.readers t);
          owner = every (λ t x. owns x ≡ true → (l.claimant ≡ t) × (l.exclusive ≡ 1) × (t < 16)) (λ e. absurd (clash (owns X) e (ap owns h))) (λ t n. g.owner t);
          alone = λ t u. every (λ t x. owns x ≡ true → holds (q u) ≡ true → u ≡ t) (λ e. absurd (clash (owns X) e (ap owns h))) (λ t n. rest t u) t;
          early = every (λ t x. l.claimant ≡ t → l.exclusive ≡ 1 → owns x ≡ true) (λ c m. absurd (w c)) (λ t n. g.early t);
          claimer = stays_claimed g.claimer;
        }
      where
        rest : (t u : ℕ) → owns (p t) ≡ true → holds (q u) ≡ true → u ≡ t
        rest t u a = every (λ u x. holds x ≡ true → u ≡ t) (λ e. absurd (clash (holds X) e (ap holds h))) (λ u n. g.alone t u a) u

        stays_claimed : (l.claimant ≡ 16) ⊎ (claims? (p l.claimant) ≡ true) → (l.claimant ≡ 16) ⊎ (claims? (q l.claimant) ≡ true)
        stays_claimed (inl e) = inl e
        stays_claimed (inr k) = inr (ap claims? (o l.claimant w) ∙ k)

    -- the claimant leaves
    pub vacates : X ≡ out → l.claimant ≡ s → Locked q (vacate s l)
    unfolding vacate
    vacates h c =
        record {
          readers = every (λ t x. member (assign l.readers s false) t ≡ holds x) (member_assign_same l.readers s false ∙ sym (ap holds h))
              (λ t n. member_assign_other l.readers s t false n ∙ g.readers t);
          owner = λ t e. absurd (clash (owns (q t)) e (idle t));
          alone = λ t u e. absurd (clash (owns (q t)) e (idle t));
          early = λ t e m. absurd (let z : ◌≡◌ {A = ℕ} 0 1 = m in omega arith);
          claimer = inl refl;
        }
      where
        idle : (t : ℕ) → owns (q t) ≡ false
        idle = every (λ t x. owns x ≡ false) (ap owns h) (λ t n. flip (owns (p t)) (λ e. n (sym (g.owner t e).0 ∙ c)))

    pub withdraws : X ≡ out → Locked q (withdraw s l)
    unfolding withdraw
    withdraws h =
        split (λ (x : Lock). Locked q x) (eqb l.claimant s) (λ e. vacates h (eqb-true l.claimant s e))
        (λ e. leaves h (λ c. eqb-false l.claimant s e c))

    -- it is promoted: no other reads, and nobody else claims
    pub takes : holds (p s) ≡ true → holds X ≡ true → owns X ≡ true → s < 16 → ((t : ℕ) → (t ≡ s → ⊥) → member l.readers t ≡ false) → Locked q (acquire s l)
    unfolding acquire
    takes hp h w lt f =
        record {
          readers = every (λ t x. member l.readers t ≡ holds x) (g.readers s ∙ hp ∙ sym h) (λ t n. g.readers t);
          owner = every (λ t x. owns x ≡ true → (s ≡ t) × (◌≡◌ {A = ℕ} 1 1) × (t < 16)) (λ e. (refl, refl, lt)) (λ t n e. absurd (none t n (owns_holds (p t) e)));
          alone = λ t u. every (λ t x. owns x ≡ true → holds (q u) ≡ true → u ≡ t) (λ e. rest u) (λ t n e. absurd (none t n (owns_holds (p t) e))) t;
          early = every (λ t x. s ≡ t → ◌≡◌ {A = ℕ} 1 1 → owns x ≡ true) (λ e m. w) (λ t n e m. absurd (n (sym e)));
          claimer = inr (ap claims? b ∙ owns_claims X w);
        }
      where
        none : (t : ℕ) → (t ≡ s → ⊥) → holds (p t) ≡ true → ⊥
        none t n e = clash (member l.readers t) (g.readers t ∙ e) (f t n)

        rest : (u : ℕ) → holds (q u) ≡ true → u ≡ s
        rest = every (λ u x. holds x ≡ true → u ≡ s) (λ e. refl) (λ u n e. absurd (none u n e))

  module _ {fig lat : ℕ} (v : Valued p fig lat) where
    -- nothing that the values show
    pub stays : ((f : ℕ) → X ≡ reading f → p s ≡ reading f) → ((f : ℕ) → X ≡ pending f → p s ≡ pending f) → pends X ≡ pends (p s) → Valued q fig lat
    stays a c d =
        record {
          fresh = every (λ t x. (f : ℕ) → x ≡ reading f → f ≡ lat) (λ f e. v.fresh s f (a f e)) (λ t n. v.fresh t);
          due = every (λ t x. (f : ℕ) → x ≡ pending f → f ≡ lat) (λ f e. v.due s f (c f e)) (λ t n. v.due t);
          settled = λ h. v.settled (λ t. same t s (λ e. rw e (sym d ∙ ap pends (sym b) ∙ h s)) (λ n. ap pends (sym (o t n)) ∙ h t));
        }

    pub sees : X ≡ reading fig → ((t : ℕ) → owns (p t) ≡ false) → Valued q fig lat
    sees h w =
        let e = v.settled (λ t. pends_owns (p t) (w t)) in
        record {
          fresh = every (λ t x. (f : ℕ) → x ≡ reading f → f ≡ lat) (λ f k. cc) (λ t n. v.fresh t);
          due = every (λ t x. (f : ℕ) → x ≡ pending f → f ≡ lat) (λ f k. cc) (λ t n. v.due t);
          settled = λ h. e;
        }

    -- a new last committed value, by the one session that holds the cell
    pub commits : ((t : ℕ) → (t ≡ s → ⊥) → holds (p t) ≡ true → ⊥) → {f : ℕ} → X ≡ pending f → Valued q fig f
    commits w {f} h =
        record {
          fresh = every (λ t x. (k : ℕ) → x ≡ reading k → k ≡ f) (λ k e. cc) (λ t n k e. absurd (w t n (ap holds e)));
          due = every (λ t x. (k : ℕ) → x ≡ pending k → k ≡ f) (λ k e. cc) (λ t n k e. absurd (w t n (ap holds e)));
          settled = λ k. absurd (clash (pends (q s)) (ap pends (b ∙ h)) (k s));
        }

    pub settles : {f : ℕ} → p s ≡ pending f → X ≡ published → Valued q f lat
    settles {f} h k =
        let e = v.due s f h in
        record {
          fresh = every (λ t x. (f : ℕ) → x ≡ reading f → f ≡ lat) (λ f i. cc) (λ t n. v.fresh t);
          due = every (λ t x. (f : ℕ) → x ≡ pending f → f ≡ lat) (λ f i. cc) (λ t n. v.due t);
          settled = λ _. e;
        }

-- ---- claiming

module _ {p : ℕ → Role} {l : Lock} (g : Locked p l) (s : ℕ) (c : (eqb l.claimant 16 || eqb l.claimant s) ≡ true) (w : owns (p s) ≡ false) where
  pub nobody : (t : ℕ) → owns (p t) ≡ false
  nobody t = flip (owns (p t)) (λ h. go h (eqb l.claimant 16) refl)
    where
      go : owns (p t) ≡ true → (k : Bool) → eqb l.claimant 16 ≡ k → ⊥
      go h true e = clash (owns (p t)) h (unowned g (eqb-true l.claimant 16 e) t)
      go h false e =
          let d : eqb l.claimant s ≡ true = rw e at c in
          clash (owns (p s)) (subst (λ (x : ℕ). owns (p x) ≡ true) (sym (g.owner t h).0 ∙ eqb-true l.claimant s d) h) w

  pub claims : claims? (p s) ≡ true → Locked p (claim s l)
  unfolding claim
  claims k =
      record {
        readers = g.readers;
        owner = λ t h. absurd (clash (owns (p t)) h (nobody t));
        alone = λ t u h. absurd (clash (owns (p t)) h (nobody t));
        early = λ t e m. absurd (clash (owns (p l.claimant)) (g.early l.claimant refl m) (nobody l.claimant));
        claimer = inr k;
      }
