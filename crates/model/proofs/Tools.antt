-- Case analysis on tests, and laws of the small definitions.
use Prim.Native.Nat.{ℕ, zero, suc, ◌+◌, ◌*◌, ◌/◌, ◌%◌, ◌<◌}
use native.Mathlib.Decide.{ℕ_discrete}
use native.Mathlib.Omega.{arith}
use mathlib.Core.Path.{◌≡◌, refl, sym, ◌∙◌, ap, fun_ext}
use mathlib.Core.Logic.{by_cases}
use mathlib.Core.Bool.{Bool, true, false, cond, ◌&&◌}
use mathlib.Core.Option.{Option, none, some}
use lib.Dec.{eqb}
use lib.Count.{ones, ones_step}
use borrow.Author.Tests.{eq-eqb, ne_eqb}
use Rattle.model.specs.Readers.{odd, member, assign, other_readers}
use Rattle.model.specs.Search.{or_else}

-- a number is another or is not
pub same {ℓ} : {P : Type ℓ} (a b : ℕ) → (a ≡ b → P) → ((a ≡ b → ⊥) → P) → P
same a b f g = by_cases (ℕ_discrete a b) f g

-- a test passed or failed: P holds of what it chooses
pub split {ℓ κ} : {A : Type ℓ} (P : A → Type κ) (b : Bool) {x y : A} → (b ≡ true → P x) → (b ≡ false → P y) → P (cond b x y)
split P true f g = f refl
split P false f g = g refl

-- a test, and an option, with what it came to
pub test {ℓ} : {P : Type ℓ} (b : Bool) → (b ≡ true → P) → (b ≡ false → P) → P
test true f g = f refl
test false f g = g refl

pub which {ℓ κ} : {A : Type κ} {P : Type ℓ} (o : Option A) → (o ≡ none → P) → ((a : A) → o ≡ some a → P) → P
which none f g = f refl
which (some a) f g = g a refl

pub nothing {ℓ} : {P : Type 0} {A : Type ℓ} {a : A} → ◌≡◌ {A = Option A} none (some a) → P
nothing e = absurd (let z : ◌≡◌ {A = ℕ} 0 1 = cc in omega arith)

pub clash : (b : Bool) → b ≡ true → b ≡ false → ⊥
clash b p q = let z : ◌≡◌ {A = ℕ} 0 1 = cc in omega arith

pub both_l : (a b : Bool) → (a && b) ≡ true → a ≡ true
both_l true b h = refl
both_l false b h = h

pub both_r : (a b : Bool) → (a && b) ≡ true → b ≡ true
both_r true b h = h
both_r false b h = absurd (clash false h refl)

pub and-false : (b : Bool) → (b && false) ≡ false
and-false true = refl
and-false false = refl

pub or_else-none : (o : Option ℕ) → or_else o none ≡ o
unfolding or_else
or_else-none none = refl
or_else-none (some i) = refl

-- ---- a function changed at one place

unfoldable pub upd {ℓ} : {A : Type ℓ} → (ℕ → A) → ℕ → A → ℕ → A
upd f s a x = cond (eqb x s) a (f x)

pub upd_same {ℓ} : {A : Type ℓ} (f : ℕ → A) (s : ℕ) (a : A) → upd f s a s ≡ a
unfolding upd
upd_same f s a = rw (eq-eqb s s refl)

pub upd_other {ℓ} : {A : Type ℓ} (f : ℕ → A) (s : ℕ) (a : A) (x : ℕ) → (x ≡ s → ⊥) → upd f s a x ≡ f x
unfolding upd
upd_other f s a x h = rw (ne_eqb x s h)

pub upd_twice {ℓ} : {A : Type ℓ} (f : ℕ → A) (s : ℕ) (a b : A) → upd (upd f s a) s b ≡ upd f s b
unfolding upd
upd_twice f s a b = fun_ext (λ x. test (eqb x s) (λ y. rw y) (λ y. rw y))

-- ---- bits

pub half_assign : (y r : ℕ) → r < 2 → (y * 2 + r) / 2 ≡ y
half_assign y r h = omega arith

pub member_assign_same : (x s : ℕ) (b : Bool) → member (assign x s b) s ≡ b
unfolding member assign odd
member_assign_same x zero true = eq-eqb ((x / 2 * 2 + 1) % 2) 1 (omega arith)
member_assign_same x zero false = ne_eqb ((x / 2 * 2 + 0) % 2) 1 (omega arith)
member_assign_same x (suc s) b = rw (half_assign (assign (x / 2) s b) (x % 2) (omega arith)) (member_assign_same (x / 2) s b)

pub member_assign_other : (x s t : ℕ) (b : Bool) → (t ≡ s → ⊥) → member (assign x s b) t ≡ member x t
unfolding member assign odd
member_assign_other x zero zero b h = absurd (h refl)
member_assign_other x zero (suc t) true h = rw (half_assign (x / 2) 1 (omega arith))
member_assign_other x zero (suc t) false h = rw (half_assign (x / 2) 0 (omega arith))
member_assign_other x (suc s) zero b h =
    ap (λ (k : ℕ). eqb k 1) (let e : (assign (x / 2) s b * 2 + x % 2) % 2 ≡ x % 2 = omega arith in e)
member_assign_other x (suc s) (suc t) b h = rw (half_assign (assign (x / 2) s b) (x % 2) (omega arith)) (member_assign_other (x / 2) s t b (λ e. h (ap suc e)))

no_ones : (x t : ℕ) → ones x ≡ 0 → member x t ≡ false
unfolding member odd
no_ones x zero h = ne_eqb (x % 2) 1 (omega (arith, ones_step x))
no_ones x (suc t) h = no_ones (x / 2) t (omega (arith, ones_step x))

-- no other reader counted: no other member
pub alone_member : (x s t : ℕ) → other_readers s x ≡ 0 → (t ≡ s → ⊥) → member x t ≡ false
unfolding other_readers
alone_member x s t h n = sym (member_assign_other x s t false n) ∙ no_ones (assign x s false) t h
