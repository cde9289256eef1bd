-- A test of every transaction of a list, by computation: one that tells anything begins in the list, so the names of its begins are all there are.
use Prim.Native.Nat.{ℕ}
use mathlib.Core.Path.{◌≡◌, refl, sym, ◌∙◌, subst}
use mathlib.Core.Logic.{◌⊎◌, inl, inr}
use mathlib.Core.Bool.{Bool, true, false, cond, not, ◌&&◌}
use mathlib.Core.List.{List, [], ◌∷◌}
use lib.Dec.{eqb}
use borrow.Author.Tests.{eqb-true, not-true}
use Rattle.model.specs.History.{Item, Name, name, transaction, is_open, committed}
use Rattle.model.specs.Serial.{NoneOpen}
use Rattle.model.specs.Told.{begins}
use Rattle.model.proofs.Matching.{name_is, cond_at, Next, stays, grows, starts_here, next}
use Rattle.model.proofs.Tools.{test, clash, both_l, both_r}
use Rattle.model.proofs.Words.{empty_committed}

-- a name by a test of its two numbers
pub name_by_test : (p s : ℕ) (x : Name) → (eqb x.place p && eqb x.session s) ≡ true → name p s ≡ x
name_by_test p s x h =
    name_is p s x (sym (eqb-true x.place p (both_l (eqb x.place p) (eqb x.session s) h))) (sym (eqb-true x.session s (both_r (eqb x.place p) (eqb x.session s) h)))

-- a test that the names of all begins of a list pass
abbrev pub each_began : (Name → Bool) → List Item → Bool
each_began f [] = true
each_began f (i ∷ h) = cond (begins i.told) (f (name i.place i.session)) true && each_began f h

-- a transaction that tells anything passes it
pub began_in : (f : Name → Bool) (x : Name) (h : List Item) → each_began f h ≡ true → (transaction x h ≡ []) ⊎ (f x ≡ true)
began_in f x [] e = inl (unfold transaction in refl)
began_in f x (i ∷ h) e = go (began_in f x h (both_r here (each_began f h) e)) (next x i h)
  where
    here : Bool
    here = cond (begins i.told) (f (name i.place i.session)) true

    go : (transaction x h ≡ []) ⊎ (f x ≡ true) → Next x i h → (transaction x (i ∷ h) ≡ []) ⊎ (f x ≡ true)
    go (inr y) s = inr y
    go (inl y) (stays d _) = inl (d ∙ y)
    go (inl y) (grows _ o _) = absurd (clash (is_open (transaction x h)) o (rw y))
    go (inl y) (starts_here b p s _ _) =
        inr (subst (λ (x : Name). f x ≡ true) (name_is i.place i.session x (sym p) (sym s))
        (sym (cond_at (begins i.told) (f (name i.place i.session)) true b) ∙ both_l here (each_began f h) e))

-- so does one that is committed
pub committed_in : (n : ℕ) (f : Name → Bool) (h : List Item) → each_began f h ≡ true → (x : Name) → committed n (transaction x h) ≡ true → f x ≡ true
committed_in n f h e x d = go (began_in f x h e)
  where
    go : (transaction x h ≡ []) ⊎ (f x ≡ true) → f x ≡ true
    go (inl y) = absurd (clash (committed n (transaction x h)) d (rw y (empty_committed n)))
    go (inr y) = y

-- no transaction is open, by those that begin in the list
unfoldable pub none_open : List Item → Bool
none_open h = each_began (λ x. not (is_open (transaction x h))) h

pub none_open_lem : (h : List Item) → none_open h ≡ true → NoneOpen h
unfolding none_open
none_open_lem h e x = go (began_in (λ x. not (is_open (transaction x h))) x h e)
  where
    go : (transaction x h ≡ []) ⊎ (not (is_open (transaction x h)) ≡ true) → is_open (transaction x h) ≡ false
    go (inl n) = rw n
    go (inr y) = not-true (is_open (transaction x h)) y

pub open_none : (h : List Item) → NoneOpen h → none_open h ≡ true
unfolding none_open
open_none h o = go h
  where
    go : (g : List Item) → each_began (λ x. not (is_open (transaction x h))) g ≡ true
    go [] = refl
    go (i ∷ g) = test (begins i.told) (λ b. rw (b, o (name i.place i.session), go g)) (λ b. rw (b, go g))
