-- What a call that is not turned down has passed: a claim of a plan by cases on the tests, for any claim.
use Prim.Native.Nat.{ℕ, ◌<◌, ◌≤◌}
use mathlib.Core.Path.{◌≡◌, refl}
use mathlib.Core.Bool.{Bool, true, not, ◌&&◌}
use mathlib.Core.Option.{Option, none, some}
use mathlib.Core.List.{List}
use lib.Dec.{leb, ltb, eqb}
use borrow.Author.Tests.{ne_eqb, eqb-true, eqb-false, ltb-true, leb-true, not-true, not-false}
use Rattle.records.specs.declared.Session.{Session}
use Rattle.records.specs.declared.Lock.{Lock}
use Rattle.records.specs.declared.Plan.{Plan}
use Rattle.records.specs.declared.Plan.TheVariants.{Refuse, RollBack}
use Rattle.model.specs.Buffers.{Buffers, size, lengths_fit, log_in, cell_at}
use Rattle.model.specs.Plans.{entries_fit, record_fits, guard, known, claimed, new_cell, admit}
use Rattle.model.specs.Search.{below}
use Rattle.model.proofs.Tools.{split, both_l, both_r}

-- an option, with what it came to, under a function that matches on it
pub choose {ℓ κ μ} : {A : Type ℓ} {B : Type κ} (P : B → Type μ) (F : Option A → B) (o : Option A) → (o ≡ none → P (F none)) → ((a : A) → o ≡ some a → P (F (some a))) → P (F o)
choose P F none f g = f refl
choose P F (some a) f g = g a refl

-- ---- what a call that is not turned down has passed

pub guarded {ℓ} : (P : Plan → Type ℓ) (B : Buffers) (s : ℕ) (x : Session) (fits : Bool) (p : Plan) → P (Refuse 7) → P (Refuse 1) → P (Refuse 9) → P (Refuse 2)
    → (s < 16 → record_fits (size B) (log_in B.logs s) x ≡ true → fits ≡ true → P p) → P (admit B s (guard (size B) (log_in B.logs s) x fits p))
unfolding guard
guarded P B s x fits p a b c d f =
    split P (lengths_fit B)
    (λ _. split P (ltb s 16) (λ l. split P (record_fits (size B) (log_in B.logs s) x) (λ k. split P fits (λ h. f (ltb-true s 16 l) k h) (λ _. d)) (λ _. c)) (λ _. b))
    (λ _. a)

-- a cell below n
pub cell_known {ℓ} : (P : Plan → Type ℓ) (n c : ℕ) (p : Plan) → P (Refuse 3) → (c < n → P p) → P (known n c p)
unfolding known
cell_known P n c p r3 f = split P (ltb c n) (λ l. f (ltb-true c n l)) (λ _. r3)

-- a call of a running session on a cell
pub running_cell {ℓ} : (P : Plan → Type ℓ) (B : Buffers) (s : ℕ) (x : Session) (c : ℕ) (p : Plan) → P (Refuse 7) → P (Refuse 1) → P (Refuse 9) → P (Refuse 2) → P (Refuse 3)
    → (s < 16 → x.phase ≡ 1 → c < size B → P p) → P (admit B s (guard (size B) (log_in B.logs s) x (eqb x.phase 1) (known (size B) c p)))
running_cell P B s x c p r7 r1 r9 r2 r3 f =
    guarded P B s x (eqb x.phase 1) (known (size B) c p) r7 r1 r9 r2 (λ lt _ h. cell_known P (size B) c p r3 (f lt (eqb-true x.phase 1 h)))

-- a cell that is not in the log
pub cell_new {ℓ} : (P : Plan → Type ℓ) (x : Session) (l : Lock) (p : Plan) → P (Refuse 5) → ((l.claimant ≡ 16 → ⊥) → P RollBack)
    → (x.count < 32 → l.claimant ≡ 16 → P p) → P (new_cell x l p)
unfolding new_cell claimed
cell_new P x l p r5 r6 f =
    split P (ltb x.count 32)
    (λ n. split P (not (eqb l.claimant 16)) (λ q. r6 (eqb-false l.claimant 16 (not-true (eqb l.claimant 16) q)))
    (λ q. f (ltb-true x.count 32 n) (eqb-true l.claimant 16 (not-false (eqb l.claimant 16) q))))
    (λ _. r5)

-- a session's entries past phase 0, where its record fits: at most 32, each of a cell below n
pub record Entries (n : ℕ) (log : List ℕ) (x : Session) : Type 0 where
  pub count : x.count ≤ 32
  pub cells : below n (cell_at log) x.count ≡ true

module _ (n : ℕ) (log : List ℕ) (x : Session) where
  pub entries_of : entries_fit n log x ≡ true → (x.phase ≡ 0 → ⊥) → Entries n log x
  unfolding entries_fit
  entries_of h ne =
      let r : (leb x.count 32 && below n (cell_at log) x.count) ≡ true = rw (ne_eqb x.phase 0 ne) at (both_r (leb x.phase 4) _ h) in
      record { count = leb-true x.count 32 (both_l (leb x.count 32) _ r); cells = both_r (leb x.count 32) _ r }

  pub record_entries : record_fits n log x ≡ true → (x.phase ≡ 0 → ⊥) → Entries n log x
  unfolding record_fits
  record_entries h ne = entries_of (both_l (entries_fit n log x) _ h) ne
