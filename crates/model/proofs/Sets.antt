-- The laws of reader sets, of every number as a set and every session: who is a member after joining and leaving, and what the count of members
-- tells. By induction on the digit, lowest first; the laws of joining and leaving are those of `assign`, which does both.
use Prim.Native.Nat.{ℕ, zero, suc, ◌+◌, ◌*◌, ◌/◌, ◌%◌, ◌^◌, ◌<◌, ◌≤◌}
use native.Mathlib.Omega.{arith}
use mathlib.Core.Path.{◌≡◌, refl, sym, ap, ◌∙◌}
use mathlib.Core.Bool.{true, false, cond, not, ◌&&◌}
use lib.Dec.{eqb}
use lib.Count.{ones_in, ones, ones_step, ones-le}
use borrow.Author.Tests.{eqb-true, eqb-false, eq-eqb, ne_eqb}
use Rattle.records.specs.declared.Answer.{Answer}
use Rattle.records.specs.declared.Lock.{Lock}
use Rattle.model.specs.Effects.{value_of}
use Rattle.model.specs.InTheWay.{TellsOthers}
use Rattle.model.specs.Search.{tally}
use Rattle.model.specs.Readers.{odd, member, assign, with_reader, without_reader, other_readers}
use Rattle.model.proofs.Laws.{assign_over, tally_first, tally_same}
use Rattle.model.proofs.Tools.{same, test, and-false, half_assign, member_assign_same, member_assign_other, alone_member}

-- ---- joining and leaving

module _ (s x : ℕ) where
  pub member_join_same : member (with_reader s x) s ≡ true
  member_join_same = member_assign_same x s true

  pub member_join_other : (t : ℕ) → (t ≡ s → ⊥) → member (with_reader s x) t ≡ member x t
  member_join_other t n = member_assign_other x s t true n

  pub member_leave_same : member (without_reader s x) s ≡ false
  member_leave_same = member_assign_same x s false

  pub member_leave_other : (t : ℕ) → (t ≡ s → ⊥) → member (without_reader s x) t ≡ member x t
  member_leave_other t n = member_assign_other x s t false n

  pub join_twice : with_reader s (with_reader s x) ≡ with_reader s x
  join_twice = assign_over x s true true

  pub leave_twice : without_reader s (without_reader s x) ≡ without_reader s x
  leave_twice = assign_over x s false false

  pub join_then_leave : without_reader s (with_reader s x) ≡ without_reader s x
  join_then_leave = assign_over x s true false

  pub leave_then_join : with_reader s (without_reader s x) ≡ with_reader s x
  leave_then_join = assign_over x s false true

-- ---- counting

ones_digit : (y r : ℕ) → r < 2 → ones (y * 2 + r) ≡ r + ones y
ones_digit y r h =
    let m : (y * 2 + r) % 2 ≡ r = omega arith in
    ones_step (y * 2 + r) ∙ rw (m, half_assign y r h)

-- the count of the set with the session's own bit put in is one more than the others
pub ones_join : (s x : ℕ) → ones (with_reader s x) ≡ suc (other_readers s x)
unfolding other_readers assign
ones_join zero x = omega (arith, ones_digit (x / 2) 1 (omega arith), ones_digit (x / 2) 0 (omega arith))
ones_join (suc s) x =
    let digit : (y : ℕ) → ones (y * 2 + x % 2) ≡ x % 2 + ones y = λ y. ones_digit y (x % 2) (omega arith) in
    omega (arith, digit (assign (x / 2) s true), digit (assign (x / 2) s false), ones_join s (x / 2))

-- of a set of k + 1 digits at most k others
others_most : (k s x : ℕ) → s ≤ k → x < 2 ^ suc k → other_readers s x ≤ k
unfolding other_readers assign
others_most k zero x l h = omega (arith, ones_digit (x / 2) 0 (omega arith), ones-le k (x / 2) (omega (arith, h)))
others_most zero (suc s) x l h = absurd (omega arith)
others_most (suc k) (suc s) x l h =
    omega (arith, ones_digit (assign (x / 2) s false) (x % 2) (omega arith), others_most k s (x / 2) (omega arith) (omega (arith, h)))

-- so what an answer tells of the others, where there are some
pub others_told : (l : Lock) (s : ℕ) (a : Answer) → s < 16 → value_of a ≡ other_readers s l.readers → (other_readers s l.readers ≡ 0 → ⊥) → TellsOthers l s a
others_told l s a lt q n h = (q, omega (arith, q, n), λ r. omega (arith, q, others_most 15 s l.readers (omega arith) r))

-- so that count is one exactly where there are no others
pub alone_count : (s x : ℕ) → eqb (ones (with_reader s x)) 1 ≡ eqb (other_readers s x) 0
alone_count s x =
    let e = ones_join s x in
    same (other_readers s x) 0 (λ z. eq-eqb (ones (with_reader s x)) 1 (omega arith) ∙ sym (eq-eqb (other_readers s x) 0 z))
    (λ n. ne_eqb (ones (with_reader s x)) 1 (λ w. n (omega arith)) ∙ sym (ne_eqb (other_readers s x) 0 n))

-- the count of the bare set would not do: the one member of set 2 is session 1, so session 0 has another reader beside it
pub bare_count : (ones 2 ≡ 1) × (other_readers 0 2 ≡ 0 → ⊥)
unfolding ones ones_in other_readers assign
bare_count = (refl, λ e. omega arith)

-- ---- alone

-- a set without members counts none, however many digits are looked at
no_members : (d x : ℕ) → ((t : ℕ) → member x t ≡ false) → ones_in d x ≡ 0
unfolding ones_in member odd
no_members zero x h = refl
no_members (suc d) x h =
    let n = eqb-false (x % 2) 1 (h 0) in omega (arith, no_members d (x / 2) (λ t. h (suc t)))

-- no other session is a member
abbrev pub Alone : ℕ → ℕ → Type 0
Alone s x = (t : ℕ) → (t ≡ s → ⊥) → member x t ≡ false

pub alone_others : (s x : ℕ) → Alone s x → other_readers s x ≡ 0
unfolding other_readers ones
alone_others s x h =
    no_members (without_reader s x) (without_reader s x)
    (λ t. same t s (λ e. rw e (member_leave_same s x)) (λ n. member_leave_other s x t n ∙ h t n))

-- the count of a set without members from d on is the number of its members below d, and of the others that of the others
ones_tally : (d x : ℕ) → ((t : ℕ) → d ≤ t → member x t ≡ false) → ones x ≡ tally (member x) d
unfolding ones tally member odd
ones_tally zero x h = no_members x x (λ t. h t (omega arith))
ones_tally (suc d) x h =
    let first : x % 2 ≡ cond (eqb (x % 2) 1) 1 0 = test (eqb (x % 2) 1) (λ e. rw e (eqb-true (x % 2) 1 e)) (λ e. rw e (let n = eqb-false (x % 2) 1 e in omega arith)) in
    ones_step x ∙ ap (λ (n : ℕ). x % 2 + n) (ones_tally d (x / 2) (λ t l. h (suc t) (omega arith)))
    ∙ ap (λ (n : ℕ). n + tally (member (x / 2)) d) first ∙ sym (tally_first (member x) d)

pub others_tally : (d s x : ℕ) → ((t : ℕ) → d ≤ t → member x t ≡ false) → other_readers s x ≡ tally (λ t. not (eqb t s) && member x t) d
unfolding other_readers
others_tally d s x h =
    let gone : (t : ℕ) → member (without_reader s x) t ≡ (not (eqb t s) && member x t) =
    λ t. same t s (λ e. rw (eq-eqb t s e, e) (member_leave_same s x)) (λ n. rw (ne_eqb t s n) (member_leave_other s x t n)) in
    ones_tally d (without_reader s x) (λ t l. gone t ∙ rw (h t l) (and-false (not (eqb t s)))) ∙ tally_same (member (without_reader s x)) _ d (λ t _. gone t)

pub others_alone : (s x : ℕ) → other_readers s x ≡ 0 → Alone s x
others_alone s x h t n = alone_member x s t h n
