-- The records of all sessions: what one more makes of whether those before it are idle, and a session that is not.
use Prim.Native.Nat.{ℕ, zero, suc, ◌+◌, ◌<◌}
use mathlib.Core.Path.{◌≡◌}
use mathlib.Core.Bool.{true, false}
use native.Mathlib.Numerals.{add-one}
use native.Mathlib.Omega.{arith}
use borrow.Author.Tests.{eq-eqb, ne_eqb}
use Rattle.model.specs.Buffers.{session_at}
use Rattle.model.specs.Load.{idle_below, all_idle}
use Rattle.records.specs.declared.Sessions.{Sessions}
use Rattle.model.proofs.Tools.{same, and-false}

module _ (ss : Sessions) where
  pub idle_on : (i : ℕ) → idle_below i ss ≡ true → (session_at ss i).phase ≡ 0 → idle_below (i + 1) ss ≡ true
  unfolding idle_below
  idle_on i e q = rw (add-one, e, eq-eqb (session_at ss i).phase 0 q)

  -- one that is not idle is among the first m
  not_below : (i : ℕ) → ((session_at ss i).phase ≡ 0 → ⊥) → (m : ℕ) → i < m → false ≡ idle_below m ss
  unfolding idle_below
  not_below i q zero l = elim l [ ]
  not_below i q (suc m) l =
      same i m (λ e. rw (← e, ne_eqb (session_at ss i).phase 0 q, and-false)) (λ n. rw (← not_below i q m (omega arith)))

  pub idle_fails : (i : ℕ) → i < 16 → ((session_at ss i).phase ≡ 0 → ⊥) → false ≡ all_idle ss
  unfolding all_idle
  idle_fails i l q = not_below i q 16 l

  pub idle_end : idle_below 16 ss ≡ true → true ≡ all_idle ss
  unfolding all_idle
  idle_end e = rw e
