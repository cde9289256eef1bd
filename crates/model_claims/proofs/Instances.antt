-- Small stores and lists of which words of the claims hold, by computation: the value found is the log's; the order by commit place of two transactions that hold what
-- they read; a store where no session publishes and not all are idle.
use Prim.Native.Nat.{ℕ, zero, suc}
use native.Mathlib.Omega.{arith}
use mathlib.Core.Path.{◌≡◌, refl}
use mathlib.Core.Logic.{◌⊎◌, inl, inr}
use mathlib.Core.Bool.{Bool, true, false, ◌&&◌, ◌||◌}
use mathlib.Core.List.{List, [], ◌∷◌}
use lib.Dec.{eqb}
use lib.ListN.{get_or, replicate}
use borrow.Author.Tests.{eqb-false}
use Rattle.records.specs.declared.Answer.TheVariants.{Done, Value}
use Rattle.records.specs.declared.Call.TheVariants.{Begin, Read, Write, Seal, Advance, Hold}
use Rattle.records.specs.declared.Session.{Session}
use Rattle.model.specs.Buffers.{Store, idle, session_at}
use Rattle.model.specs.Cases.{state, session, store_with}
use Rattle.model.specs.CommitOrder.{ByCommit, NonePublishing, InCommitOrder}
use Rattle.model.specs.Computing.{computing, counting}
use Rattle.model.specs.History.{one_call, as_actions, event, with_found, event_of, Name, name}
use Rattle.model.specs.Holding.{skew_after}
use Rattle.model.specs.Isolation.{Any}
use Rattle.model.specs.Orders.{Row, given}
use Rattle.model.specs.Words.{Word, word_of}
use Rattle.model.proofs.CommitOrder.{one_order, in_commit_order}
use Rattle.model.proofs.Names.{name_by_test, committed_in}
use Rattle.model.proofs.Tools.{test}
use Rattle.model_claims.proofs.CommitOrderExamples.{told_by, left_by}

-- ---- found

-- the value found is the log's, 8, whatever the store has
abbrev found_eight : Store
found_eight = store_with 1 (state (session 1 1 7) (0 ∷ 8 ∷ 4 ∷ 0 ∷ []) (3 ∷ 5 ∷ []) (2 ∷ 0 ∷ []) (16 ∷ 16 ∷ []) (0 ∷ 0 ∷ []))

pub found_in_log : ((event_of (one_call (Write 1 0 6)) found_eight).found ≡ 8) × ((event_of (one_call (Hold 1 0)) found_eight).found ≡ 8)
unfolding store_with computing counting
found_in_log = (refl, refl)

-- told of a hold that it got 4 and found 3: 4 is what it read, and 3 what it wrote
abbrev held_word : Word
held_word =
    record {
      goes_on = true;
      wrote0 = true;
      wrote1 = false;
      value0 = 3;
      value1 = 0;
      reads = record { cell = 0; value = 4 } ∷ [];
      snapshot = 0;
      commit = 0;
      committed = false;
    }

pub got_and_found : word_of (record { start = []; events = event (Begin 0) Done ∷ with_found 3 (event (Hold 0 0) (Value 4)) ∷ []; name = name 1 0; word = held_word })
    ≡ held_word
unfolding word_of counting
got_and_found = refl

-- ---- the order by commit place

abbrev first : List ℕ
first = 3 ∷ 5 ∷ []

-- the transactions of the two sessions
abbrev x : Name
x = name 1 0

abbrev y : Name
y = name 2 1

abbrev OneOf : Name → Type 0
OneOf z = (x ≡ z) ⊎ (y ≡ z)

-- by a test
abbrev both : Name → Bool
both z = (eqb z.place 1 && eqb z.session 0) || (eqb z.place 2 && eqb z.session 1)

either : (z : Name) → both z ≡ true → OneOf z
either z h =
    test (eqb z.place 1 && eqb z.session 0)
    (λ a. inl (name_by_test 1 0 z a)) (λ a. inr (name_by_test 2 1 z (rw a at h)))

-- where both hold what they read and y comes after, y is the later in the order by commit place
pub after_order : ByCommit first (told_by skew_after) (y ∷ x ∷ [])
after_order =
    record {
      committed = unfold skew_after given computing counting in (refl, (refl, tt));
      every = λ z d. go z (either z (committed_in 2 both (told_by skew_after) (unfold skew_after given computing counting in refl) z d));
      newest_first = unfold skew_after given computing counting in ((omega arith, tt), (tt, tt));
    }
  where
    go : (z : Name) → OneOf z → Any (λ (w : Name). w ≡ z) (y ∷ x ∷ [])
    go z (inl e) = inr (inl e)
    go z (inr e) = inl e

-- and so it is in the order of which the theorem holds
abbrev after_claim : InCommitOrder first (told_by skew_after) (left_by skew_after)
after_claim = unfold skew_after given computing in in_commit_order (given skew_after) refl (as_actions skew_after.calls)

pub after_in_this_order : after_claim.order ≡ y ∷ x ∷ []
after_in_this_order = one_order first (told_by skew_after) after_claim.order (y ∷ x ∷ []) after_claim.by_commit after_order

-- ---- nobody publishes

-- one session releases, one runs and one promotes
abbrev releasing : Row
releasing =
    record {
      values = 3 ∷ 5 ∷ [];
      classes = 2 ∷ 2 ∷ [];
      calls = Begin 0 ∷ Write 0 0 4 ∷ Seal 0 ∷ Advance 0 ∷ Advance 0 ∷ Begin 1 ∷ Read 1 1 ∷ Begin 2 ∷ Write 2 1 6 ∷ Seal 2 ∷ [];
      answers = [];
      ends = [];
    }

abbrev in' : ℕ → Session
in' phase = record { phase = phase; count = 1; next = 0 }

pub releasing_records : (left_by releasing).sessions.records ≡ in' 4 ∷ in' 1 ∷ in' 2 ∷ replicate 13 idle
unfolding given computing counting
releasing_records = refl

pub releasing_none : NonePublishing (left_by releasing)
unfolding session_at
releasing_none s p = at s (rw releasing_records at p)
  where
    idles : (n s : ℕ) → (get_or (replicate n idle) s idle).phase ≡ 3 → ⊥
    idles zero zero p = eqb-false 0 3 refl p
    idles zero (suc s) p = eqb-false 0 3 refl p
    idles (suc n) zero p = eqb-false 0 3 refl p
    idles (suc n) (suc s) p = idles n s p

    at : (s : ℕ) → (get_or (in' 4 ∷ in' 1 ∷ in' 2 ∷ replicate 13 idle) s idle).phase ≡ 3 → ⊥
    at zero p = eqb-false 4 3 refl p
    at (suc zero) p = eqb-false 1 3 refl p
    at (suc (suc zero)) p = eqb-false 2 3 refl p
    at (suc (suc (suc s))) p = idles 13 s p
