-- Set-up: whatever stands in the locks, logs and records that are handed to it, it answers and leaves what the text takes; and the whole answer from there.
use Prim.Native.Nat.{ℕ, ◌+◌, ◌≤◌, ◌<◌}
use native.Mathlib.Omega.{arith}
use mathlib.Core.Path.{◌≡◌, refl, sym, ◌∙◌, ap, subst}
use mathlib.Core.Bool.{Bool, true, false, ◌&&◌}
use mathlib.Core.List.{List, ◌++◌}
use lib.Dec.{leb}
use lib.ListN.{length, take, drop, length-replicate, length-append}
use lib.Seq.{sets, sets-eq, length-take-le}
use borrow.Author.Tests.{le-leb, lt-leb, eq-eqb, ne_eqb}
use Rattle.model.proofs.Tools.{clash, test}
use Rattle.records.specs.declared.Answer.{Answer}
use Rattle.records.specs.declared.Answer.TheVariants.{Done, Refused}
use Rattle.records.specs.declared.Sessions.{Sessions}
use Rattle.model.specs.Buffers.{Store, ours, size, lengths_fit, fresh, has_caps, passes, all_fit}
use Rattle.model.specs.Effects.{number}
use Rattle.model.specs.Plans.{require}
use Rattle.model.specs.Step.{Outcome, outcome, set_up_refusal, set_up_answer, set_up, set_up_effect}
use Rattle.model.proofs.Demand3.{set_up_fresh}
use Rattle.contracts.specs.Lent.{store_of}
use Rattle.std.specs.Prelude.{Option, Some, None, eqb}
use Rattle.items.specs.Items.{Item}
use Rattle.replay_text.specs.Lines.{set_up_line}
use Rattle.transcript.specs.Replay.{Replayed, replayed, replaying}
use Rattle.lines.specs.declared.Page.{Page}
use Rattle.lines.specs.Output.{Out, out, put, held}
use Rattle.transcript.specs.Output.{Fitted}
use Rattle.replay_text.specs.Transcript.{given, calls_text, after_set_up, set_up_text, transcript}
use Rattle.lines.proofs.Puts.{ends_at}

-- ---- set-up's answer: 100, or a refusal by another number

data DoneOrRefused : Answer → Type 0 where
  done : DoneOrRefused Done
  not_done : (r : ℕ) → (r ≡ 100 → ⊥) → DoneOrRefused (Refused r)

tests_answer : (x y z : Bool) → let r : ℕ = require x 7 (require y 16 (require z 8 0)) in DoneOrRefused (require (eqb r 0) (Refused r) Done)
tests_answer false y z = not_done 7 (λ h. omega arith)
tests_answer true false z = not_done 16 (λ h. omega arith)
tests_answer true true false = not_done 8 (λ h. omega arith)
tests_answer true true true = done

by_answer : {P : Type 0} {a : Answer} → DoneOrRefused a → (a ≡ Done → P) → ((r : ℕ) → a ≡ Refused r → (r ≡ 100 → ⊥) → P) → P
by_answer done f g = f refl
by_answer (not_done r h) f g = g r refl h

-- ---- set-up on lent buffers

module _ (vs ks readers claimants exclusives logs : List ℕ) (ss : Sessions) (f : Fitted vs ks readers claimants exclusives logs) where
  same_lengths : lengths_fit (store_of ours vs ks readers claimants exclusives logs ss).lent ≡ lengths_fit (given vs ks).lent
  unfolding lengths_fit size given
  same_lengths = simp (f.read, f.claimed, f.marked, f.logged, length-replicate)

  same_answer : set_up_answer (store_of ours vs ks readers claimants exclusives logs ss) ≡ set_up_answer (given vs ks)
  unfolding set_up_answer set_up_refusal given
  same_answer = rw same_lengths

  same_fresh : fresh ours (store_of ours vs ks readers claimants exclusives logs ss).lent ≡ fresh ours (given vs ks).lent
  unfolding fresh size given
  same_fresh = refl

  module _ {a : Answer} {φ : Store} (e : outcome a φ ≡ set_up_effect (store_of ours vs ks readers claimants exclusives logs ss)) where
    said : a ≡ set_up_answer (given vs ks)
    unfolding set_up_effect
    said = ap (λ (r : Outcome). r.answer) e ∙ same_answer

    -- set-up answers one or the other
    done_or_refused : DoneOrRefused a
    unfolding set_up_answer set_up_refusal
    done_or_refused =
        let σ = given vs ks in
        subst DoneOrRefused (sym said)
        (tests_answer (has_caps σ.limits.caps && lengths_fit σ.lent) (passes σ.limits.caps) (all_fit σ.limits.caps σ.lent.values σ.lent.classes))

    -- what a test for `Done` says of the number
    pub other : {b : Bool} → b ≡ true → (a ≡ Done → b ≡ false) → number a ≡ 100 → ⊥
    other t d h = by_answer done_or_refused (λ k. clash _ t (d k)) (λ r k n. n (sym (ap number k) ∙ h))

    pub is_100 : {b : Bool} → b ≡ false → ((r : ℕ) → a ≡ Refused r → b ≡ true) → number a ≡ 100
    is_100 t d = by_answer done_or_refused (λ k. ap number k) (λ r k n. absurd (clash _ (d r k) t))

    left : number a ≡ 100 → φ ≡ set_up (given vs ks)
    unfolding set_up_effect given set_up
    left h =
        let mine = ap (λ (r : Outcome). r.answer) e in
        ap (λ (r : Outcome). r.store) e
        ∙ set_up_fresh (store_of ours vs ks readers claimants exclusives logs ss) (sym (ap number mine) ∙ h)
        ∙ same_fresh
        ∙ sym (set_up_fresh (given vs ks) (sym (ap number said) ∙ h))

    -- a refused set-up is all that is printed
    pub refused_text : (n : ℕ) (items : List Item) → n ≡ number a → (n ≡ 100 → ⊥) → set_up_line n ≡ set_up_text (given vs ks) items
    unfolding set_up_text after_set_up
    refused_text n items k h =
        let same : n ≡ number (set_up_answer (given vs ks)) = k ∙ ap number said in
        rw (← same, ne_eqb n 100 h)

    -- an accepted one is followed by the calls
    pub accepted_text : (n : ℕ) (items : List Item) → n ≡ number a → n ≡ 100 → calls_text 1 φ items ≡ set_up_text (given vs ks) items
    unfolding set_up_text after_set_up
    accepted_text n items k h =
        let done : number (set_up_answer (given vs ks)) ≡ 100 = sym (ap number said) ∙ sym k ∙ h in
        ap (λ (x : Store). calls_text 1 x items) (left (sym k ∙ h)) ∙ rw (eq-eqb _ _ done)

-- ---- what is lent

-- the cells that were read
pub taken_few : (vs : List ℕ) (n : ℕ) → n ≤ 1024 → length vs ≡ 1024 → length (take n vs) ≤ 1024
taken_few vs n few v = omega (arith, length-take-le n vs (omega arith))

pub taken_both : (vs ks : List ℕ) (n : ℕ) → n ≤ 1024 → length vs ≡ 1024 → length ks ≡ 1024 → length (take n ks) ≡ length (take n vs)
taken_both vs ks n few v k = length-take-le n ks (omega arith) ∙ sym (length-take-le n vs (omega arith))

-- what set-up is handed
pub fitted : (vs ks readers claimants exclusives logs : List ℕ) → length vs ≤ 1024 → length ks ≡ length vs → length readers ≡ 1024 → length claimants ≡ 1024 → length exclusives ≡ 1024 → length logs ≡ 2048
    → Fitted vs ks (take (length vs) readers) (take (length vs) claimants) (take (length vs) exclusives) logs
fitted vs ks readers claimants exclusives logs few classed r c e l =
    record {
      few = few;
      classed = classed;
      read = length-take-le _ readers (omega arith);
      claimed = length-take-le _ claimants (omega arith);
      marked = length-take-le _ exclusives (omega arith);
      logged = l;
    }

-- ---- the whole answer

-- a page that was new, and has the text now
module _ (input o : List ℕ) (p q : Page) (new : held p ≡ out 0 o) (text : held q ≡ put p.output.now p.at (transcript input)) (few : q.at ≤ p.at + 409600) where
  begun : held q ≡ put o 0 (transcript input)
  begun = text ∙ ap (λ (x : Out). put x.output x.at (transcript input)) new

  pub text_bound : length (transcript input) ≤ 409600
  text_bound = omega (arith, ends_at _ _ _ begun, ap (λ (x : Out). x.at) new)

  -- its text stands at the front of an output that is long enough
  pub printed_text : {left : List ℕ} → 409600 ≤ length o → left ≡ q.output.now → replayed (Some q.at) left ≡ replaying input o
  unfolding put replaying
  printed_text {left} h same =
      let none : 0 + length (transcript input) ≡ length (transcript input) = omega arith in
      let place : q.at ≡ length (transcript input) = ends_at o 0 (transcript input) begun ∙ none in
      let all : left ≡ sets o 0 (transcript input) = same ∙ ap (λ (x : Out). x.output) begun in
      ap (λ (n : ℕ). replayed (Some n) left) place
      ∙ ap (replayed (Some (length (transcript input)))) (all ∙ sets-eq (transcript input) o 0 (omega (arith, text_bound)) ∙ ap (λ (n : ℕ). transcript input ++ drop n o) none)
      ∙ rw (le-leb _ _ h)

-- a shorter one
pub short : (input o : List ℕ) → length o < 409600 → replayed None o ≡ replaying input o
unfolding replaying
short input o h = rw (lt-leb _ _ h)

-- what was printed lies inside the output
pub within : (input o p : List ℕ) (r : Option ℕ) (n : ℕ) → replayed r p ≡ replaying input o → r ≡ Some n → n ≤ length p
unfolding replaying
within input o p r n e h =
    test (leb 409600 (length o))
    (λ t.
    let full : replayed r p ≡ replayed (Some (length (transcript input))) (transcript input ++ drop (length (transcript input)) o) = e ∙ simp t in
    let said : r ≡ Some (length (transcript input)) = ap (λ (x : Replayed). x.answer) full in
    let many : n ≡ length (transcript input) = cc in
    omega (arith, simp length-append at (ap (λ (x : Replayed). length x.output) full)))
    (λ t.
    let none : replayed r p ≡ replayed None o = e ∙ simp t in
    let said : r ≡ None = ap (λ (x : Replayed). x.answer) none in
    absurd cc)
