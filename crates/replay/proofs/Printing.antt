-- What the program writes of an input whose bytes are known: the text of all of it, though no more than 65,537 bytes are read, since a longer input has the text
-- of one that is too long.
use Rattle.std.proofs.Common.{◌≡◌, refl, sym, ◌∙◌, ap, subst, arith, ℕ, ◌<◌, ◌≤◌, List, [], ◌++◌, append-nil, length, length-append, take, drop, Option, Some, None, ltb, Bool, true, false}
use Rattle.std.proofs.Math.Seq.{take-append_seam}
use Rattle.std.specs.Prelude.{IfSome}
use Rattle.std.specs.Io.KnownBytes.{Appends, Consumes, IsAtEnd}
use borrow.Author.Tests.{le-leb, ltb-true, ltb-false}
use Rattle.transcript.specs.Replay.{Replayed, replayed, replaying}
use Rattle.replay_text.specs.Transcript.{transcript}
use Rattle.replay_text.proofs.Inputs.{size_text}

-- ---- the replay's answer, in an output that is long enough

module _ (input o p : List ℕ) (r : Option ℕ) (h : 409600 ≤ length o) (e : replayed r p ≡ replaying input o) where
  all : replayed r p ≡ replayed (Some (length (transcript input))) (transcript input ++ drop (length (transcript input)) o)
  unfolding replaying
  all = e ∙ rw (le-leb 409600 (length o) h)

  pub answered : r ≡ Some (length (transcript input))
  answered = ap (λ (x : Replayed). x.answer) all

  pub front : (n : ℕ) → r ≡ Some n → (n ≤ length p) × (take n p ≡ transcript input)
  front n b =
      let many : n ≡ length (transcript input) = let both : Some n ≡ Some (length (transcript input)) = sym b ∙ answered in cc in
      let text : p ≡ transcript input ++ drop (length (transcript input)) o = ap (λ (x : Replayed). x.output) all in
      (omega (arith, many, simp length-append at (ap length text)), rw (many, text) (take-append_seam (transcript input) (drop (length (transcript input)) o)))

-- ---- the known bytes

-- those that were read, and those that were not
same_text : (input read left : List ℕ) → input ≡ read ++ left → (length read < 65537 → left ≡ []) → transcript read ≡ transcript input
same_text input read left e f = by_length (ltb (length read) 65537) refl
  where
    by_length : (b : Bool) → ltb (length read) 65537 ≡ b → transcript read ≡ transcript input
    by_length true h = ap transcript (sym (e ∙ rw (f (ltb-true _ _ h)) (append-nil read)))
    by_length false h =
        let long = ltb-false _ _ h in
        sym (size_text read (omega (arith, long))) ∙ size_text input (omega (arith, long, simp length-append at (ap length e)))

pub told : (before after : Option (List ℕ)) (held holds : Option (List ℕ)) (read : List ℕ)
    → Consumes before after read → (length read < 65537 → IsAtEnd after) → Appends held holds (transcript read)
    → IfSome before (λ input. Appends held holds (transcript input))
told None after held holds read c f a = tt
told (Some input) None held holds read c f a = absurd c
told (Some input) (Some left) held holds read c f a = subst (λ (t : List ℕ). Appends held holds t) (same_text input read left c f) a
