-- One law for each way through an advance.
use mathlib.Core.Path.{◌≡◌, refl, sym, ap, ◌∙◌}
use mathlib.Core.Bool.{Bool, true, false, not, ◌&&◌}
use mathlib.Core.Option.{Option, none, some}
use mathlib.Core.List.{List}
use Prim.Native.Nat.{ℕ, suc, ◌+◌, ◌<◌, ◌≤◌}
use native.Mathlib.Numerals.{add-one}
use native.Mathlib.Omega.{arith}
use borrow.Author.Tests.{lt-leb, le-leb, eq-eqb, ne_eqb, eqb-false}
use lib.Dec.{eqb}
use Rattle.model.specs.Readers.{other_readers}
use Rattle.model.specs.Buffers.{idle, move_to, cell_at, entry_at, slot_in, target_in}
use Rattle.model.specs.Plans.{claimed, promote_plan, entries_fit}
use Rattle.model.specs.Effects.{number, is_left, handled, release_answer}
use Rattle.model.specs.InTheWay.{TellsOthers}
use Rattle.records.specs.declared.Session.{Session}
use Rattle.records.specs.declared.Lock.{Lock}
use Rattle.records.specs.declared.Answer.{Answer}
use Rattle.records.specs.declared.Answer.TheVariants as say
use Rattle.records.specs.declared.Answer.TheVariants.{Moved, Waiting, Committed}
use Rattle.records.specs.declared.Plan.{Plan}
use Rattle.records.specs.declared.Plan.TheVariants.{RollBack, Wait, Acquire, Publish, Release}
use Rattle.model.proofs.Sets.{others_told}
use Rattle.model.proofs.Tools.{test}
use Rattle.session_log.specs.Slots.{target_slot}
use Rattle.session_log.proofs.Targets.{written_first, slot_some, target_some}
use Rattle.advance.specs.Pieces.{due_at, due_on, advance_on, handled_by}
use Rattle.targets.specs.declared.Next.{Next}
use Rattle.targets.specs.Told.{next_of, next_in}
use Rattle.records.specs.declared.Refusal.TheVariants.{WrongPhase, DamagedRecord}
use Rattle.records.specs.declared.SessionReply.{SessionReply}
use Rattle.std.specs.Prelude as code
use Rattle.std.specs.Prelude.{Err}
use Rattle.std.specs.Option.{ok_or}

-- the lowest written cell has a first entry
pub target_slot_lem : (log : List ℕ) (m from : ℕ) {c : ℕ} → target_in log m from ≡ some c
    → (k : ℕ) × (slot_in log m c ≡ some k) × (k < m) × (cell_at log k ≡ c)
target_slot_lem log m from {c} e =
    let k = written_first log m c (target_some log m from e).1 in
    let s = slot_some log m c k.1 in
    (k.0, k.1, s.0, s.1)

-- what the search finds is due; where it finds nothing there is 9
due_or : (log : List ℕ) (m : ℕ) (o : Option ℕ) → ok_or (next_of log m o) DamagedRecord ≡ due_at log m o
unfolding due_at
due_or log m none = refl
due_or log m (some k) = refl

module _ (n : ℕ) (log : List ℕ) (x : Session) where
  -- b is what the test of the entries answered
  module _ (b : Bool) (e : b ≡ entries_fit n log x) where
    pub due_odd : b ≡ false → Err DamagedRecord ≡ due_on n log x
    unfolding due_on
    due_odd h = simp (sym e ∙ h)

    module _ (h : b ≡ true) where
      pub due_early : x.phase < 2 → Err WrongPhase ≡ due_on n log x
      unfolding due_on
      due_early l = simp (sym e ∙ h, lt-leb 2 x.phase l)

      -- r is what the search for the entry answered
      pub due_next : 2 ≤ x.phase → (r : code.Option Next) → r ≡ next_in log x.count x.next → ok_or r DamagedRecord ≡ due_on n log x
      unfolding due_on
      due_next l r t = simp (t, due_or log x.count (target_slot log x.count x.next), sym e ∙ h, le-leb 2 x.phase l)

-- ---- advance

module _ (l : Lock) (s : ℕ) where
  -- t is whether anybody is claimant
  module _ (t : Bool) (o : t ≡ claimed l) where
    pub loses_free : t ≡ false → false ≡ (claimed l && not (eqb l.claimant s))
    loses_free h = rw (sym o ∙ h)

    pub loses_to : t ≡ true → not (eqb l.claimant s) ≡ (claimed l && not (eqb l.claimant s))
    loses_to h = rw (sym o ∙ h)

  -- b is whether another is claimant, a whether nobody else reads
  module _ (c : ℕ) (b : Bool) (e : b ≡ (claimed l && not (eqb l.claimant s))) where
    pub promote_loses : b ≡ true → RollBack ≡ promote_plan s c l
    unfolding promote_plan
    promote_loses h = rw (sym e ∙ h)

    module _ (h : b ≡ false) (a : Bool) (f : a ≡ eqb (other_readers s l.readers) 0) where
      pub promote_waits : a ≡ false → (k : ℕ) → k ≡ other_readers s l.readers → Wait c k ≡ promote_plan s c l
      unfolding promote_plan
      promote_waits g k q = rw (sym e ∙ h, sym f ∙ g, q)

      pub promote_acquires : a ≡ true → Acquire c ≡ promote_plan s c l
      unfolding promote_plan
      promote_acquires g = rw (sym e ∙ h, sym f ∙ g)

  -- what the promotion step tells of the others: nothing with 6 and 103; how many with 104
  pub tells_lost : (a : Answer) → a ≡ say.Refused 6 → TellsOthers l s a
  tells_lost a e h = let f = ap number e in absurd (omega (arith, f, h))

  pub tells_acquired : TellsOthers l s Moved
  tells_acquired h = absurd (omega (arith, h))

  pub tells_others : s < 16 → (a : Bool) → a ≡ eqb (other_readers s l.readers) 0 → a ≡ false → (k : ℕ) → k ≡ other_readers s l.readers → TellsOthers l s (Waiting k)
  tells_others lt a f g k q = others_told l s (Waiting k) lt q (eqb-false (other_readers s l.readers) 0 (sym f ∙ g))

-- d is the cell of entry k
module _ (log : List ℕ) (x : Session) (l : Lock) (s k d : ℕ) (e : d ≡ cell_at log k) where
  pub advance_promotes : x.phase ≡ 2 → (p : Plan) → p ≡ promote_plan s d l → p ≡ advance_on log x l s k
  unfolding advance_on
  advance_promotes h p q = simp (eq-eqb x.phase 2 h, ← e, q)

  module _ (h : x.phase ≡ 2 → ⊥) where
    pub advance_publishes : x.phase ≡ 3 → (v : ℕ) → v ≡ (entry_at log k).current → Publish d v ≡ advance_on log x l s k
    unfolding advance_on
    advance_publishes i v q = simp (ne_eqb x.phase 2 h, eq-eqb x.phase 3 i, e, q)

    pub advance_releases : (x.phase ≡ 3 → ⊥) → Release d ≡ advance_on log x l s k
    unfolding advance_on
    advance_releases i = simp (ne_eqb x.phase 2 h, ne_eqb x.phase 3 i, e)

abbrev reply : Answer → Session → SessionReply
reply a y = record { answer = a; session = y }

-- y is the record that is handed back
module _ (x : Session) (c : ℕ) (more : Bool) (y : Session) where
  pub handle_next : more ≡ true → y ≡ move_to x.phase (c + 1) x → reply Moved y ≡ handled_by more x c
  unfolding handled_by
  handle_next h e = rw (e, add-one, h) (test (eqb x.phase 4) (λ p. rw p) (λ p. rw p))

  module _ (h : more ≡ false) where
    pub handle_rests : x.phase ≡ 4 → y ≡ idle → reply Committed y ≡ handled_by more x c
    unfolding handled_by
    handle_rests p e = simp (h, eq-eqb x.phase 4 p, e)

    pub handle_raises : (x.phase ≡ 4 → ⊥) → y ≡ move_to (suc x.phase) 0 x → reply Moved y ≡ handled_by more x c
    unfolding handled_by
    handle_raises p e = simp (h, ne_eqb x.phase 4 p, e)

-- the record and the answer in the model's terms
module _ (log : List ℕ) (x : Session) (c : ℕ) (more : Bool) (m : more ≡ is_left log c x) where
  pub handled_is : (handled_by more x c).session ≡ handled log c x
  unfolding handled_by handled
  handled_is = rw m

  pub released_is : x.phase ≡ 4 → (handled_by more x c).answer ≡ release_answer log c x
  unfolding handled_by release_answer
  released_is e = rw (eq-eqb x.phase 4 e, m)
