-- What an end tells (specs/Ending.antt). A transaction that is open is committed exactly where its session is in phase 3 or 4; there a call ends nothing, or answers 105 and
-- tells the end alone. In phases 1 and 2 only a seal that publishes nothing answers 105, and it commits; whatever else ends the transaction leaves it as it was.
use Prim.Native.Nat.{ℕ, zero, suc, ◌≤◌, ◌<◌}
use native.Mathlib.Omega.{arith}
use mathlib.Core.Path.{◌≡◌, refl, sym, ◌∙◌, ap, subst}
use mathlib.Core.Logic.{◌⊎◌, inl, inr}
use mathlib.Core.Bool.{Bool, true, false, not, ◌&&◌, ◌||◌}
use mathlib.Core.Option.{none, some}
use mathlib.Core.List.{List, [], ◌∷◌, ◌++◌, reverse}
use lib.Dec.{leb, ltb, eqb}
use lib.ListN.{length, get_or}
use borrow.Author.Tests.{eqb-true, ne_eqb, eq-eqb, leb-true, lt-ltb}
use Rattle.records.specs.declared.Answer.{Answer}
use Rattle.records.specs.declared.Answer.TheVariants.{Moved, Committed, Refused}
use Rattle.records.specs.declared.Call.{Call}
use Rattle.records.specs.declared.Call.TheVariants.{Begin, Read, Write, Seal, Advance, Abandon, Peek, Hold}
use Rattle.records.specs.declared.Lock.{Lock}
use Rattle.records.specs.declared.Plan.{Plan}
use Rattle.records.specs.declared.Plan.TheVariants.{Refuse, Start, Tell, Enter, Update, EnterUpdate, Mark, EnterMark, RollBack, Cancel, BeginPromotion, Wait, Acquire, Publish, Release, ShowStore, ShowLog}
use Rattle.records.specs.declared.Session.{Session}
use Rattle.model.specs.Buffers.{entry_at, slot_in, cap, fresh, Store, size, look_in, target_in, current_of, lock_at, has_caps}
use Rattle.model.specs.Effects.{number, value_of, record_of, log_of, answer, after, release_answer, is_left}
use Rattle.model.specs.Plans.{admit, record_fits, guard, known, claimed, new_cell, plan, read_slot, read_plan, hold_slot, hold_plan, write_slot, write_capped, write_plan, seal_target, seal_plan, promote_plan, advance_target, advance_plan, peek_slot, peek_plan}
use Rattle.model.specs.Readers.{other_readers}
use Rattle.model.specs.ManyReads.{Reads, read_many}
use Rattle.model.specs.Search.{tally}
use Rattle.model.specs.Step.{session_of, plan_of, step, answer_of, set_up_answer, set_up}
use Rattle.model.specs.History.{Action, one_call, many_reads, load_caps, actor, tells_of, event_of, run, events, history, Item, item, add, Name, transaction, is_open, held_in, changed_in, wrote, cells_written, snapshot, move_number, moves_in, commit, committed}
use Rattle.model.specs.Isolation.{All}
use Rattle.model_claims.specs.Ending.{EachEnds}
use Rattle.model.specs.Told.{WhereGot, found_by, reads_tell, Told, began, got, put, held, sealed, moved, ended, ends, ending, tells}
use Rattle.model.proofs.ManyReads.{ByRead, value, end, reads_by_read, kept_by_reads}
use Rattle.model.proofs.Invariant.{all_map, Link}
use Rattle.model.proofs.Ledger.{Txn, Ledger}
use Rattle.model.proofs.Preservation.{inside, none_written}
use Rattle.model.proofs.Demand3.{set_up_fresh}
use Rattle.model.proofs.Runs.{inv_fresh, Ready, ready, ledger_of, inv_run, match_run, history_step}
use Rattle.model.proofs.View.{look, target}
use Rattle.model.proofs.Words.{summary}
use Rattle.model.proofs.Matching.{Next, stays, grows, starts_here, next}
use Rattle.model.proofs.Passing.{choose, guarded, cell_known, cell_new}
use Rattle.model.proofs.Telling.{tells_any, refused_tells}
use Rattle.model.proofs.Tools.{same, split, test, clash}

-- ---- what a call does in phases 3 and 4

-- it ends nothing, or its answer is 105 and it tells the end
abbrev Spares : Call → ℕ → Answer → Type 0
Spares k f a = All (λ (w : Told). ends w ≡ false) (tells k a f) ⊎ ((number a ≡ 105) × (tells k a f ≡ ended ∷ []))

module _ (σ : Store) (k : Call) (f : ℕ) where
  abbrev P : Plan → Type 0
  P p = Spares k f (answer (session_of k) p σ)

  refuses : (r : ℕ) → tells k (Refused r) f ≡ [] → P (Refuse r)
  unfolding answer
  refuses r e = inl (rw e tt)

  -- one that wants another phase
  elsewhere : (fits : Bool) (p : Plan) → fits ≡ false
      → P (admit σ.lent (session_of k) (guard (size σ.lent) (log_of σ (session_of k)) (record_of σ (session_of k)) fits p))
  elsewhere fits p e =
      guarded P σ.lent (session_of k) (record_of σ (session_of k)) fits p (refuses 7 (refused_tells 7 refl k f)) (refuses 1 (refused_tells 1 refl k f))
      (refuses 9 (refused_tells 9 refl k f)) (refuses 2 (refused_tells 2 refl k f)) (λ _ _ h. absurd (clash fits h e))

on_publish : (σ : Store) (s f c v : ℕ) → P σ (Advance s) f (Publish c v)
unfolding answer tells
on_publish σ s f c v = inl (refl, tt)

on_release : (σ : Store) (s f c : ℕ) → P σ (Advance s) f (Release c)
unfolding answer release_answer tells ending
on_release σ s f c = split (Spares (Advance s) f) (is_left (log_of σ s) c (record_of σ s)) {x = Moved} {y = Committed} (λ _. inl (refl, tt)) (λ _. inr (refl, refl))

spares : (σ : Store) (k : Call) (f : ℕ) → 3 ≤ (record_of σ (session_of k)).phase → Spares k f (answer_of k σ)
unfolding answer_of plan_of plan read_plan hold_plan write_plan seal_plan advance_plan peek_plan advance_target
spares σ (Begin s) f l = elsewhere σ (Begin s) f (eqb (record_of σ s).phase 0) Start (ne_eqb (record_of σ s).phase 0 (λ e. omega arith))
spares σ (Read s c) f l = elsewhere σ (Read s c) f (eqb (record_of σ s).phase 1) _ (ne_eqb (record_of σ s).phase 1 (λ e. omega arith))
spares σ (Write s c v) f l =
    split (P σ (Write s c v) f) (has_caps σ.limits.caps) (λ _. elsewhere σ (Write s c v) f (eqb (record_of σ s).phase 1) _ (ne_eqb (record_of σ s).phase 1 (λ e. omega arith)))
    (λ _. refuses σ (Write s c v) f 7 (refused_tells 7 refl (Write s c v) f))
spares σ (Seal s) f l = elsewhere σ (Seal s) f (eqb (record_of σ s).phase 1) _ (ne_eqb (record_of σ s).phase 1 (λ e. omega arith))
spares σ (Advance s) f l =
    guarded (P σ (Advance s) f) σ.lent s (record_of σ s) (leb 2 (record_of σ s).phase) (advance_target s (log_of σ s) (record_of σ s) (lock_at σ.lent.locks) (target_in (log_of σ s) (record_of σ s).count (record_of σ s).next))
    (refuses σ (Advance s) f 7 (refused_tells 7 refl (Advance s) f)) (refuses σ (Advance s) f 1 (refused_tells 1 refl (Advance s) f))
    (refuses σ (Advance s) f 9 (refused_tells 9 refl (Advance s) f)) (refuses σ (Advance s) f 2 (refused_tells 2 refl (Advance s) f))
    (λ _ _ _. choose (P σ (Advance s) f) (advance_target s (log_of σ s) (record_of σ s) (lock_at σ.lent.locks)) (target_in (log_of σ s) (record_of σ s).count (record_of σ s).next)
    (λ _. refuses σ (Advance s) f 9 (refused_tells 9 refl (Advance s) f))
    (λ c _. late c))
  where
    late : (c : ℕ) → P σ (Advance s) f (advance_target s (log_of σ s) (record_of σ s) (lock_at σ.lent.locks) (some c))
    late c =
        unfold advance_target in
        rw (ne_eqb (record_of σ s).phase 2 (λ e. omega arith))
        (split (P σ (Advance s) f) (eqb (record_of σ s).phase 3) {x = Publish c (current_of (look_in (log_of σ s) (record_of σ s).count c))} {y = Release c}
        (λ _. on_publish σ s f c (current_of (look_in (log_of σ s) (record_of σ s).count c))) (λ _. on_release σ s f c))
spares σ (Abandon s) f l =
    elsewhere σ (Abandon s) f (eqb (record_of σ s).phase 1 || eqb (record_of σ s).phase 2) Cancel
    (rw (ne_eqb (record_of σ s).phase 1 (λ e. omega arith), ne_eqb (record_of σ s).phase 2 (λ e. omega arith)))
spares σ (Peek s c) f l = elsewhere σ (Peek s c) f (eqb (record_of σ s).phase 1) _ (ne_eqb (record_of σ s).phase 1 (λ e. omega arith))
spares σ (Hold s c) f l = elsewhere σ (Hold s c) f (eqb (record_of σ s).phase 1) _ (ne_eqb (record_of σ s).phase 1 (λ e. omega arith))

-- ---- 105 in phases 1 and 2: a seal that finds nothing to publish

-- where the answer is 105
abbrev Rests : Store → Call → Answer → Type 0
Rests σ k a = number a ≡ 105 → (s : ℕ) × (k ≡ Seal s) × (s < 16) × ((record_of σ s).phase ≡ 1) × (record_fits (size σ.lent) (log_of σ s) (record_of σ s) ≡ true) × (target_in (log_of σ s) (record_of σ s).count 0 ≡ none)

module _ (σ : Store) (k : Call) where
  abbrev Q : Plan → Type 0
  Q p = Rests σ k (answer (session_of k) p σ)

  small : (p : Plan) (r : ℕ) → number (answer (session_of k) p σ) ≡ r → r < 105 → Q p
  small p r e l h = absurd (omega (arith, e, h, l))

  unfits : (r : ℕ) → r < 105 → Q (Refuse r)
  unfolding answer
  unfits r l h = absurd (omega arith)

  passed : (fits : Bool) (p : Plan) → (session_of k < 16 → record_fits (size σ.lent) (log_of σ (session_of k)) (record_of σ (session_of k)) ≡ true → fits ≡ true → Q p)
      → Q (admit σ.lent (session_of k) (guard (size σ.lent) (log_of σ (session_of k)) (record_of σ (session_of k)) fits p))
  passed fits p g = guarded Q σ.lent (session_of k) (record_of σ (session_of k)) fits p (unfits 7 (omega arith)) (unfits 1 (omega arith)) (unfits 9 (omega arith)) (unfits 2 (omega arith)) g

  knows : (c : ℕ) (p : Plan) → Q p → Q (known (size σ.lent) c p)
  knows c p q = cell_known Q (size σ.lent) c p (unfits 3 (omega arith)) (λ _. q)

  enters : (x : Session) (l : Lock) (p : Plan) → Q p → Q (new_cell x l p)
  enters x l p q = cell_new Q x l p (unfits 5 (omega arith)) (λ _. unfold answer in small RollBack 6 refl (omega arith)) (λ _ _. q)

read_rests : (σ : Store) (s c : ℕ) → Rests σ (Read s c) (answer_of (Read s c) σ)
unfolding answer_of plan_of plan read_plan read_slot
read_rests σ s c =
    passed σ (Read s c) (eqb (record_of σ s).phase 1) _ (λ _ _ _. knows σ (Read s c) c _
    (choose (Q σ (Read s c)) (read_slot (log_of σ s) (record_of σ s) (lock_at σ.lent.locks c) c) (slot_in (log_of σ s) (record_of σ s).count c)
    (λ _. enters σ (Read s c) (record_of σ s) (lock_at σ.lent.locks c) (Enter c) (unfold answer in small σ (Read s c) (Enter c) 101 refl (omega arith)))
    (λ j _. unfold answer in small σ (Read s c) (Tell (entry_at (log_of σ s) j).current) 101 refl (omega arith))))

rests : (σ : Store) (k : Call) → (record_of σ (session_of k)).phase < 3 → Rests σ k (answer_of k σ)
unfolding answer_of plan_of plan read_plan hold_plan write_plan seal_plan advance_plan peek_plan read_slot hold_slot write_slot write_capped seal_target peek_slot promote_plan advance_target
rests σ (Begin s) l = passed σ (Begin s) (eqb (record_of σ s).phase 0) Start (λ _ _ _. unfold answer in small σ (Begin s) Start 100 refl (omega arith))
rests σ (Read s c) l = read_rests σ s c
rests σ (Hold s c) l =
    passed σ (Hold s c) (eqb (record_of σ s).phase 1) _ (λ _ _ _. knows σ (Hold s c) c _
    (choose (Q σ (Hold s c)) (hold_slot (log_of σ s) (record_of σ s) (lock_at σ.lent.locks c) c) (slot_in (log_of σ s) (record_of σ s).count c)
    (λ _. enters σ (Hold s c) (record_of σ s) (lock_at σ.lent.locks c) (EnterMark c) (unfold answer in small σ (Hold s c) (EnterMark c) 101 refl (omega arith)))
    (λ j _. unfold answer in small σ (Hold s c) (Mark j (entry_at (log_of σ s) j).current) 101 refl (omega arith))))
rests σ (Write s c v) l =
    split (Q σ (Write s c v)) (has_caps σ.limits.caps)
    (λ _. passed σ (Write s c v) (eqb (record_of σ s).phase 1) _ (λ _ _ _. knows σ (Write s c v) c _
    (split (Q σ (Write s c v)) (ltb (get_or σ.lent.classes c 0) 16)
    (λ _. split (Q σ (Write s c v)) (leb v (cap σ.limits.caps (get_or σ.lent.classes c 0)))
    (λ _. choose (Q σ (Write s c v)) (write_slot (record_of σ s) (lock_at σ.lent.locks c) c v) (slot_in (log_of σ s) (record_of σ s).count c)
    (λ _. enters σ (Write s c v) (record_of σ s) (lock_at σ.lent.locks c) (EnterUpdate c v) (unfold answer in small σ (Write s c v) (EnterUpdate c v) 100 refl (omega arith)))
    (λ j _. unfold answer in small σ (Write s c v) (Update j v) 100 refl (omega arith)))
    (λ _. unfits σ (Write s c v) 4 (omega arith)))
    (λ _. unfits σ (Write s c v) 8 (omega arith)))))
    (λ _. unfits σ (Write s c v) 7 (omega arith))
rests σ (Seal s) l =
    passed σ (Seal s) (eqb (record_of σ s).phase 1) _ (λ lt fit h.
    choose (Q σ (Seal s)) seal_target (target_in (log_of σ s) (record_of σ s).count 0)
    (λ e _. (s, refl, lt, eqb-true (record_of σ s).phase 1 h, fit, e))
    (λ c _. unfold answer in small σ (Seal s) BeginPromotion 102 refl (omega arith)))
rests σ (Advance s) l =
    passed σ (Advance s) (leb 2 (record_of σ s).phase) _ (λ _ _ h.
    choose (Q σ (Advance s)) (advance_target s (log_of σ s) (record_of σ s) (lock_at σ.lent.locks)) (target_in (log_of σ s) (record_of σ s).count (record_of σ s).next)
    (λ _. unfits σ (Advance s) 9 (omega arith))
    (λ c _. promoting c (leb-true 2 (record_of σ s).phase h)))
  where
    promoting : (c : ℕ) → 2 ≤ (record_of σ s).phase → Q σ (Advance s) (advance_target s (log_of σ s) (record_of σ s) (lock_at σ.lent.locks) (some c))
    promoting c le = unfold advance_target in rw (eq-eqb (record_of σ s).phase 2 (omega arith)) (promoted c)
      where
        promoted : (c : ℕ) → Q σ (Advance s) (promote_plan s c (lock_at σ.lent.locks c))
        promoted c =
            let l = lock_at σ.lent.locks c in
            unfold promote_plan in
            split (Q σ (Advance s)) (claimed l && not (eqb l.claimant s)) (λ _. unfold answer in small σ (Advance s) RollBack 6 refl (omega arith))
            (λ _. split (Q σ (Advance s)) (eqb (other_readers s l.readers) 0) (λ _. unfold answer in small σ (Advance s) (Acquire c) 103 refl (omega arith))
            (λ _. unfold answer in small σ (Advance s) (Wait c (other_readers s l.readers)) 104 refl (omega arith)))
rests σ (Abandon s) l = passed σ (Abandon s) (eqb (record_of σ s).phase 1 || eqb (record_of σ s).phase 2) Cancel (λ _ _ _. unfold answer in small σ (Abandon s) Cancel 100 refl (omega arith))
rests σ (Peek s c) l =
    passed σ (Peek s c) (eqb (record_of σ s).phase 1) _ (λ _ _ _. knows σ (Peek s c) c _
    (choose (Q σ (Peek s c)) (peek_slot (log_of σ s) c) (slot_in (log_of σ s) (record_of σ s).count c)
    (λ _. unfits σ (Peek s c) 14 (omega arith))
    (λ j _. split (Q σ (Peek s c)) (entry_at (log_of σ s) j).dirty (λ _. unfold answer in small σ (Peek s c) (ShowLog j) 100 refl (omega arith)) (λ _. unfold answer in small σ (Peek s c) (ShowStore c) 100 refl (omega arith)))))

-- a read never is 105, and in phases 3 and 4 it tells nothing and changes nothing
read_not_105 : (σ : Store) (s c : ℕ) → eqb (number (answer_of (Read s c) σ)) 105 ≡ false
read_not_105 σ s c = ne_eqb (number (answer_of (Read s c) σ)) 105 (λ e. let q = (read_rests σ s c e).1 in unread q)
  where
    unread : {t : ℕ} → Read s c ≡ Seal t → ⊥
    unread q = let z : ◌≡◌ {A = ℕ} 0 1 = cc in omega arith

late_read : (σ : Store) (s c : ℕ) → 3 ≤ (record_of σ s).phase → (tells (Read s c) (answer_of (Read s c) σ) 0 ≡ []) × (step (Read s c) σ ≡ σ)
unfolding answer_of step plan_of plan read_plan answer after
late_read σ s c l =
    let refused : (r : ℕ) → tells (Read s c) (Refused r) 0 ≡ [] → (tells (Read s c) (Refused r) 0 ≡ []) × (σ ≡ σ) = λ r e. (e, refl) in
    guarded (λ (p : Plan). (tells (Read s c) (answer s p σ) 0 ≡ []) × (after s p σ ≡ σ)) σ.lent s (record_of σ s) (eqb (record_of σ s).phase 1) _
    (refused 7 (refused_tells 7 refl (Read s c) 0)) (refused 1 (refused_tells 1 refl (Read s c) 0))
    (refused 9 (refused_tells 9 refl (Read s c) 0)) (refused 2 (refused_tells 2 refl (Read s c) 0))
    (λ _ _ h. absurd (clash (eqb (record_of σ s).phase 1) h (ne_eqb (record_of σ s).phase 1 (λ e. omega arith))))

-- ---- what a transaction is after more is told

-- a value got, and the end, leave it committed or not as it was
abbrev Plain : Told → Type 0
Plain w = (n q s : ℕ) (t : List Item) → committed n (item q s w ∷ t) ≡ committed n t

plain_got : (c v : ℕ) → Plain (got c v)
unfolding committed commit wrote held_in changed_in snapshot move_number moves_in
plain_got c v n q s t = refl

plain_ended : Plain ended
unfolding committed commit wrote held_in changed_in snapshot move_number moves_in
plain_ended n q s t = refl

plain_read : {w : Told} → ByRead w → Plain w
plain_read (value c v) = plain_got c v
plain_read end = plain_ended

plain_end : (w : Told) → ends w ≡ true → Plain w
plain_end began h = absurd (clash false h refl)
plain_end (got c v) h = absurd (clash false h refl)
plain_end (put c v f) h = absurd (clash false h refl)
plain_end (held c v f) h = absurd (clash false h refl)
plain_end sealed h = absurd (clash false h refl)
plain_end moved h = absurd (clash false h refl)
plain_end ended h = plain_ended

module _ (n : ℕ) (x : Name) (q s : ℕ) (h : List Item) where
  plain_add : (ws : List Told) → All Plain ws → committed n (transaction x (add q s ws h)) ≡ committed n (transaction x h)
  plain_add [] a = refl
  plain_add (w ∷ ws) a = go (plain_add ws a.1) (next x (item q s w) (add q s ws h))
    where
      go : committed n (transaction x (add q s ws h)) ≡ committed n (transaction x h) → Next x (item q s w) (add q s ws h)
          → committed n (transaction x (add q s (w ∷ ws) h)) ≡ committed n (transaction x h)
      go i (stays e _) = ap (committed n) e ∙ i
      go i (grows _ _ e) = ap (committed n) e ∙ a.0 n q s (transaction x (add q s ws h)) ∙ i
      go i (starts_here _ _ _ z e) = ap (committed n) e ∙ a.0 n q s [] ∙ ap (committed n) (sym z) ∙ i

  module _ (open' : is_open (transaction x h) ≡ true) where
    spared : (ws : List Told) → All (λ (w : Told). ends w ≡ false) ws → is_open (transaction x (add q s ws h)) ≡ true
    spared [] a = open'
    spared (w ∷ ws) a = go (spared ws a.1) (next x (item q s w) (add q s ws h))
      where
        go : is_open (transaction x (add q s ws h)) ≡ true → Next x (item q s w) (add q s ws h) → is_open (transaction x (add q s (w ∷ ws) h)) ≡ true
        go i (stays e _) = ap is_open e ∙ i
        go i (grows _ _ e) = ap is_open e ∙ ap not a.0
        go i (starts_here _ _ _ z e) = absurd (clash (is_open (transaction x (add q s ws h))) i (ap is_open z))

    another : (x.session ≡ s → ⊥) → (ws : List Told) → transaction x (add q s ws h) ≡ transaction x h
    another d [] = refl
    another d (w ∷ ws) = go (another d ws) (next x (item q s w) (add q s ws h))
      where
        go : transaction x (add q s ws h) ≡ transaction x h → Next x (item q s w) (add q s ws h) → transaction x (add q s (w ∷ ws) h) ≡ transaction x h
        go i (stays e _) = e ∙ i
        go i (grows e _ _) = absurd (d e)
        go i (starts_here _ _ e _ _) = absurd (d e)

    own : x.session ≡ s → (w : Told) → transaction x (item q s w ∷ h) ≡ item q s w ∷ transaction x h
    own e w = go (next x (item q s w) h)
      where
        go : Next x (item q s w) h → transaction x (item q s w ∷ h) ≡ item q s w ∷ transaction x h
        go (stays _ z) = absurd (clash (is_open (transaction x h)) open' (z e))
        go (grows _ _ g) = g
        go (starts_here _ _ _ z _) = absurd (clash (is_open (transaction x h)) open' (ap is_open z))

-- a seal answered 105 of one that wrote no cell commits it
seal_commits : (n : ℕ) (x : Name) (q s : ℕ) (h : List Item) → is_open (transaction x h) ≡ true → x.session ≡ s → 0 < q → cells_written n (transaction x h) ≡ 0
    → committed n (transaction x (add q s (ended ∷ sealed ∷ []) h)) ≡ true
unfolding committed commit wrote held_in changed_in snapshot
seal_commits n x q s h o e l z =
    let a = own n x q s h o e sealed in
    let b = own n x q s (item q s sealed ∷ h) (ap is_open a) e ended in
    rw (b, a, eq-eqb (cells_written n (transaction x h)) 0 z, lt-ltb 0 q l)

-- ---- the theorem

module _ {φ : Store} {T₀ : Ledger} (R : Ready φ [] T₀) (ks : List Action) (x : Name) (open' : is_open (transaction x (history [] φ ks)) ≡ true) where
  abbrev n : ℕ
  n = length φ.lent.values

  abbrev h : List Item
  h = history [] φ ks

  abbrev σ : Store
  σ = run φ ks

  abbrev q : ℕ
  q = suc (length ks)

  -- committed in phases 3 and 4, and not before
  data Stage : Type 0 where
    early : (record_of σ x.session).phase < 3 → committed n (transaction x h) ≡ false → Stage
    late : 3 ≤ (record_of σ x.session).phase → committed n (transaction x h) ≡ true → Stage

  stage : Stage
  stage = go (record_of σ x.session).phase refl ((inv_run R ks).link x.session)
    where
      u : (ledger_of R ks).mine x.session ≡ summary n x.place (transaction x h)
      u = (match_run R ks).open' x open'

      done : {b : Bool} → ((ledger_of R ks).mine x.session).done ≡ b → committed n (transaction x h) ≡ b
      done e = sym (ap (λ (t : Txn). t.done) u) ∙ e

      go : (p : ℕ) → (record_of σ x.session).phase ≡ p
          → Link φ.lent.values (ledger_of R ks).commits (ledger_of R ks).place (record_of σ x.session).next (look σ x.session) ((ledger_of R ks).mine x.session) p → Stage
      go zero e l = absurd (clash (is_open (transaction x h)) open' (sym (ap (λ (t : Txn). t.live) u) ∙ l))
      go (suc zero) e l = early (omega arith) (done l.open')
      go (suc (suc zero)) e l = early (omega arith) (done l.open')
      go (suc (suc (suc zero))) e l = late (omega arith) (done l.done)
      go (suc (suc (suc (suc zero)))) e l = late (omega arith) (done l.done)
      go (suc (suc (suc (suc (suc p))))) e l = absurd l

  -- a seal that found nothing to publish is of a transaction that wrote no cell
  dry : (s : ℕ) → x.session ≡ s → s < 16 → (record_of σ s).phase ≡ 1 → record_fits (size σ.lent) (log_of σ s) (record_of σ s) ≡ true → target_in (log_of σ s) (record_of σ s).count 0 ≡ none
      → cells_written n (transaction x h) ≡ 0
  unfolding target
  dry s e lt ph fit none' =
      let I = inv_run R ks in
      let w = none_written I s lt ph (inside I s fit (λ z. omega arith)) none' in
      subst (λ (f : ℕ → Bool). tally f n ≡ 0) (ap (λ (t : Txn). t.wrote) (ap (ledger_of R ks).mine (sym e) ∙ (match_run R ks).open' x open')) w

  -- a call
  module _ (k : Call) (f : ℕ) where
    abbrev a : Answer
    a = answer_of k σ

    abbrev g : List Item
    g = add q (session_of k) (tells k a f) h

    sealed_told : {s : ℕ} → k ≡ Seal s → number a ≡ 105 → tells k a f ≡ ended ∷ sealed ∷ []
    unfolding tells
    sealed_told {s} e y = subst (λ (k : Call). tells k a f ≡ ended ∷ sealed ∷ []) (sym e) (rw y)

    -- whatever else ends it leaves it uncommitted
    left : committed n (transaction x h) ≡ false → eqb (number a) 105 ≡ false → is_open (transaction x g) ≡ false → committed n (transaction x g) ≡ false
    left d z = tells_any Left a over one (λ y. absurd (clash (eqb (number a) 105) (eq-eqb (number a) 105 y) z)) k f
      where
        Left : List Told → Type 0
        Left ws = is_open (transaction x (add q (session_of k) ws h)) ≡ false → committed n (transaction x (add q (session_of k) ws h)) ≡ false

        over : Left (ending a)
        over =
            unfold ending in
            split Left (eqb (number a) 6 || eqb (number a) 105) (λ _ _. plain_add n x q (session_of k) h (ended ∷ []) (plain_ended, tt) ∙ d)
            (λ _ c. absurd (clash (is_open (transaction x h)) open' c))

        one : (w : Told) → 100 ≤ number a → WhereGot (λ c v. v ≡ value_of a) w → Left (w ∷ [])
        one w _ _ c =
            test (ends w) (λ y. plain_add n x q (session_of k) h (w ∷ []) (plain_end w y, tt) ∙ d)
            (λ y. absurd (clash (is_open (transaction x (add q (session_of k) (w ∷ []) h))) (spared n x q (session_of k) h open' (w ∷ []) (y, tt)) c))

    by_call : is_open (transaction x g) ≡ false → committed n (transaction x g) ≡ eqb (number a) 105
    by_call c =
        same x.session (session_of k) (λ e. go e stage)
        (λ d. absurd (clash (is_open (transaction x g)) (ap is_open (another n x q (session_of k) h open' d (tells k a f)) ∙ open') c))
      where
        lasts : x.session ≡ session_of k → 3 ≤ (record_of σ x.session).phase → committed n (transaction x h) ≡ true → Spares k f a → committed n (transaction x g) ≡ eqb (number a) 105
        lasts e l d (inl w) = absurd (clash (is_open (transaction x g)) (spared n x q (session_of k) h open' (tells k a f) w) c)
        lasts e l d (inr y) =
            subst (λ (ws : List Told). committed n (transaction x (add q (session_of k) ws h)) ≡ true) (sym y.1)
            (plain_add n x q (session_of k) h (ended ∷ []) (plain_ended, tt) ∙ d)
            ∙ sym (eq-eqb (number a) 105 y.0)

        go : x.session ≡ session_of k → Stage → committed n (transaction x g) ≡ eqb (number a) 105
        go e (late l d) = lasts e l d (spares σ k f (subst (λ (s : ℕ). 3 ≤ (record_of σ s).phase) e l))
        go e (early l d) =
            test (eqb (number a) 105)
            (λ y.
            let r = rests σ k (subst (λ (s : ℕ). (record_of σ s).phase < 3) e l) (eqb-true (number a) 105 y) in
            let e' : x.session ≡ r.0 = e ∙ ap session_of r.1 in
            subst (λ (ws : List Told). committed n (transaction x (add q (session_of k) ws h)) ≡ true) (sym (sealed_told r.1 (eqb-true (number a) 105 y)))
            (seal_commits n x q (session_of k) h open' e (omega arith) (dry r.0 e' r.2 r.3 r.4 r.5))
            ∙ sym y)
            (λ z. left d z c ∙ sym z)

  -- many reads
  module _ (s : ℕ) (cs : List ℕ) (words : ℕ) where
    abbrev r : Reads
    r = read_many s cs words σ

    reads_end : is_open (transaction x (add q s (reads_tell cs r.values r.last) h)) ≡ false
        → committed n (transaction x (add q s (reads_tell cs r.values r.last) h)) ≡ eqb (number r.last) 105
    reads_end c =
        same x.session s (λ e. go e stage)
        (λ d. absurd (clash (is_open (transaction x (add q s ws h))) (ap is_open (another n x q s h open' d ws) ∙ open') c))
      where
        ws : List Told
        ws = reads_tell cs r.values r.last

        no_105 : eqb (number r.last) 105 ≡ false
        no_105 = kept_by_reads (λ _ a _. eqb (number a) 105 ≡ false) s (λ _ _ τ _ _ c. read_not_105 τ s c) cs words σ refl refl refl

        nothing : 3 ≤ (record_of σ s).phase → All (λ (w : Told). ends w ≡ false) ws
        nothing l =
            (kept_by_reads (λ ws _ τ. (τ ≡ σ) × All (λ (w : Told). ends w ≡ false) ws) s
            (λ ws _ τ _ p c.
            let m = late_read σ s c l in
            subst (λ (ρ : Store). (step (Read s c) ρ ≡ σ) × All (λ (w : Told). ends w ≡ false) (tells (Read s c) (answer_of (Read s c) ρ) 0 ++ ws)) (sym p.0) (m.1, rw m.0 p.1))
            cs words σ (refl, tt) (refl, tt) (refl, tt)).1

        go : x.session ≡ s → Stage → committed n (transaction x (add q s ws h)) ≡ eqb (number r.last) 105
        go e (late l d) = absurd (clash (is_open (transaction x (add q s ws h))) (spared n x q s h open' ws (nothing (subst (λ (s : ℕ). 3 ≤ (record_of σ s).phase) e l))) c)
        go e (early l d) = plain_add n x q s h ws (all_map (λ w b. plain_read b) ws (reads_by_read cs r.values r.last)) ∙ d ∙ sym no_105

  -- any action
  ends_one : (k : Action) → is_open (transaction x (history [] φ (k ∷ ks))) ≡ false → committed n (transaction x (history [] φ (k ∷ ks))) ≡ eqb (number (event_of k σ).answer) 105
  ends_one k c =
      let e = history_step [] φ k ks in
      subst (λ (g : List Item). committed n (transaction x g) ≡ eqb (number (event_of k σ).answer) 105) (sym e)
      (go k (subst (λ (g : List Item). is_open (transaction x g) ≡ false) e c))
    where
      go : (k : Action) → is_open (transaction x (add q (actor (event_of k σ).action) (tells_of (event_of k σ)) h)) ≡ false
          → committed n (transaction x (add q (actor (event_of k σ).action) (tells_of (event_of k σ)) h)) ≡ eqb (number (event_of k σ).answer) 105
      go (one_call k) c = by_call k (found_by k (step k σ)) c
      go (many_reads s cs words) c = reads_end s cs words c
      go (load_caps T) c = absurd (clash (is_open (transaction x h)) open' c)

-- from any start at which nothing is told
pub each_ends_from : {φ : Store} {T₀ : Ledger} → Ready φ [] T₀ → (ks : List Action) → EachEnds φ.lent.values (events φ ks)
unfolding events
each_ends_from R [] = tt
each_ends_from R (k ∷ ks) = (each_ends_from R ks, λ x b. ends_one R ks x b.0 k b.1)

-- any store that set-up answers 100, and any list of actions from what it leaves
pub each_ends : (σ : Store) → number (set_up_answer σ) ≡ 100 → (actions : List Action) → let φ = set_up σ in EachEnds φ.lent.values (events φ (reverse actions))
each_ends σ g actions =
    subst (λ (φ : Store). EachEnds φ.lent.values (events φ (reverse actions))) (sym (set_up_fresh σ g))
    (each_ends_from (ready (fresh σ.limits σ.lent) (inv_fresh σ.limits σ.lent)) (reverse actions))
