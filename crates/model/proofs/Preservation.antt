-- Every action keeps the invariant, so every run does.
use Prim.Native.Nat.{ℕ, suc, ◌≤◌, ◌<◌}
use native.Mathlib.Omega.{arith}
use mathlib.Core.Path.{◌≡◌, refl, sym, ◌∙◌, ap, subst}
use mathlib.Core.Bool.{Bool, true, false, cond, not, ◌&&◌, ◌||◌}
use mathlib.Core.Option.{none, some}
use mathlib.Core.List.{List, [], ◌∷◌, ◌++◌}
use lib.Dec.{leb, ltb, eqb}
use lib.ListN.{length, get_or}
use borrow.Author.Tests.{eqb-true, eqb-false, eq-eqb, ne_eqb, leb-true}
use Rattle.records.specs.declared.Call.{Call}
use Rattle.records.specs.declared.Call.TheVariants.{Begin, Read, Write, Seal, Advance, Abandon, Peek, Hold}
use Rattle.records.specs.declared.Answer.{Answer}
use Rattle.records.specs.declared.Answer.TheVariants.{Done, Refused}
use Rattle.records.specs.declared.Plan.{Plan}
use Rattle.records.specs.declared.Plan.TheVariants.{Refuse, Start, Enter, Update, EnterUpdate, Mark, EnterMark, Cancel, Acquire, Publish, Release}
use Rattle.model.specs.Buffers.{Store, size, idle, move_to, Entry, cell_at, entry_at, slot_in, is_published, target_in, current_of, lock_at, cap, has_caps}
use Rattle.model.specs.History.{Action, one_call, many_reads, load_caps, event, with_found, leaves, event_of}
use Rattle.model.specs.Isolation.{All}
use Rattle.model.specs.ManyReads.{read_many}
use Rattle.model.specs.Readers.{other_readers}
use Rattle.model.specs.Search.{some?, find, below, tally}
use Rattle.model.specs.Told.{Told, found_by, tells, ending, reads_tell}
use Rattle.model.specs.Plans.{record_fits, guard, known, claimed, read_slot, hold_slot, write_slot, write_capped, seal_target, promote_plan, advance_target, plan, admit, entries_fit}
use Rattle.model.specs.Effects.{rolled_back, handled, change, record_of, after, release_answer, answer, log_of}
use Rattle.model.specs.Step.{session_of, plan_of, step, answer_of}
use Rattle.model.proofs.Advancing.{target_some, target_none, more_open, holds_more, last_done, holds_last, waits, publishes_more, publishes_last, releases_more, releases_last}
use Rattle.model.proofs.Effects.{not_pending, slot_none, slot_some, replaced, amended, rolls, started, learns, ε, enter_phase, enter_look, enter_slot, enters, notes, marks}
use Rattle.model.proofs.Invariant.{Running, Promoting, Finishing, Inv, calms, recaps, ticks}
use Rattle.model.proofs.Loading.{load_cases}
use Rattle.model.proofs.Laws.{find_some, below_is, tally_flat, tally_more}
use Rattle.model.proofs.Ledger.{Txn, closed, saw, wrote_to, holds_to, sealed_at, advanced, Commit, Ledger, tick, calm, as_commit, amend, starts, hears, observe}
use Rattle.model.proofs.ManyReads.{ByRead, hears_after, kept_by_reads}
use Rattle.model.proofs.Passing.{choose, guarded, running_cell, cell_new}
use Rattle.model.proofs.Quiet.{Quiet, peeks}
use Rattle.model.proofs.Roles.{flip}
use Rattle.model.proofs.Sealing.{wrote_is, promotes, rests}
use Rattle.model.proofs.Tools.{split, test, which, nothing, clash, both_l, both_r, upd, upd_same, upd_twice}
use Rattle.model.proofs.View.{slot, look, written, target}

and_not : (b : Bool) → (b && not b) ≡ false
and_not true = refl
and_not false = refl

now_done : (a b : Bool) → a ≡ true → b ≡ false → (a && not b) ≡ true
now_done a b p q = rw (p, q)

not_now : (a b : Bool) → a ≡ false → (a && not b) ≡ false
not_now a b p = rw p

long_done : (a b : Bool) → b ≡ true → (a && not b) ≡ false
long_done true b q = rw q
long_done false b q = refl

cond_true {ℓ} : {A : Type ℓ} (b : Bool) (x y : A) → b ≡ true → cond b x y ≡ x
cond_true true x y h = refl
cond_true false x y h = absurd (clash false h refl)

cond_false {ℓ} : {A : Type ℓ} (b : Bool) (x y : A) → b ≡ false → cond b x y ≡ y
cond_false true x y h = absurd (clash true refl h)
cond_false false x y h = refl

either_r : (a b : Bool) → (a || b) ≡ true → a ≡ false → b ≡ true
either_r true b h k = absurd (clash true refl k)
either_r false b h k = h

neither_other : (a b : Bool) → (not a && not b) ≡ false → (a || b) ≡ true
neither_other true b h = refl
neither_other false true h = refl
neither_other false false h = absurd (clash true refl h)

-- ---- the ledger

module _ (s : ℕ) (f : Txn → Txn) (T : Ledger) (l : (T.mine s).live ≡ true) where
  abbrev made : Bool → Ledger
  made b = record { place = T.place; mine = upd T.mine s (f (T.mine s)); commits = cond b (as_commit s T.place (f (T.mine s)) ∷ T.commits) T.commits; new = b }

  -- of a ledger whose last call has made no commit
  amend_same : ((f (T.mine s)).done && not (T.mine s).done) ≡ false → amend s f (calm T) ≡ replaced s (f (T.mine s)) T
  unfolding amend
  amend_same d = cond_true (T.mine s).live _ _ l ∙ ap made d

  amend_commit : ((f (T.mine s)).done && not (T.mine s).done) ≡ true
      → amend s f (calm T) ≡ record { place = T.place; mine = upd T.mine s (f (T.mine s)); commits = as_commit s T.place (f (T.mine s)) ∷ T.commits; new = true }
  unfolding amend
  amend_commit d = cond_true (T.mine s).live _ _ l ∙ ap made d

-- the end, which commits nothing
amend_closed : (s : ℕ) (T : Ledger) → (T.mine s).live ≡ true → amend s closed T ≡ record { place = T.place; mine = upd T.mine s (closed (T.mine s)); commits = T.commits; new = T.new }
unfolding amend
amend_closed s T l = cond_true (T.mine s).live _ _ l ∙ go ((T.mine s).done && not (T.mine s).done) (and_not (T.mine s).done) T.new
  where
    go : (b : Bool) → b ≡ false → (w : Bool)
        → ◌≡◌ {A = Ledger}
        (record { place = T.place; mine = upd T.mine s (closed (T.mine s)); commits = cond b (as_commit s T.place (closed (T.mine s)) ∷ T.commits) T.commits; new = w || b })
        (record { place = T.place; mine = upd T.mine s (closed (T.mine s)); commits = T.commits; new = w })
    go true h w = absurd (clash true refl h)
    go false h true = refl
    go false h false = refl

-- a commit, and in the same call the end
amend_commit_closed : (s : ℕ) (u : Txn) (k : Commit) (T : Ledger) → u.live ≡ true
    → amend s closed (record { place = T.place; mine = upd T.mine s u; commits = k ∷ T.commits; new = true })
    ≡ record { place = T.place; mine = upd T.mine s (closed u); commits = k ∷ T.commits; new = true }
amend_commit_closed s u k T l =
    amend_closed s (record { place = T.place; mine = upd T.mine s u; commits = k ∷ T.commits; new = true }) (ap (λ (t : Txn). t.live) (upd_same T.mine s u) ∙ l)
    ∙ ap (λ (m : ℕ → Txn). record { place = T.place; mine = m; commits = k ∷ T.commits; new = true })
    (ap (λ (t : Txn). upd (upd T.mine s u) s (closed t)) (upd_same T.mine s u) ∙ upd_twice T.mine s u (closed u))

module _ {start : List ℕ} {σ : Store} {T : Ledger} (I : Inv start σ T) (s : ℕ) (k : record_fits (size σ.lent) (log_of σ s) (record_of σ s) ≡ true) where
  pub inside : ((record_of σ s).phase ≡ 0 → ⊥) → (c : ℕ) (e : Entry) → look σ s c ≡ some e → c < length start
  unfolding entries_fit record_fits size
  inside n c e h =
      let x = record_of σ s in
      let a = leb x.phase 4 in
      let m = leb x.count 32 in
      let w = below (length σ.lent.values) (cell_at (log_of σ s)) x.count in
      let b = eqb x.phase 0 || (m && w) in
      let u = both_r m w (either_r (eqb x.phase 0) (m && w) (both_r a b (both_l (a && b) (leb x.phase 1 || some? (target_in (log_of σ s) x.count x.next)) k)) (ne_eqb x.phase 0 n)) in
      which (find (cell_at (log_of σ s)) x.count c)
      (λ p. nothing (sym (slot_none σ s c (unfold slot slot_in in p)) ∙ h))
      (λ j p.
      let f = find_some (cell_at (log_of σ s)) c x.count p in
      let l = below_is (length σ.lent.values) (cell_at (log_of σ s)) x.count u j f.0 in
      omega (arith, f.1, I.shape.values))

  pub inside_wrote : ((record_of σ s).phase ≡ 0 → ⊥) → (c : ℕ) → written σ s c ≡ true → c < length start
  unfolding written
  inside_wrote n c w = which (look σ s c) (λ p. absurd (clash (is_published (look σ s c)) w (rw p))) (λ e p. inside n c e p)

  pub phase_le : (record_of σ s).phase ≤ 4
  unfolding entries_fit record_fits
  phase_le =
      let x = record_of σ s in
      let a = leb x.phase 4 in
      let b = eqb x.phase 0 || (leb x.count 32 && below (size σ.lent) (cell_at (log_of σ s)) x.count) in
      leb-true x.phase 4 (both_l a b (both_l (a && b) (leb x.phase 1 || some? (target_in (log_of σ s) x.count x.next)) k))

-- ---- a handled cell

module _ (σ : Store) (s c : ℕ) where
  handled_more : {d p : ℕ} → target σ s (suc c) ≡ some d → (record_of σ s).phase ≡ p → handled (log_of σ s) c (record_of σ s) ≡ move_to p (suc c) (record_of σ s)
  unfolding handled target
  handled_more h ph = rw h (ap (λ (p : ℕ). move_to p (suc c) (record_of σ s)) ph)

  handled_rise : {p : ℕ} → target σ s (suc c) ≡ none → (record_of σ s).phase ≡ p → (p ≡ 4 → ⊥) → handled (log_of σ s) c (record_of σ s) ≡ move_to (suc p) 0 (record_of σ s)
  unfolding handled target
  handled_rise {p} h ph n =
      rw h (cond_false (eqb (record_of σ s).phase 4) _ _ (ne_eqb (record_of σ s).phase 4 (λ e. n (sym ph ∙ e))) ∙ ap (λ (p : ℕ). move_to (suc p) 0 (record_of σ s)) ph)

  handled_idle : target σ s (suc c) ≡ none → (record_of σ s).phase ≡ 4 → handled (log_of σ s) c (record_of σ s) ≡ idle
  unfolding handled target
  handled_idle h ph = rw h (cond_true (eqb (record_of σ s).phase 4) _ _ (eq-eqb (record_of σ s).phase 4 ph))

-- ---- the calls

module _ {first : List ℕ} {σ : Store} {T : Ledger} (I : Inv first σ T) where
  abbrev InvKept : Call → Plan → Type 0
  InvKept k p = Inv first (after (session_of k) p σ) (observe (length first) (with_found (found_by k (after (session_of k) p σ)) (event k (answer (session_of k) p σ))) T)

  -- a read, which other reads may follow at its place
  abbrev ReadKept : ℕ → ℕ → Plan → Type 0
  ReadKept s c p = Inv first (after s p σ) (hears (length first) s (tells (Read s c) (answer s p σ) 0) (calm T))

  -- a call that tells nothing
  stays : Inv first σ (tick (calm T))
  stays = ticks (calms I)

  roll_back : (s : ℕ) → s < 16 → (T.mine s).live ≡ true → ((record_of σ s).phase ≡ 3 → ⊥)
      → Inv first (change σ s (rolled_back (log_of σ s) (record_of σ s).count s σ.lent.locks) σ.lent.values σ.lent.logs idle) (amend s closed (calm T))
  roll_back s lt l n = rw (amend_same s closed T l (and_not (T.mine s).done)) (rolls s lt I (λ c. not_pending σ s c n) (closed (T.mine s)) refl)

  keep_begin : (s : ℕ) → InvKept (Begin s) (plan_of (Begin s) σ)
  unfolding plan_of plan observe tells ending after answer starts
  keep_begin s =
      guarded (InvKept (Begin s)) σ.lent s (record_of σ s) (eqb (record_of σ s).phase 0) Start stays stays stays stays
      (λ lt k h. started s lt I (eqb-true (record_of σ s).phase 0 h))

  keep_abandon : (s : ℕ) → InvKept (Abandon s) (plan_of (Abandon s) σ)
  unfolding plan_of plan observe tells ending after answer
  keep_abandon s =
      guarded (InvKept (Abandon s)) σ.lent s (record_of σ s) (eqb (record_of σ s).phase 1 || eqb (record_of σ s).phase 2) Cancel stays stays stays stays
      (λ lt k h.
      test (eqb (record_of σ s).phase 1)
      (λ q. let ph = eqb-true (record_of σ s).phase 1 q in let r : Running (look σ s) (T.mine s) = rw ph at (I.link s) in ticks (roll_back s lt r.live (λ e. omega (arith, ph, e))))
      (λ q.
      let ph = eqb-true (record_of σ s).phase 2 (either_r (eqb (record_of σ s).phase 1) (eqb (record_of σ s).phase 2) h q) in
      let r : Promoting first T.commits T.place (record_of σ s).next (look σ s) (T.mine s) = rw ph at (I.link s) in
      ticks (roll_back s lt r.live (λ e. omega (arith, ph, e)))))

  -- a call of a running session on a cell: 7, 1, 9, 2 and 3 leave all as before
  on_cell : (P : Plan → Type 0) (s c : ℕ) (p : Plan) → P (Refuse 7) → P (Refuse 1) → P (Refuse 9) → P (Refuse 2) → P (Refuse 3)
      → (s < 16 → (record_of σ s).phase ≡ 1 → c < length first → P p)
      → P (admit σ.lent s (guard (size σ.lent) (log_of σ s) (record_of σ s) (eqb (record_of σ s).phase 1) (known (size σ.lent) c p)))
  unfolding size
  on_cell P s c p r7 r1 r9 r2 r3 f = running_cell P σ.lent s (record_of σ s) c p r7 r1 r9 r2 r3 (λ lt ph l. f lt ph (omega (arith, I.shape.values)))

  keep_quiet : (k : Call) (p : Plan) → Quiet k σ p → InvKept k p
  unfolding observe
  keep_quiet k p q = rw (q.told _, q.left) stays

  pub runs : (s : ℕ) → (record_of σ s).phase ≡ 1 → Running (look σ s) (T.mine s)
  runs s ph = rw ph at (I.link s)

  -- before the next place
  keep_read : (s c : ℕ) → ReadKept s c (plan_of (Read s c) σ)
  unfolding plan_of plan tells ending after answer read_slot slot
  keep_read s c =
      let still : Inv first σ (calm T) = calms I in
      on_cell (ReadKept s c) s c (read_slot (log_of σ s) (record_of σ s) (lock_at σ.lent.locks c) c (slot_in (log_of σ s) (record_of σ s).count c)) still still still still still
      (λ lt ph lc.
      let r = runs s ph in
      choose (ReadKept s c) (read_slot (log_of σ s) (record_of σ s) (lock_at σ.lent.locks c) c) (slot σ s c)
      (λ p. cell_new (ReadKept s c) (record_of σ s) (lock_at σ.lent.locks c) (Enter c) still (λ _. roll_back s lt r.live (λ e. omega (arith, ph, e)))
      (λ room cl.
      rw (amend_same s (saw c (get_or σ.lent.values c 0)) T r.live (and_not (T.mine s).done))
      (learns s lt (enters s lt I c ph p room lc cl) c _ (enter_phase s lt I c ph p room) (enter_look s lt I c ph p room))))
      (λ j p.
      rw (amend_same s (saw c (entry_at (log_of σ s) j).current) T r.live (and_not (T.mine s).done))
      (learns s lt I c (entry_at (log_of σ s) j) ph (slot_some σ s c p))))

  keep_write : (s c v : ℕ) → InvKept (Write s c v) (plan_of (Write s c v) σ)
  unfolding plan_of plan observe tells ending after answer write_capped write_slot slot
  keep_write s c v =
      let k = get_or σ.lent.classes c 0 in
      split (InvKept (Write s c v)) (has_caps σ.limits.caps)
      (λ _. on_cell (InvKept (Write s c v)) s c (cond (ltb k 16) (write_capped (log_of σ s) (record_of σ s) (lock_at σ.lent.locks c) c v (cap σ.limits.caps k)) (Refuse 8)) stays stays stays stays stays
      (λ lt ph lc.
      let r = runs s ph in
      split (InvKept (Write s c v)) (ltb k 16)
      (λ _. split (InvKept (Write s c v)) (leb v (cap σ.limits.caps k))
      (λ _. choose (InvKept (Write s c v)) (write_slot (record_of σ s) (lock_at σ.lent.locks c) c v) (slot σ s c)
      (λ p. cell_new (InvKept (Write s c v)) (record_of σ s) (lock_at σ.lent.locks c) (EnterUpdate c v) stays (λ _. ticks (roll_back s lt r.live (λ e. omega (arith, ph, e))))
      (λ room cl.
      rw (amend_same s (wrote_to c v (found_by (Write s c v) (after s (EnterUpdate c v) σ))) T r.live (and_not (T.mine s).done))
      (notes s lt (enters s lt I c ph p room lc cl) c (record_of σ s).count v (enter_phase s lt I c ph p room) (enter_slot s lt I c ph p room)).1))
      (λ j p. rw (amend_same s (wrote_to c v (found_by (Write s c v) (after s (Update j v) σ))) T r.live (and_not (T.mine s).done)) (notes s lt I c j v ph p).1))
      (λ _. stays))
      (λ _. stays)))
      (λ _. stays)

  -- a hold of known and of new cells
  keep_hold : (s c : ℕ) → InvKept (Hold s c) (plan_of (Hold s c) σ)
  unfolding plan_of plan observe tells ending after answer hold_slot slot
  keep_hold s c =
      on_cell (InvKept (Hold s c)) s c (hold_slot (log_of σ s) (record_of σ s) (lock_at σ.lent.locks c) c (slot_in (log_of σ s) (record_of σ s).count c)) stays stays stays stays stays
      (λ lt ph lc.
      let r = runs s ph in
      choose (InvKept (Hold s c)) (hold_slot (log_of σ s) (record_of σ s) (lock_at σ.lent.locks c) c) (slot σ s c)
      (λ p. cell_new (InvKept (Hold s c)) (record_of σ s) (lock_at σ.lent.locks c) (EnterMark c) stays (λ _. ticks (roll_back s lt r.live (λ e. omega (arith, ph, e))))
      (λ room cl.
      let f = found_by (Hold s c) (after s (EnterMark c) σ) in
      let e = ap current_of (sym (slot_some (ε s lt I c ph p room) s c (enter_slot s lt I c ph p room)) ∙ enter_look s lt I c ph p room) in
      rw (amend_same s (λ t. saw c (get_or σ.lent.values c 0) (holds_to c f t)) T r.live (and_not (T.mine s).done))
      (subst (λ (v : ℕ). Inv first (after s (EnterMark c) σ) (amended s (saw c v (holds_to c f (T.mine s))) T)) e
      (marks s lt (enters s lt I c ph p room lc cl) c (record_of σ s).count (enter_phase s lt I c ph p room) (enter_slot s lt I c ph p room)).1)))
      (λ j p.
      rw (amend_same s (λ t. saw c (entry_at (log_of σ s) j).current (holds_to c (found_by (Hold s c) (after s (Mark j (entry_at (log_of σ s) j).current) σ)) t)) T r.live (and_not (T.mine s).done))
      (marks s lt I c j ph p).1))

  -- a seal that finds no cell that publishes
  none_targeted : (s : ℕ) → target σ s 0 ≡ none → (c : ℕ) → written σ s c ≡ false
  none_targeted s p c = flip (written σ s c) (λ w. omega (arith, target_none σ s 0 p c w))

  pub none_written : (s : ℕ) → s < 16 → (record_of σ s).phase ≡ 1 → ((c : ℕ) (e : Entry) → look σ s c ≡ some e → c < length first) → target σ s 0 ≡ none
      → tally (T.mine s).wrote (length first) ≡ 0
  unfolding tally
  none_written s lt ph ins p = tally_flat (T.mine s).wrote 0 (length first) (omega arith) (λ c _ _. wrote_is s lt I ph ins c ∙ none_targeted s p c)

  keep_seal : (s : ℕ) → InvKept (Seal s) (plan_of (Seal s) σ)
  unfolding plan_of plan observe tells ending after answer target seal_target
  keep_seal s =
      guarded (InvKept (Seal s)) σ.lent s (record_of σ s) (eqb (record_of σ s).phase 1) (seal_target (target_in (log_of σ s) (record_of σ s).count 0)) stays stays stays stays
      (λ lt k h.
      let ph = eqb-true (record_of σ s).phase 1 h in
      let r = runs s ph in
      let non : (record_of σ s).phase ≡ 0 → ⊥ = λ e. omega arith in
      let ins = inside I s k non in
      choose (InvKept (Seal s)) seal_target (target σ s 0)
      (λ p.
      let d : ((sealed_at (length first) T.place (T.mine s)).done && not (T.mine s).done) ≡ true = rw (eq-eqb (tally (T.mine s).wrote (length first)) 0 (none_written s lt ph ins p), r.open') in
      rw (amend_commit s (sealed_at (length first) T.place) T r.live d)
      (rw (amend_commit_closed s (sealed_at (length first) T.place (T.mine s)) (as_commit s T.place (sealed_at (length first) T.place (T.mine s))) T r.live) (rests s lt I ph ins (none_targeted s p))))
      (λ c p.
      let w = (target_some σ s 0 p).1 in
      let lc = inside_wrote I s k non c w in
      rw (amend_same s (sealed_at (length first) T.place) T r.live
      (rw (ne_eqb (tally (T.mine s).wrote (length first)) 0
      (λ e. omega (arith, tally_more (T.mine s).wrote 0 (length first) c (omega arith) lc (wrote_is s lt I ph ins c ∙ w))))))
      (promotes s lt I ph ins c lc w)))

  module _ (s : ℕ) (lt : s < 16) (k : record_fits (size σ.lent) (log_of σ s) (record_of σ s) ≡ true) (late' : 2 ≤ (record_of σ s).phase) (c : ℕ) (tgt : target σ s (record_of σ s).next ≡ some c) where
    ins : (c : ℕ) → written σ s c ≡ true → c < length first
    ins = inside_wrote I s k (λ e. omega arith)

    abbrev D : Bool
    D = (advanced (length first) T.place (T.mine s)).done

    keep_acquire : (record_of σ s).phase ≡ 2 → other_readers s (lock_at σ.lent.locks c).readers ≡ 0 → InvKept (Advance s) (Acquire c)
    unfolding observe tells ending after answer
    keep_acquire ph al =
        let r : Promoting first T.commits T.place (record_of σ s).next (look σ s) (T.mine s) = rw ph at (I.link s) in
        which (target σ s (suc c))
        (λ p.
        rw (handled_rise σ s c p ph (λ e. omega arith))
        (rw (amend_commit s (advanced (length first) T.place) T r.live (now_done D (T.mine s).done (last_done s lt I ins c tgt ph al p) r.open'))
        (holds_last s lt I ins c tgt ph al p)))
        (λ d p.
        rw (handled_more σ s c p ph)
        (rw (amend_same s (advanced (length first) T.place) T r.live (not_now D (T.mine s).done (more_open s lt I ins c tgt ph al p)))
        (holds_more s lt I ins c tgt ph al p)))

    module _ (r : Finishing (T.mine s)) where
      on_103 : amend s (advanced (length first) T.place) (calm T) ≡ replaced s (advanced (length first) T.place (T.mine s)) T
      on_103 = amend_same s (advanced (length first) T.place) T r.live (long_done D (T.mine s).done r.done)

      keep_publish : (record_of σ s).phase ≡ 3 → InvKept (Advance s) (Publish c (current_of (look σ s c)))
      unfolding observe tells ending after answer
      keep_publish ph =
          which (target σ s (suc c))
          (λ p. rw (handled_rise σ s c p ph (λ e. omega arith)) (rw on_103 (publishes_last s lt I ins c tgt r ph p)))
          (λ d p. rw (handled_more σ s c p ph) (rw on_103 (publishes_more s lt I ins c tgt r ph)))

      keep_release : (record_of σ s).phase ≡ 4 → InvKept (Advance s) (Release c)
      unfolding observe tells ending after answer release_answer target
      keep_release ph =
          which (target σ s (suc c))
          (λ p. rw (handled_idle σ s c p ph) (rw p (rw (amend_same s closed T r.live (and_not (T.mine s).done)) (releases_last s lt I ins c tgt r ph p))))
          (λ d p. rw (handled_more σ s c p ph) (rw p (rw on_103 (releases_more s lt I ins c tgt r ph))))

  keep_advance : (s : ℕ) → InvKept (Advance s) (plan_of (Advance s) σ)
  unfolding plan_of plan observe tells ending after answer advance_target promote_plan claimed target
  keep_advance s =
      guarded (InvKept (Advance s)) σ.lent s (record_of σ s) (leb 2 (record_of σ s).phase) (advance_target s (log_of σ s) (record_of σ s) (lock_at σ.lent.locks) (target_in (log_of σ s) (record_of σ s).count (record_of σ s).next)) stays stays stays stays
      (λ lt k h.
      let two = leb-true 2 (record_of σ s).phase h in
      choose (InvKept (Advance s)) (advance_target s (log_of σ s) (record_of σ s) (lock_at σ.lent.locks)) (target σ s (record_of σ s).next) (λ _. stays)
      (λ c tgt.
      split (InvKept (Advance s)) (eqb (record_of σ s).phase 2)
      (λ q.
      let ph = eqb-true (record_of σ s).phase 2 q in
      let r : Promoting first T.commits T.place (record_of σ s).next (look σ s) (T.mine s) = rw ph at (I.link s) in
      let l = lock_at σ.lent.locks c in
      split (InvKept (Advance s)) (not (eqb l.claimant 16) && not (eqb l.claimant s))
      (λ _. ticks (roll_back s lt r.live (λ e. omega (arith, ph, e))))
      (λ cl. split (InvKept (Advance s)) (eqb (other_readers s l.readers) 0)
      (λ z. keep_acquire s lt k two c tgt ph (eqb-true (other_readers s l.readers) 0 z))
      (λ _. waits s lt I (ins s lt k two c tgt) c tgt ph (neither_other (eqb l.claimant 16) (eqb l.claimant s) cl))))
      (λ q. split (InvKept (Advance s)) (eqb (record_of σ s).phase 3)
      (λ q'. let ph = eqb-true (record_of σ s).phase 3 q' in unfold look in keep_publish s lt k two c tgt (rw ph at (I.link s)) ph)
      (λ q'.
      let a = eqb-false (record_of σ s).phase 2 q in
      let b = eqb-false (record_of σ s).phase 3 q' in
      let ph : (record_of σ s).phase ≡ 4 = omega (arith, phase_le I s k) in
      keep_release s lt k two c tgt (rw ph at (I.link s)) ph))))

  keep_call : (k : Call) → InvKept k (plan_of k σ)
  unfolding plan_of
  keep_call (Begin s) = keep_begin s
  keep_call (Read s c) = unfold observe in ticks (keep_read s c)
  keep_call (Write s c v) = keep_write s c v
  keep_call (Seal s) = keep_seal s
  keep_call (Advance s) = keep_advance s
  keep_call (Abandon s) = keep_abandon s
  keep_call (Peek s c) = keep_quiet (Peek s c) _ (peeks σ s c)
  keep_call (Hold s c) = keep_hold s c

-- ---- the actions

module _ {first : List ℕ} {σ : Store} {T : Ledger} (I : Inv first σ T) where
  abbrev heard_by : ℕ → List Told → Ledger
  heard_by s ws = hears (length first) s ws (calm T)

  -- kept by the reads of one call: the invariant; and a claim of what was told, the last answer and the ledger, which each single read keeps where the invariant holds
  pub kept_with_inv : (s : ℕ) (P : List Told → Answer → Ledger → Type 0)
      → ((ws : List Told) (a : Answer) (τ : Store) → All ByRead ws → Inv first τ (heard_by s ws) → P ws a (heard_by s ws) → (c : ℕ) → let b = answer_of (Read s c) τ in
      P (tells (Read s c) b 0 ++ ws) b (hears (length first) s (tells (Read s c) b 0) (calm (heard_by s ws))))
      → (cs : List ℕ) (words : ℕ) → P [] (Refused 15) (calm T) → P [] (Refused 13) (calm T) → P [] Done (calm T) → let r = read_many s cs words σ in
      let ws = reads_tell cs r.values r.last in Inv first r.store (heard_by s ws) × P ws r.last (heard_by s ws)
  unfolding step answer_of
  kept_with_inv s P more cs words r15 r13 p =
      kept_by_reads (λ ws a τ. Inv first τ (heard_by s ws) × P ws a (heard_by s ws)) s
      (λ ws a τ b H c.
      let us = tells (Read s c) (answer_of (Read s c) τ) 0 in
      subst (λ (U : Ledger). Inv first (step (Read s c) τ) U × P (us ++ ws) (answer_of (Read s c) τ) U) (hears_after (length first) s us ws T b)
      (keep_read H.0 s c, more ws a τ b H.0 H.1 c))
      cs words σ (calms I, r15) (calms I, r13) (calms I, p)

  pub keep : (k : Action) → Inv first (leaves k σ) (observe (length first) (event_of k σ) T)
  unfolding step answer_of observe
  keep (one_call k) = keep_call I k
  keep (many_reads s cs words) = ticks (kept_with_inv s (λ _ _ _. Unit {0}) (λ _ _ _ _ _ _ _. tt) cs words tt tt tt).0
  keep (load_caps caps) = let J = calms I in ticks (load_cases (λ _ τ. Inv first τ (calm T)) caps σ (λ _. recaps caps J) J J J J J)
