-- Each action meets the serial store's step: an action on a store whose ledger the serial store follows is answered as the serial store has it, and the
-- serial store goes on to follow. By the plan of each call: each plan's answer is one piece of news, and nobody else is in the way of any.
use Prim.Native.Nat.{ℕ, suc, ◌<◌}
use native.Mathlib.Omega.{arith}
use mathlib.Core.Path.{◌≡◌, refl, sym, ◌∙◌}
use mathlib.Core.Bool.{Bool, true, false, cond, not, ◌&&◌, ◌||◌}
use mathlib.Core.Option.{none, some}
use mathlib.Core.List.{List, [], ◌∷◌}
use lib.Dec.{leb, ltb, eqb}
use lib.ListN.{length, get_or}
use borrow.Author.Tests.{eqb-true, eqb-false, eq-eqb, leb-true, not-true}
use Rattle.records.specs.declared.Call.{Call}
use Rattle.records.specs.declared.Call.TheVariants.{Begin, Read, Write, Seal, Advance, Abandon, Peek, Hold}
use Rattle.records.specs.declared.Answer.{Answer}
use Rattle.records.specs.declared.Answer.TheVariants.{Done, Value, Sealed, Moved, Committed, Refused}
use Rattle.records.specs.declared.Plan.{Plan}
use Rattle.records.specs.declared.Plan.TheVariants.{Refuse, Start, Enter, EnterUpdate, EnterMark, Cancel}
use Rattle.model.specs.Buffers.{Store, size, entry_at, slot_in, target_in, on_log, updated, marked, lock_at, cap, has_caps}
use Rattle.model.specs.History.{Action, one_call, many_reads, load_caps, actor, Event, event, with_found, reads_event, load_event, tells_of, event_of}
use Rattle.model.specs.Isolation.{All}
use Rattle.model.specs.ManyReads.{read_many}
use Rattle.model.specs.Serial.{Serial, drafted, drafted_by, serial_step, Undisturbed}
use Rattle.model.specs.Readers.{other_readers}
use Rattle.model.specs.Search.{some?, tally}
use Rattle.model.specs.Plans.{record_fits, guard, known, claimed, new_cell, read_slot, hold_slot, write_slot, write_capped, seal_target, promote_plan, advance_target, plan, admit}
use Rattle.model.specs.Effects.{number, record_of, release_answer, answer, after, change_logs, log_of}
use Rattle.model.specs.Step.{session_of, plan_of, step, answer_of}
use Rattle.model.specs.Told.{Told, ending, found_by, tells, begins, WhereGot}
use Rattle.model.proofs.Advancing.{target_some}
use Rattle.model.proofs.Effects.{slot_some, running_role, enters, enter_phase, enter_slot, notes, marks}
use Rattle.model.proofs.Invariant.{latest, all_append, Promoting, Finishing, Inv}
use Rattle.model.proofs.Ledger.{closed, saw, sealed_at, advanced, Ledger, calm, starts, hears, observe}
use Rattle.model.proofs.Loading.{load_cases}
use Rattle.model.proofs.ManyReads.{ByRead, value, end, read_by_read, reads_by_read}
use Rattle.model.proofs.Passing.{choose, guarded, running_cell, cell_new}
use Rattle.model.proofs.Preservation.{inside, inside_wrote, phase_le, runs, none_written, kept_with_inv}
use Rattle.model.proofs.Quiet.{Quiet, refuses, peeks}
use Rattle.model.proofs.Roles.{flip}
use Rattle.model_claims.proofs.SerialLedger.{overlay, Follows, follows_tick, follows_calm, follows_rest, follows_start, follows_on, follows_commit, follows_end, follows_write, follows_hold}
use Rattle.model_claims.proofs.SerialLocks.{unlogged_out, no_readers, own_claim, reads_store, reads_entry, holds_value}
use Rattle.model.proofs.Tools.{split, test, clash, both_l, both_r}
use Rattle.model.proofs.View.{slot, look, target}

-- an event, where the serial store z follows the ledger T: it goes on to follow, nobody was in the way, and a value got is the draft's
pub record Serially (start : List ℕ) (T : Ledger) (z : Serial) (e : Event) : Type 0 where
  pub follows : Follows start (observe (length start) e T) (serial_step e z)
  pub undisturbed : Undisturbed e.answer
  pub read : All (WhereGot (λ c v. v ≡ get_or z.draft c 0)) (tells_of e)

-- an answer neither 6 nor 104
module _ {start : List ℕ} {T : Ledger} {z : Serial} (k : Call) (a : Answer) {f : ℕ} where
  answered : eqb (number a) 6 ≡ false → eqb (number a) 104 ≡ false → All (WhereGot (λ c v. v ≡ get_or z.draft c 0)) (tells k a f)
      → let e = with_found f (event k a) in Follows start (observe (length start) e T) (serial_step e z) → Serially start T z e
  answered x y r h = record { follows = h; undisturbed = (eqb-false (number a) 6 x, eqb-false (number a) 104 y); read = r }

-- the value found in a cell that a running session writes or holds is the last committed
module _ {start : List ℕ} {σ : Store} {T : Ledger} (s : ℕ) (lt : s < 16) (I : Inv start σ T) (c k : ℕ) (ph : (record_of σ s).phase ≡ 1) (h : slot σ s c ≡ some k) (lc : c < length start) where
  entry_latest : (entry_at (log_of σ s) k).snapshot ≡ latest start T.commits c
  entry_latest = (I.valued c lc).fresh s (entry_at (log_of σ s) k).snapshot (running_role σ s c (entry_at (log_of σ s) k) ph (slot_some σ s c h))

  found_latest : (v : ℕ) → found_by (Write s c v) (change_logs σ (on_log s (λ log. updated log k v) σ.lent.logs)) ≡ latest start T.commits c
  found_latest v = (notes s lt I c k v ph h).0 ∙ entry_latest

  held_latest : found_by (Hold s c) (change_logs σ (on_log s (λ log. marked log k) σ.lent.logs)) ≡ latest start T.commits c
  held_latest = (marks s lt I c k ph h).0 ∙ entry_latest

-- reads, which others may follow at their place: the ledger then, what they told, and the last answer
record Reading (start : List ℕ) (U : Ledger) (z : Serial) (ws : List Told) (a : Answer) : Type 0 where
  follows : Follows start U z
  undisturbed : Undisturbed a
  not_105 : eqb (number a) 105 ≡ false
  read : All (WhereGot (λ c v. v ≡ get_or z.draft c 0)) ws

-- they leave the serial store as it is
drafted_reads : (ws : List Told) (z : Serial) → All ByRead ws → drafted_by ws z ≡ z
drafted_reads [] z a = refl
drafted_reads (w ∷ ws) z a = single w (drafted_by ws z) a.0 ∙ drafted_reads ws z a.1
  where
    single : (w : Told) (z : Serial) → ByRead w → drafted w z ≡ z
    single w z (value c v) = refl
    single w z end = refl

reads_serially : {start : List ℕ} {T : Ledger} {z : Serial} (e : Event) → All ByRead (tells_of e)
    → Reading start (hears (length start) (actor e.action) (tells_of e) (calm T)) z (tells_of e) e.answer → Serially start T z e
unfolding observe serial_step
reads_serially {z} e b r =
    record { follows = rw (r.not_105, drafted_reads (tells_of e) z b) (follows_tick r.follows); undisturbed = r.undisturbed; read = r.read }

module _ {start : List ℕ} {σ : Store} {T : Ledger} {z : Serial} (I : Inv start σ T) (F : Follows start T z) where
  G : Follows start (calm T) z
  G = follows_calm F

  abbrev Fine : Call → Plan → Type 0
  Fine k p = Serially start T z (with_found (found_by k (after (session_of k) p σ)) (event k (answer (session_of k) p σ)))

  abbrev ReadFine : ℕ → ℕ → Plan → Type 0
  ReadFine s c p = let ws = tells (Read s c) (answer s p σ) 0 in Reading start (hears (length start) s ws (calm T)) z ws (answer s p σ)

  -- ---- what tells nothing

  quiet : (k : Call) (p : Plan) → Quiet k σ p → Fine k p
  unfolding observe serial_step
  quiet k p q = answered k (answer (session_of k) p σ) q.not_6 q.not_104 (rw (q.told _) tt) (rw (q.told _, q.not_105) (follows_tick G))

  refused : (r : ℕ) → (ltb r 100 && not (eqb r 6)) ≡ true → (k : Call) → Fine k (Refuse r)
  refused r small k = quiet k (Refuse r) (refuses k σ r small)

  -- a call that the guard lets pass; one on a cell, of a running session
  passing : (k : Call) (fits : Bool) (p : Plan) → let s = session_of k in
      (s < 16 → record_fits (size σ.lent) (log_of σ s) (record_of σ s) ≡ true → fits ≡ true → Fine k p) → Fine k (admit σ.lent s (guard (size σ.lent) (log_of σ s) (record_of σ s) fits p))
  passing k fits p f =
      guarded (Fine k) σ.lent (session_of k) (record_of σ (session_of k)) fits p (refused 7 refl k) (refused 1 refl k) (refused 9 refl k) (refused 2 refl k) f

  on_cell : (P : Plan → Type 0) → ((r : ℕ) → (ltb r 100 && not (eqb r 6)) ≡ true → P (Refuse r)) → (s c : ℕ) (p : Plan)
      → (s < 16 → (record_of σ s).phase ≡ 1 → c < length start → P p) → P (admit σ.lent s (guard (size σ.lent) (log_of σ s) (record_of σ s) (eqb (record_of σ s).phase 1) (known (size σ.lent) c p)))
  unfolding size
  on_cell P r s c p f =
      running_cell P σ.lent s (record_of σ s) c p (r 7 refl) (r 1 refl) (r 9 refl) (r 2 refl) (r 3 refl) (λ lt ph l. f lt ph (omega (arith, I.shape.values)))

  -- ---- one session has a transaction open

  alone : (s : ℕ) → (T.mine s).live ≡ true → (u : ℕ) → (u ≡ s → ⊥) → (T.mine u).live ≡ false
  alone s l u n = flip (T.mine u).live (λ h. n (F.alone s u l h))

  -- a new cell of a running session: nobody claims it
  on_new : (P : Plan → Type 0) → P (Refuse 5) → (s c : ℕ) (p : Plan)
      → (record_of σ s).phase ≡ 1 → c < length start → slot σ s c ≡ none → ((record_of σ s).count < 32 → (lock_at σ.lent.locks c).claimant ≡ 16 → P p) → P (new_cell (record_of σ s) (lock_at σ.lent.locks c) p)
  on_new P r5 s c p ph lc new f =
      let a = alone s (runs I s ph).live in
      cell_new P (record_of σ s) (lock_at σ.lent.locks c) p r5
      (λ n. absurd ((own_claim I s a c lc n).1 (unlogged_out σ s c new))) f

  read_refused : (s c r : ℕ) → (ltb r 100 && not (eqb r 6)) ≡ true → ReadFine s c (Refuse r)
  read_refused s c r small =
      let q = refuses (Read s c) σ r small in
      let a = answer s (Refuse r) σ in
      record { follows = rw (q.told 0) G; undisturbed = (eqb-false (number a) 6 q.not_6, eqb-false (number a) 104 q.not_104); not_105 = q.not_105; read = rw (q.told 0) tt }

  read_fine : (s c : ℕ) → ReadFine s c (plan_of (Read s c) σ)
  unfolding plan_of plan read_slot answer tells ending slot
  read_fine s c =
      on_cell (ReadFine s c) (read_refused s c) s c (read_slot (log_of σ s) (record_of σ s) (lock_at σ.lent.locks c) c (slot_in (log_of σ s) (record_of σ s).count c))
      (λ _ ph lc.
      let a = alone s (runs I s ph).live in
      choose (ReadFine s c) (read_slot (log_of σ s) (record_of σ s) (lock_at σ.lent.locks c) c) (slot σ s c)
      (λ p. on_new (ReadFine s c) (read_refused s c 5 refl) s c (Enter c) ph lc p (λ _ _. told ph lc (get_or σ.lent.values c 0) (reads_store I s a c lc ph p)))
      (λ j p. told ph lc (entry_at (log_of σ s) j).current (reads_entry I s a c lc ph (entry_at (log_of σ s) j) (slot_some σ s c p))))
    where
      told : (record_of σ s).phase ≡ 1 → c < length start → (v : ℕ) → v ≡ overlay (T.mine s) (latest start T.commits) c → let ws = tells (Read s c) (Value v) 0 in
          Reading start (hears (length start) s ws (calm T)) z ws (Value v)
      told ph lc v e =
          let r = runs I s ph in
          record {
            follows = follows_on G s r.live (saw c v) r.live refl refl (λ d. d);
            undisturbed = (λ e. omega arith, λ e. omega arith);
            not_105 = refl;
            read = (e ∙ sym ((F.works s r.live).draft r.open' c lc), tt);
          }

  write_fine : (s c v : ℕ) → Fine (Write s c v) (plan_of (Write s c v) σ)
  unfolding plan_of plan write_capped write_slot answer after observe tells ending serial_step slot
  write_fine s c v =
      let k = get_or σ.lent.classes c 0 in
      split (Fine (Write s c v)) (has_caps σ.limits.caps)
      (λ _. on_cell (Fine (Write s c v)) (λ r small. refused r small (Write s c v)) s c (cond (ltb k 16) (write_capped (log_of σ s) (record_of σ s) (lock_at σ.lent.locks c) c v (cap σ.limits.caps k)) (Refuse 8))
      (λ lt ph lc.
      split (Fine (Write s c v)) (ltb k 16)
      (λ _. split (Fine (Write s c v)) (leb v (cap σ.limits.caps k))
      (λ _. choose (Fine (Write s c v)) (write_slot (record_of σ s) (lock_at σ.lent.locks c) c v) (slot σ s c)
      (λ p. on_new (Fine (Write s c v)) (refused 5 refl (Write s c v)) s c (EnterUpdate c v) ph lc p
      (λ room cl. wrote ph lc _ (found_latest s lt (enters s lt I c ph p room lc cl) c (record_of σ s).count (enter_phase s lt I c ph p room) (enter_slot s lt I c ph p room) lc v)))
      (λ j p. wrote ph lc _ (found_latest s lt I c j ph p lc v)))
      (λ _. refused 4 refl (Write s c v)))
      (λ _. refused 8 refl (Write s c v))))
      (λ _. refused 7 refl (Write s c v))
    where
      wrote : (record_of σ s).phase ≡ 1 → c < length start → (f : ℕ) → f ≡ latest start T.commits c → Serially start T z (with_found f (event (Write s c v) Done))
      wrote ph lc f e = let r = runs I s ph in answered (Write s c v) Done refl refl (tt, tt) (follows_tick (follows_write G s r.live c v f lc r.open' e))

  hold_fine : (s c : ℕ) → Fine (Hold s c) (plan_of (Hold s c) σ)
  unfolding plan_of plan hold_slot answer after observe tells ending serial_step slot
  hold_fine s c =
      on_cell (Fine (Hold s c)) (λ r small. refused r small (Hold s c)) s c (hold_slot (log_of σ s) (record_of σ s) (lock_at σ.lent.locks c) c (slot_in (log_of σ s) (record_of σ s).count c))
      (λ lt ph lc.
      let a = alone s (runs I s ph).live in
      choose (Fine (Hold s c)) (hold_slot (log_of σ s) (record_of σ s) (lock_at σ.lent.locks c) c) (slot σ s c)
      (λ p. on_new (Fine (Hold s c)) (refused 5 refl (Hold s c)) s c (EnterMark c) ph lc p
      (λ room cl. held ph lc (get_or σ.lent.values c 0) _ (reads_store I s a c lc ph p)
      (held_latest s lt (enters s lt I c ph p room lc cl) c (record_of σ s).count (enter_phase s lt I c ph p room) (enter_slot s lt I c ph p room) lc)))
      (λ j p. held ph lc (entry_at (log_of σ s) j).current _ (reads_entry I s a c lc ph (entry_at (log_of σ s) j) (slot_some σ s c p)) (held_latest s lt I c j ph p lc)))
    where
      held : (record_of σ s).phase ≡ 1 → c < length start → (v f : ℕ) → v ≡ overlay (T.mine s) (latest start T.commits) c → f ≡ latest start T.commits c
          → Serially start T z (with_found f (event (Hold s c) (Value v)))
      held ph lc v f e g =
          let r = runs I s ph in
          answered (Hold s c) (Value v) refl refl (e ∙ sym ((F.works s r.live).draft r.open' c lc), tt)
          (follows_tick (follows_hold G s r.live c v f r.open' (holds_value I s (alone s r.live) c lc ph f g)))

  seal_fine : (s : ℕ) → Fine (Seal s) (plan_of (Seal s) σ)
  unfolding plan_of plan seal_target answer observe tells ending serial_step target
  seal_fine s =
      passing (Seal s) (eqb (record_of σ s).phase 1) (seal_target (target_in (log_of σ s) (record_of σ s).count 0))
      (λ lt k h.
      let ph = eqb-true (record_of σ s).phase 1 h in
      let r = runs I s ph in
      choose (Fine (Seal s)) seal_target (target σ s 0)
      (λ p.
      answered (Seal s) Committed refl refl (tt, (tt, tt))
      (follows_tick (follows_rest G s r.live (sealed_at (length start) T.place) r.live refl refl
      (eq-eqb (tally (T.mine s).wrote (length start)) 0 (none_written I s lt ph (inside I s k (λ e. omega arith)) p)))))
      (λ c p.
      answered (Seal s) Sealed refl refl (tt, tt)
      (follows_tick (follows_on G s r.live (sealed_at (length start) T.place) r.live refl refl (λ d. absurd (clash (T.mine s).done d r.open'))))))

  abandon_fine : (s : ℕ) → Fine (Abandon s) (plan_of (Abandon s) σ)
  unfolding plan_of plan answer observe tells ending serial_step
  abandon_fine s =
      passing (Abandon s) (eqb (record_of σ s).phase 1 || eqb (record_of σ s).phase 2) Cancel
      (λ lt k h.
      test (eqb (record_of σ s).phase 1)
      (λ q. let r = runs I s (eqb-true (record_of σ s).phase 1 q) in gave_up r.live r.open')
      (λ q.
      let ph = eqb-true (record_of σ s).phase 2 (rw q at h) in
      let r : Promoting start T.commits T.place (record_of σ s).next (look σ s) (T.mine s) = rw ph at (I.link s) in
      gave_up r.live r.open'))
    where
      gave_up : (T.mine s).live ≡ true → (T.mine s).done ≡ false → Serially start T z (event (Abandon s) Done)
      gave_up l d = answered (Abandon s) Done refl refl (tt, tt) (follows_tick (follows_end G s l d))

  -- where a begin is told, no transaction is open
  abbrev Alone : List Told → Type 0
  Alone ws = All (λ (w : Told). begins w ≡ true → (u : ℕ) → (T.mine u).live ≡ false) ws

  begin_fine : (s : ℕ) → Alone (tells (Begin s) (answer_of (Begin s) σ) 0) → Serially start T z (event (Begin s) (answer_of (Begin s) σ))
  unfolding answer_of plan_of plan answer observe tells ending starts serial_step
  begin_fine s =
      guarded (λ p. Alone (tells (Begin s) (answer s p σ) 0) → Fine (Begin s) p)
      σ.lent s (record_of σ s) (eqb (record_of σ s).phase 0) Start
      (λ _. refused 7 refl (Begin s)) (λ _. refused 1 refl (Begin s)) (λ _. refused 9 refl (Begin s)) (λ _. refused 2 refl (Begin s))
      (λ _ _ _ alone. answered (Begin s) Done refl refl (tt, tt) (follows_tick (follows_start G s (alone.0 refl))))

  advance_fine : (s : ℕ) → Fine (Advance s) (plan_of (Advance s) σ)
  unfolding plan_of plan advance_target promote_plan claimed answer release_answer observe tells ending serial_step target
  advance_fine s =
      passing (Advance s) (leb 2 (record_of σ s).phase) (advance_target s (log_of σ s) (record_of σ s) (lock_at σ.lent.locks) (target_in (log_of σ s) (record_of σ s).count (record_of σ s).next))
      (λ lt k h.
      let two = leb-true 2 (record_of σ s).phase h in
      choose (Fine (Advance s)) (advance_target s (log_of σ s) (record_of σ s) (lock_at σ.lent.locks)) (target σ s (record_of σ s).next) (λ _. refused 9 refl (Advance s))
      (λ c tgt.
      let lc = inside_wrote I s k (λ e. omega arith) c (target_some σ s (record_of σ s).next tgt).1 in
      let l = lock_at σ.lent.locks c in
      split (Fine (Advance s)) (eqb (record_of σ s).phase 2)
      (λ q.
      let r : Promoting start T.commits T.place (record_of σ s).next (look σ s) (T.mine s) = rw (eqb-true (record_of σ s).phase 2 q) at (I.link s) in
      let a = alone s r.live in
      split (Fine (Advance s)) (not (eqb l.claimant 16) && not (eqb l.claimant s))
      (λ cl.
      let x = eqb-false l.claimant 16 (not-true (eqb l.claimant 16) (both_l (not (eqb l.claimant 16)) (not (eqb l.claimant s)) cl)) in
      let y = eqb-false l.claimant s (not-true (eqb l.claimant s) (both_r (not (eqb l.claimant 16)) (not (eqb l.claimant s)) cl)) in
      absurd (y (own_claim I s a c lc x).0))
      (λ _. split (Fine (Advance s)) (eqb (other_readers s l.readers) 0) (λ _. moved r.live)
      (λ z. absurd (eqb-false (other_readers s l.readers) 0 z (no_readers I s a c lc)))))
      (λ q. split (Fine (Advance s)) (eqb (record_of σ s).phase 3)
      (λ q'. let r : Finishing (T.mine s) = rw (eqb-true (record_of σ s).phase 3 q') at (I.link s) in moved r.live)
      (λ q'.
      let a = eqb-false (record_of σ s).phase 2 q in
      let b = eqb-false (record_of σ s).phase 3 q' in
      let ph : (record_of σ s).phase ≡ 4 = omega (arith, phase_le I s k) in
      let r : Finishing (T.mine s) = rw ph at (I.link s) in
      split (λ (a : Answer). Serially start T z (event (Advance s) a)) (some? (target σ s (suc c))) (λ _. moved r.live)
      (λ _. answered (Advance s) Committed refl refl (tt, tt) (follows_tick (follows_commit G s r.live closed refl refl refl r.done)))))))
    where
      moved : (T.mine s).live ≡ true → Serially start T z (event (Advance s) Moved)
      moved l = answered (Advance s) Moved refl refl (tt, tt) (follows_tick (follows_on G s l (advanced (length start) T.place) l refl refl (λ d. rw d)))

  serially_call : (k : Call) → let f = found_by k (step k σ) in Alone (tells k (answer_of k σ) f) → Serially start T z (with_found f (event k (answer_of k σ)))
  unfolding answer_of step plan_of
  serially_call (Begin s) b = begin_fine s b
  serially_call (Read s c) b = reads_serially (event (Read s c) _) (read_by_read s c _) (read_fine s c)
  serially_call (Write s c v) b = write_fine s c v
  serially_call (Seal s) b = seal_fine s
  serially_call (Advance s) b = advance_fine s
  serially_call (Abandon s) b = abandon_fine s
  serially_call (Peek s c) b = quiet (Peek s c) _ (peeks σ s c)
  serially_call (Hold s c) b = hold_fine s c

-- ---- the actions

module _ {start : List ℕ} {σ : Store} {T : Ledger} {z : Serial} (I : Inv start σ T) (F : Follows start T z) where
  -- nothing was told
  still : (a : Answer) → Undisturbed a → eqb (number a) 105 ≡ false → Reading start (calm T) z [] a
  still a u n = record { follows = follows_calm F; undisturbed = u; not_105 = n; read = tt }

  pub serially : (k : Action) → Alone I F (tells_of (event_of k σ)) → Serially start T z (event_of k σ)
  unfolding answer_of
  serially (one_call k) b = serially_call I F k b
  serially (many_reads s cs words) b =
      let r = read_many s cs words σ in
      reads_serially (reads_event s cs words r.values r.last) (reads_by_read cs r.values r.last)
      (kept_with_inv I s (λ ws a U. Reading start U z ws a)
      (λ ws _ τ _ J H c.
      let r = read_fine J H.follows s c in
      let us = tells (Read s c) (answer_of (Read s c) τ) 0 in
      record { follows = r.follows; undisturbed = r.undisturbed; not_105 = r.not_105; read = all_append (WhereGot (λ c v. v ≡ get_or z.draft c 0)) us ws r.read H.read })
      cs words (still (Refused 15) (λ e. omega arith, λ e. omega arith) refl) (still (Refused 13) (λ e. omega arith, λ e. omega arith) refl) (still Done (λ e. omega arith, λ e. omega arith) refl)).1
  serially (load_caps caps) b =
      let loads : (a : Answer) → Undisturbed a → eqb (number a) 105 ≡ false → Serially start T z (load_event caps a) = λ a u n. reads_serially (load_event caps a) tt (still a u n) in
      load_cases (λ a _. Serially start T z (load_event caps a)) caps σ (λ _. loads Done (λ e. omega arith, λ e. omega arith) refl) (loads (Refused 7) (λ e. omega arith, λ e. omega arith) refl)
      (loads (Refused 2) (λ e. omega arith, λ e. omega arith) refl) (loads (Refused 16) (λ e. omega arith, λ e. omega arith) refl)
      (loads (Refused 8) (λ e. omega arith, λ e. omega arith) refl) (loads (Refused 17) (λ e. omega arith, λ e. omega arith) refl)
