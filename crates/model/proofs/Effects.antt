-- Each effect of a call keeps the invariant.
use Prim.Native.Nat.{ℕ, zero, suc, ◌+◌, ◌*◌, ◌/◌, ◌≤◌, ◌<◌}
use native.Mathlib.Omega.{arith}
use mathlib.Core.Path.{◌≡◌, refl, sym, ◌∙◌, ap, fun_ext, subst}
use mathlib.Core.Bool.{Bool, true, false}
use mathlib.Core.Option.{Option, none, some}
use mathlib.Core.List.{List, [], ◌∷◌}
use lib.ListN.{length, get_or}
use lib.Seq.{sets, length-sets}
use Rattle.records.specs.declared.Session.{Session}
use Rattle.records.specs.declared.Lock.{Lock}
use Rattle.records.specs.declared.Call.TheVariants.{Write, Hold}
use Rattle.model.specs.Buffers.{Locks, Store, idle, running, with_entry, Entry, word, cell_at, entry_at, slot_in, entry_of, look_in, found_of, appended, with_dirty, with_held, updated, marked, lock_at, on_lock, join, withdraw, on_log}
use Rattle.model.specs.Readers.{odd}
use Rattle.model.specs.Search.{find}
use Rattle.model.specs.Effects.{rolled_back, change, change_logs, record_of, log_of}
use Rattle.model.specs.Told.{found_by}
use Rattle.model.proofs.Invariant.{role_in, role_of, role, Running, Link, Shape, just_map, Inv, Frame, role_other, assemble, quiet}
use Rattle.model.proofs.Laws.{Long, lock_same, lock_other, long_set, long_sweep, lock_sweep, withdraw_withdraw, log_length, log_same, log_other, length-on, grown_find, grown_new, grown_old, changed_old, changed_new, dirty_set, held_set, marked_words, session_same, session_other, length-records}
use Rattle.model.proofs.Ledger.{Txn, opened, saw, wrote_to, holds_to, Commit, Ledger}
use Rattle.model.proofs.Roles.{Role, out, reading, holds, owns, pends, claims?, Locked, Valued, unowned, kept, joins, withdraws, stays, sees}
use Rattle.model.proofs.Running.{run_enter, run_note, run_hold, run_saw}
use Rattle.model.proofs.Tools.{same, which, nothing, clash, upd}
use Rattle.model.proofs.View.{slot, look}

-- ---- a session's record

-- τ is σ with the record of session s set to x; the other sessions' words stay
pub record Acts (n : ℕ) (σ : Store) (s : ℕ) (x : Session) (τ : Store) : Type 0 where
  pub mine : record_of τ s ≡ x
  pub others : (t : ℕ) → (t ≡ s → ⊥) → record_of τ t ≡ record_of σ t
  pub records : length τ.sessions.records ≡ 16
  pub logs : length τ.lent.logs ≡ 2048
  pub notes : (t : ℕ) → (t ≡ s → ⊥) → log_of τ t ≡ log_of σ t
  pub shape : Shape n σ
  pub lt : s < 16

module _ {n : ℕ} {σ τ : Store} {s : ℕ} {x : Session} (a : Acts n σ s x τ) where
  pub ses_same : record_of τ s ≡ x
  ses_same = a.mine

  pub ses_other : (t : ℕ) → (t ≡ s → ⊥) → record_of τ t ≡ record_of σ t
  ses_other = a.others

  pub frame : Frame s σ τ
  unfolding look
  frame = record { ses = ses_other; notes = λ t n. fun_ext (λ c. rw (ses_other t n, a.notes t n)) }

  pub look_mine : (c : ℕ) → look τ s c ≡ look_in (log_of τ s) x.count c
  unfolding look
  look_mine c = rw ses_same

  pub role_mine : (c : ℕ) → role τ c s ≡ role_of x c (look_in (log_of τ s) x.count c)
  unfolding role
  role_mine c = rw (ses_same, look_mine c)

  pub role_gone : x.count ≡ 0 → (c : ℕ) → role τ c s ≡ out
  unfolding role_of look_in slot_in entry_of find
  role_gone h c = role_mine c ∙ rw h

  pub shaped : length τ.lent.values ≡ n → Long n τ.lent.locks → x.count ≤ 32 → Shape n τ
  shaped f l q =
      record {
        values = f;
        records = a.records;
        long = l;
        logs = a.logs;
        counts = λ t. same t s (λ p. rw (p, ses_same) q) (λ n. rw (ses_other t n) (a.shape.counts t));
      }

  pub link_mine : (start : List ℕ) (ks : List Commit) (place : ℕ) (u : Txn) {ph : ℕ} → x.phase ≡ ph
      → Link start ks place x.next (look τ s) u ph → Link start ks place (record_of τ s).next (look τ s) u (record_of τ s).phase
  link_mine start ks place u h l = rw ses_same (rw h l)

  -- a cell at which nothing changed
  module _ (c : ℕ) (b : role τ c s ≡ role σ c s) where
    pub locked_still : {l : Lock} → Locked (role σ c) l → Locked (role τ c) l
    locked_still g = kept s (role_other frame c) b g refl refl (λ h. h)

    pub valued_still : {fig lat : ℕ} → Valued (role σ c) fig lat → Valued (role τ c) fig lat
    valued_still v = stays s (role_other frame c) b v (λ f e. e) (λ f e. e) refl

-- ---- roll-back

pub unknown : (σ : Store) (s c : ℕ) → find (cell_at (log_of σ s)) (record_of σ s).count c ≡ none → role σ c s ≡ out
unfolding role role_of look look_in slot_in entry_of
unknown σ s c h = rw h

pub idle_out : (σ : Store) (s c : ℕ) → (record_of σ s).phase ≡ 0 → role σ c s ≡ out
unfolding role role_of role_in
idle_out σ s c h = which (look σ s c) (λ p. rw p) (λ e p. rw (p, h))

pub role_same : (x y : Session) (c : ℕ) (o : Option Entry) → x.phase ≡ y.phase → x.next ≡ y.next → role_of x c o ≡ role_of y c o
unfolding role_of
role_same x y c none p q = refl
role_same x y c (some e) p q = rw (p, q)

pub running_role : (σ : Store) (s c : ℕ) (e : Entry) → (record_of σ s).phase ≡ 1 → look σ s c ≡ some e → role σ c s ≡ reading e.snapshot
unfolding role role_of role_in
running_role σ s c e h p = rw (p, h)

-- values that are committed and not yet in the store are those of phase 3 alone
unpending : (ph : ℕ) (w b : Bool) (f v : ℕ) → (ph ≡ 3 → ⊥) → pends (role_in ph w b f v) ≡ false
unfolding role_in
unpending zero w b f v n = refl
unpending (suc zero) w b f v n = refl
unpending (suc (suc zero)) true true f v n = refl
unpending (suc (suc zero)) true false f v n = refl
unpending (suc (suc zero)) false b f v n = refl
unpending (suc (suc (suc zero))) w b f v n = absurd (n refl)
unpending (suc (suc (suc (suc zero)))) true true f v n = refl
unpending (suc (suc (suc (suc zero)))) true false f v n = refl
unpending (suc (suc (suc (suc zero)))) false b f v n = refl
unpending (suc (suc (suc (suc (suc k))))) w b f v n = refl

pub not_pending : (σ : Store) (s c : ℕ) → ((record_of σ s).phase ≡ 3 → ⊥) → pends (role σ c s) ≡ false
unfolding role role_of
not_pending σ s c n = which (look σ s c) (λ p. rw p) (λ e p. rw p (unpending (record_of σ s).phase _ _ _ _ n))

pub look_is : (σ : Store) (s c : ℕ) → look σ s c ≡ look_in (log_of σ s) (record_of σ s).count c
unfolding look
look_is σ s c = refl

pub slot_none : (σ : Store) (s c : ℕ) → slot σ s c ≡ none → look σ s c ≡ none
unfolding look look_in entry_of slot slot_in
slot_none σ s c h = rw h

pub slot_some : (σ : Store) (s c : ℕ) {k : ℕ} → slot σ s c ≡ some k → look σ s c ≡ some (entry_at (log_of σ s) k)
unfolding look look_in entry_of slot slot_in
slot_some σ s c h = rw h

-- a role that is out is nothing else
pub not_in : {X : Role} {P : Type 0} → X ≡ out → holds X ≡ true → P
not_in {X} e h = absurd (clash (holds X) h (ap holds e))

-- the logs stay
pub acts : {n : ℕ} {σ : Store} → Shape n σ → (s : ℕ) → s < 16 → (L : Locks) (F : List ℕ) (x : Session)
    → Acts n σ s x (change σ s L F σ.lent.logs x)
acts {n} {σ} h s lt L F x =
    record {
      mine = session_same σ.sessions s x h.records lt;
      others = session_other σ.sessions s x;
      records = length-records σ.sessions s x ∙ h.records;
      logs = h.logs;
      notes = λ t n. refl;
      shape = h;
      lt = lt;
    }

-- the ledger with session s's transaction replaced and no new commit; and at the next place
abbrev pub replaced : ℕ → Txn → Ledger → Ledger
replaced s u T = record { place = T.place; mine = upd T.mine s u; commits = T.commits; new = false }

abbrev pub amended : ℕ → Txn → Ledger → Ledger
amended s u T = record { place = suc T.place; mine = upd T.mine s u; commits = T.commits; new = false }

-- and with one commit more
abbrev pub joined : ℕ → Txn → Commit → Ledger → Ledger
joined s u k T = record { place = suc T.place; mine = upd T.mine s u; commits = k ∷ T.commits; new = true }

module _ {start : List ℕ} {σ : Store} {T : Ledger} (s : ℕ) (lt : s < 16) (I : Inv start σ T) where
  abbrev x : Session
  x = record_of σ s

  -- ---- roll-back

  pub rolls : ((c : ℕ) → pends (role σ c s) ≡ false) → (u : Txn) → u.live ≡ false
      → Inv start (change σ s (rolled_back (log_of σ s) (record_of σ s).count s σ.lent.locks) σ.lent.values σ.lent.logs idle) (replaced s u T)
  unfolding rolled_back
  rolls np u dead =
      let a = acts I.shape s lt (rolled_back (log_of σ s) x.count s σ.lent.locks) σ.lent.values idle in
      quiet s I (frame a)
      (shaped a I.shape.values
      (long_sweep (λ c. true) (withdraw s) (cell_at (log_of σ s)) σ.lent.locks (length start) I.shape.long x.count) (omega arith))
      u T.place (omega arith)
      (λ c lc.
      rw (lock_sweep (λ c. true) (withdraw s) (cell_at (log_of σ s)) σ.lent.locks (length start) I.shape.long (withdraw_withdraw s (λ e. omega arith)) c lc x.count)
      (which (find (cell_at (log_of σ s)) x.count c)
      (λ p. rw p (kept s (role_other (frame a) c) (role_gone a refl c) (I.locked c lc) (sym (ap holds (unknown σ s c p))) (sym (ap owns (unknown σ s c p))) (λ h. sym (ap claims? (unknown σ s c p)) ∙ h)))
      (λ k p. rw p (withdraws s (role_other (frame a) c) (role_gone a refl c) (I.locked c lc) refl))))
      (λ c lc. stays s (role_other (frame a) c) (role_gone a refl c) (I.valued c lc) (λ f e. not_in (sym e) refl) (λ f e. not_in (sym e) refl) (sym (np c)))
      (link_mine a start T.commits T.place u refl dead)

  -- ---- begin

  pub started : (record_of σ s).phase ≡ 0
      → Inv start (change σ s σ.lent.locks σ.lent.values σ.lent.logs running) (amended s (opened T.place) T)
  started h =
      let a = acts I.shape s lt σ.lent.locks σ.lent.values running in
      let same-role : (c : ℕ) → role (change σ s σ.lent.locks σ.lent.values σ.lent.logs running) c s ≡ role σ c s = λ c. role_gone a refl c ∙ sym (idle_out σ s c h) in
      let blank : (c : ℕ) → look (change σ s σ.lent.locks σ.lent.values σ.lent.logs running) s c ≡ none = λ c. look_mine a c ∙ unfold look_in slot_in entry_of find in refl in
      quiet s I (frame a) (shaped a I.shape.values I.shape.long (omega arith)) (opened T.place) (suc T.place) (omega arith)
      (λ c lc. locked_still a c (same-role c) (I.locked c lc))
      (λ c lc. valued_still a c (same-role c) (I.valued c lc))
      (link_mine a start T.commits (suc T.place) (opened T.place) refl
      (record {
        live = refl;
        open' = refl;
        moved = refl;
        unsealed = refl;
        reads = tt;
        dirtied = λ c. rw (blank c);
        held = λ c. rw (blank c);
        wrote = λ c. rw (blank c);
        value = λ c e. absurd (clash false (rw (blank c) at e) refl);
        clean = λ c e p q. nothing (sym (blank c) ∙ p);
      }))

  -- ---- a value told

  pub learns : (c : ℕ) (e : Entry) → (record_of σ s).phase ≡ 1 → look σ s c ≡ some e → Inv start σ (replaced s (saw c e.current (T.mine s)) T)
  learns c e ph h =
      let run : Running (look σ s) (T.mine s) = rw ph at (I.link s) in
      quiet s I (record { ses = λ t n. refl; notes = λ t n. refl }) I.shape (saw c e.current (T.mine s)) T.place (omega arith) I.locked I.valued
      (rw ph (run_saw c e run h))

  -- ---- a new entry: no call by itself, but the first half of one

  module _ (c : ℕ) (ph : (record_of σ s).phase ≡ 1) (new : slot σ s c ≡ none) (room : (record_of σ s).count < 32) where
    abbrev v : ℕ
    v = get_or σ.lent.values c 0

    abbrev pub ε : Store
    ε = change σ s (on_lock c (join s) σ.lent.locks) σ.lent.values (on_log s (λ log. appended log (record_of σ s).count c (get_or σ.lent.values c 0)) σ.lent.logs) (with_entry (record_of σ s))

    whole : length (log_of σ s) ≡ 128
    whole = log_length σ.lent.logs s lt I.shape.logs

    grown_whole : length (appended (log_of σ s) x.count c v) ≡ 128
    unfolding appended
    grown_whole = length-sets (log_of σ s) (4 * x.count) (c ∷ v ∷ v ∷ 0 ∷ []) ∙ whole

    grown_log : log_of ε s ≡ appended (log_of σ s) x.count c v
    grown_log = log_same s σ.lent.logs lt I.shape.logs (λ log. appended log x.count c v) grown_whole

    enter_acts : Acts (length start) σ s (with_entry x) ε
    enter_acts =
        record {
          mine = session_same σ.sessions s (with_entry x) I.shape.records lt;
          others = session_other σ.sessions s (with_entry x);
          records = length-records σ.sessions s (with_entry x) ∙ I.shape.records;
          logs = length-on s σ.lent.logs lt I.shape.logs (λ log. appended log x.count c v) grown_whole ∙ I.shape.logs;
          notes = log_other s σ.lent.logs lt I.shape.logs (λ log. appended log x.count c v) grown_whole;
          shape = I.shape;
          lt = lt;
        }

    pub enter_phase : (record_of ε s).phase ≡ 1
    enter_phase = ap (λ (z : Session). z.phase) (ses_same enter_acts) ∙ ph

    pub enter_count : (record_of ε s).count ≡ suc (record_of σ s).count
    enter_count = ap (λ (z : Session). z.count) (ses_same enter_acts) ∙ refl

    pub enter_look : look ε s c ≡ some (record { snapshot = get_or σ.lent.values c 0; current = get_or σ.lent.values c 0; dirty = false; held = false })
    unfolding appended
    enter_look = look_mine enter_acts c ∙ rw grown_log (grown_new (log_of σ s) x.count c v room whole (sym (look_is σ s c) ∙ slot_none σ s c new))

    pub enter_slot : slot ε s c ≡ some (record_of σ s).count
    unfolding appended slot slot_in
    enter_slot = rw (ses_same enter_acts, grown_log) (grown_find (log_of σ s) x.count c v room whole new)

    old_look : (d : ℕ) → (d ≡ c → ⊥) → look ε s d ≡ look σ s d
    unfolding appended
    old_look d n = look_mine enter_acts d ∙ rw grown_log (grown_old (log_of σ s) x.count c v room whole d n) ∙ sym (look_is σ s d)

    there : (d : ℕ) → (d ≡ c → ⊥) → role ε d s ≡ role σ d s
    unfolding role
    there d n = rw (ses_same enter_acts, old_look d n) (role_same (with_entry x) x d (look σ s d) refl refl)

    here : role ε c s ≡ reading v
    here = running_role ε s c (record { snapshot = v; current = v; dirty = false; held = false }) enter_phase enter_look

    pub enters : c < length start → (lock_at σ.lent.locks c).claimant ≡ 16 → Inv start ε T
    unfolding on_lock
    enters lc cl =
        let a = enter_acts in
        let w = I.shape.long in
        let l = join s (lock_at σ.lent.locks c) in
        assemble s I (frame a) (shaped a I.shape.values (long_set (length start) c l σ.lent.locks w) (room))
        T (λ t n. refl) (λ t n e p. p)
        (λ d ld.
        same d c
        (λ e. rw e (rw (lock_same (length start) c l σ.lent.locks w lc) (joins s (role_other (frame a) c) here (I.locked c lc) refl refl cl)))
        (λ n. rw (lock_other c d l σ.lent.locks n) (locked_still a d (there d n) (I.locked d ld))))
        (λ d ld.
        same d c
        (λ e. rw e (sees s (role_other (frame a) c) here (I.valued c lc) refl (unowned (I.locked c lc) cl)))
        (λ n. valued_still a d (there d n) (I.valued d ld)))
        (link_mine a start T.commits T.place (T.mine s) (ph) (run_enter c v (rw ph at (I.link s)) old_look (slot_none σ s c new) enter_look))
        I.lawful (omega arith) I.old
        (just_map σ ε T.new T.commits
        (λ t d h.
        same d c
        (λ e. rw e (rw (lock_same (length start) c l σ.lent.locks w lc) (unfold join in rw e at h)))
        (λ n. rw (lock_other c d l σ.lent.locks n) h))
        I.just)

  -- ---- an entry's last two words: a value written into it, or a mark set

  module _ (c k v w : ℕ) (g : List ℕ → List ℕ) (is : g (log_of σ s) ≡ sets (log_of σ s) (4 * k + 2) (v ∷ w ∷ [])) (ph : (record_of σ s).phase ≡ 1) (h : slot σ s c ≡ some k) where
    abbrev pub ρ : Store
    ρ = change_logs σ (on_log s g σ.lent.logs)

    old_whole : length (log_of σ s) ≡ 128
    old_whole = log_length σ.lent.logs s lt I.shape.logs

    new_whole : length (g (log_of σ s)) ≡ 128
    new_whole = ap length is ∙ length-sets (log_of σ s) (4 * k + 2) (v ∷ w ∷ []) ∙ old_whole

    new_log : log_of ρ s ≡ sets (log_of σ s) (4 * k + 2) (v ∷ w ∷ [])
    new_log = log_same s σ.lent.logs lt I.shape.logs g new_whole ∙ is

    set_acts : Acts (length start) σ s x ρ
    set_acts =
        record {
          mine = refl;
          others = λ t n. refl;
          records = I.shape.records;
          logs = length-on s σ.lent.logs lt I.shape.logs g new_whole ∙ I.shape.logs;
          notes = log_other s σ.lent.logs lt I.shape.logs g new_whole;
          shape = I.shape;
          lt = lt;
        }

    place : find (cell_at (log_of σ s)) x.count c ≡ some k
    unfolding slot slot_in
    place = h

    abbrev e : Entry
    e = entry_at (log_of σ s) k

    set_look : look ρ s c ≡ some (record { snapshot = (entry_at (log_of σ s) k).snapshot; current = v; dirty = odd w; held = odd (w / 2) })
    unfolding entry_at
    set_look = look_mine set_acts c ∙ rw new_log (changed_new (log_of σ s) x.count k c v w (I.shape.counts s) old_whole place)

    set_found : found_of (look_in (log_of ρ s) (record_of ρ s).count c) ≡ (entry_at (log_of σ s) k).snapshot
    unfolding look
    set_found = ap found_of set_look

    set_old : (d : ℕ) → (d ≡ c → ⊥) → look ρ s d ≡ look σ s d
    set_old d n = look_mine set_acts d ∙ rw new_log (changed_old (log_of σ s) x.count k c v w (I.shape.counts s) old_whole place d n) ∙ sym (look_is σ s d)

    set_role : (d : ℕ) → role ρ d s ≡ role σ d s
    set_role d =
        same d c
        (λ q. rw q (running_role ρ s c _ (ap (λ (z : Session). z.phase) (ses_same set_acts) ∙ ph) set_look ∙ sym (running_role σ s c e ph (slot_some σ s c h))))
        (λ n. unfold role in rw (ses_same set_acts, set_old d n))

    -- the invariant is kept with any transaction that has run as the entries say
    sets_entry : (u : Txn) → Running (look ρ s) u → Inv start ρ (amended s u T)
    sets_entry u r =
        quiet s I (frame set_acts) (shaped set_acts I.shape.values I.shape.long (I.shape.counts s)) u (suc T.place) (omega arith)
        (λ d ld. locked_still set_acts d (set_role d) (I.locked d ld))
        (λ d ld. valued_still set_acts d (set_role d) (I.valued d ld))
        (link_mine set_acts start T.commits (suc T.place) u ph r)

  -- a write: the value found is the entry's, and the invariant is kept
  pub notes : (c k v : ℕ) → (record_of σ s).phase ≡ 1 → slot σ s c ≡ some k → let τ = change_logs σ (on_log s (λ log. updated log k v) σ.lent.logs) in
      let f = found_by (Write s c v) τ in
      (f ≡ (entry_at (log_of σ s) k).snapshot) × Inv start τ (amended s (wrote_to c v f (T.mine s)) T)
  notes c k v ph h =
      let w = with_dirty (word (log_of σ s) k 3) in
      let g : List ℕ → List ℕ = λ log. updated log k v in
      let is : g (log_of σ s) ≡ sets (log_of σ s) (4 * k + 2) (v ∷ w ∷ []) = unfold updated in refl in
      let f = set_found c k v w g is ph h in
      let marks = dirty_set (word (log_of σ s) k 3) in (
        f,
        subst (λ (f : ℕ). Inv start (ρ c k v w g is ph h) (amended s (wrote_to c v f (T.mine s)) T)) (sym f)
            (sets_entry c k v w g is ph h (wrote_to c v (entry_at (log_of σ s) k).snapshot (T.mine s))
            (run_note c v (rw ph at (I.link s)) (set_old c k v w g is ph h) (entry_at (log_of σ s) k) (slot_some σ s c h)
            (set_look c k v w g is ph h ∙ (unfold entry_at in rw (marks.0, marks.1))))),
      )

  -- a hold: so it is, and the entry's present value is told
  pub marks : (c k : ℕ) → (record_of σ s).phase ≡ 1 → slot σ s c ≡ some k → let τ = change_logs σ (on_log s (λ log. marked log k) σ.lent.logs) in
      let f = found_by (Hold s c) τ in
      (f ≡ (entry_at (log_of σ s) k).snapshot) × Inv start τ (amended s (saw c (entry_at (log_of σ s) k).current (holds_to c f (T.mine s))) T)
  marks c k ph h =
      let v = (entry_at (log_of σ s) k).current in
      let w = with_held (word (log_of σ s) k 3) in
      let g : List ℕ → List ℕ = λ log. marked log k in
      let is : g (log_of σ s) ≡ sets (log_of σ s) (4 * k + 2) (v ∷ w ∷ []) = unfold entry_at in marked_words (log_of σ s) k in
      let f = set_found c k v w g is ph h in
      let set = held_set (word (log_of σ s) k 3) in
      let now : look (ρ c k v w g is ph h) s c ≡ some (record { snapshot = (entry_at (log_of σ s) k).snapshot; current = v; dirty = (entry_at (log_of σ s) k).dirty; held = true }) =
      set_look c k v w g is ph h ∙ (unfold entry_at in rw (set.0, set.1)) in (
        f,
        subst (λ (f : ℕ). Inv start (ρ c k v w g is ph h) (amended s (saw c v (holds_to c f (T.mine s))) T)) (sym f)
            (sets_entry c k v w g is ph h (saw c v (holds_to c (entry_at (log_of σ s) k).snapshot (T.mine s)))
            (run_saw c (record { snapshot = (entry_at (log_of σ s) k).snapshot; current = v; dirty = (entry_at (log_of σ s) k).dirty; held = true })
            (run_hold c (rw ph at (I.link s)) (set_old c k v w g is ph h) (entry_at (log_of σ s) k) (slot_some σ s c h) now) now)),
      )
