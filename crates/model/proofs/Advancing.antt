-- Advancing keeps the invariant.
use Prim.Native.Nat.{ℕ, zero, suc, ◌≤◌, ◌<◌}
use native.Mathlib.Omega.{arith}
use mathlib.Core.Path.{◌≡◌, refl, sym, ◌∙◌, ap}
use mathlib.Core.Bool.{Bool, true, false, cond, ◌&&◌, ◌||◌}
use mathlib.Core.Option.{none, some}
use mathlib.Core.List.{List, ◌∷◌}
use lib.Dec.{leb, eqb}
use lib.ListN.{length, get_or, set, length-set}
use lib.Seq.{get_or-set_same, get_or-set_other}
use borrow.Author.Tests.{eq-eqb, ne_eqb, leb-true, leb-false, le-leb, lt-leb}
use Rattle.records.specs.declared.Session.{Session}
use Rattle.records.specs.declared.Lock.{Lock}
use Rattle.model.specs.Buffers.{Locks, Store, idle, move_to, cell_at, slot_in, publishes, is_published, publishes_in, target_in, current_of, lock_at, on_lock, vacate, claim, acquire}
use Rattle.model.specs.Readers.{member, other_readers}
use Rattle.model.specs.Search.{find, tally}
use Rattle.model.specs.Effects.{change, change_locks, record_of, log_of}
use Rattle.model.proofs.Effects.{Acts, ses_same, frame, look_mine, role_gone, shaped, link_mine, locked_still, valued_still, look_is, slot_none, acts, amended, joined}
use Rattle.model.proofs.Invariant.{role_in, role_of, role, latest, Promoting, Finishing, Link, just_off, Inv, role_other, quiet, committing, calms, ticks}
use Rattle.model.proofs.Laws.{find_some, Low, lowest_is, Long, lock_same, lock_other, long_set, tally_flat, tally_more}
use Rattle.model.proofs.Ledger.{Txn, closed, advanced, Commit, Ledger, tick, calm, as_commit}
use Rattle.model.proofs.Roles.{Role, out, wanting, owning, pending, published, holds, owns, pends, claims?, Locked, Valued, flip, kept, vacates, takes, stays, commits, settles, claims}
use Rattle.model.proofs.Tools.{same, split, test, which, clash, both_l, both_r, alone_member}
use Rattle.model.proofs.View.{slot, look, written, target}

-- ---- the cell of an advance

wrote_slot : (σ : Store) (s d : ℕ) → written σ s d ≡ true → (j : ℕ) × (j < (record_of σ s).count) × (cell_at (log_of σ s) j ≡ d)
unfolding written
wrote_slot σ s d h =
    which (find (cell_at (log_of σ s)) (record_of σ s).count d)
    (λ p. absurd (clash (is_published (look σ s d)) h (rw (slot_none σ s d (unfold slot slot_in in p)))))
    (λ j p. let w = find_some (cell_at (log_of σ s)) d (record_of σ s).count p in (j, w.0, w.1))

pub target_some : (σ : Store) (s from : ℕ) {c : ℕ} → target σ s from ≡ some c
    → (from ≤ c) × (written σ s c ≡ true) × ((d : ℕ) → written σ s d ≡ true → from ≤ d → c ≤ d)
unfolding target target_in publishes_in written look
target_some σ s from {c} h =
    let f : ℕ → Bool = λ c. leb from c && written σ s c in
    let l : Low f (cell_at (log_of σ s)) (record_of σ s).count (some c) = rw h at (lowest_is f (cell_at (log_of σ s)) (record_of σ s).count) in (
      leb-true from c (both_l (leb from c) (written σ s c) l.fits),
      both_r (leb from c) (written σ s c) l.fits,
      λ d w q. let j = wrote_slot σ s d w in
          rw j.2 at (l.least j.0 j.1 (rw (j.2, le-leb from d q, w))),
    )

pub target_none : (σ : Store) (s from : ℕ) → target σ s from ≡ none → (d : ℕ) → written σ s d ≡ true → d < from
unfolding target target_in publishes_in written look
target_none σ s from h d w =
    let f : ℕ → Bool = λ c. leb from c && written σ s c in
    let l : Low f (cell_at (log_of σ s)) (record_of σ s).count none = rw h at (lowest_is f (cell_at (log_of σ s)) (record_of σ s).count) in
    let j = wrote_slot σ s d w in
    test (leb from d) (λ q. absurd (clash (leb from d && written σ s d) (rw (q, w)) (rw j.2 at (l j.0 j.1)))) (λ q. leb-false from d q)

-- ---- the parts of a session past its seal

role_in-late : (q : ℕ) (w b : Bool) (f v : ℕ) → role_in (suc (suc q)) w b f v ≡ cond w (role_in (suc (suc q)) true b 0 v) out
unfolding role_in
role_in-late zero true b f v = refl
role_in-late zero false b f v = refl
role_in-late (suc zero) true b f v = refl
role_in-late (suc zero) false b f v = refl
role_in-late (suc (suc zero)) true b f v = refl
role_in-late (suc (suc zero)) false b f v = refl
role_in-late (suc (suc (suc q))) true b f v = refl
role_in-late (suc (suc (suc q))) false b f v = refl

unfoldable pub late : Store → ℕ → ℕ → ℕ → ℕ → Role
late σ s q next d = cond (written σ s d) (role_in (suc (suc q)) true (leb next d) 0 (current_of (look σ s d))) out

pub role_late : (σ : Store) (s d q : ℕ) → (record_of σ s).phase ≡ suc (suc q) → role σ d s ≡ late σ s q (record_of σ s).next d
unfolding role role_of written late
role_late σ s d q h = which (look σ s d) (λ p. rw p) (λ e p. rw (p, h) (role_in-late q (publishes e) (leb (record_of σ s).next d) e.snapshot e.current))

pub promoting_holds : (σ : Store) (t e : ℕ) → (record_of σ t).phase ≡ 2 → is_published (look σ t e) ≡ true → holds (role σ e t) ≡ true
unfolding late role_in written
promoting_holds σ t e ph w = rw (role_late σ t e 0 ph) (rw w (test (leb (record_of σ t).next e) (λ b. rw b) (λ b. rw b)))

-- ---- one lock changed

module _ (n c : ℕ) (f : Lock → Lock) (L : Locks) (w : Long n L) where
  on_long : Long n (on_lock c f L)
  unfolding on_lock
  on_long = long_set n c (f (lock_at L c)) L w

  on_same : c < n → lock_at (on_lock c f L) c ≡ f (lock_at L c)
  unfolding on_lock
  on_same h = lock_same n c (f (lock_at L c)) L w h

  on_other : (d : ℕ) → (d ≡ c → ⊥) → lock_at (on_lock c f L) d ≡ lock_at L d
  unfolding on_lock
  on_other d h = lock_other c d (f (lock_at L c)) L h

module _ {start : List ℕ} {σ : Store} {T : Ledger} (s : ℕ) (lt : s < 16) (I : Inv start σ T)
    (inside : (c : ℕ) → written σ s c ≡ true → c < length start) (c : ℕ) (tgt : target σ s (record_of σ s).next ≡ some c) where
  here : written σ s c ≡ true
  here = (target_some σ s (record_of σ s).next tgt).1

  inn : c < length start
  inn = inside c here

  reach : leb (record_of σ s).next c ≡ true
  reach = le-leb (record_of σ s).next c (target_some σ s (record_of σ s).next tgt).0

  -- other cells that publish stand to one above this cell as to the next cell
  leb_same : (d : ℕ) → written σ s d ≡ true → (d ≡ c → ⊥) → leb (suc c) d ≡ leb (record_of σ s).next d
  leb_same d w n =
      let t = target_some σ s (record_of σ s).next tgt in
      test (leb (record_of σ s).next d)
      (λ q. let l = t.2 d w (leb-true (record_of σ s).next d q) in rw (q, le-leb (suc c) d (omega arith)))
      (λ q. let l = leb-false (record_of σ s).next d q in rw (q, lt-leb (suc c) d (omega (arith, t.0))))

  -- none left: every other cell that publishes is below the next cell
  leb_last : target σ s (suc c) ≡ none → (d : ℕ) → written σ s d ≡ true → (d ≡ c → ⊥) → leb (record_of σ s).next d ≡ false
  leb_last h d w n = sym (leb_same d w n) ∙ lt-leb (suc c) d (target_none σ s (suc c) h d w)

  abbrev x : Session
  x = record_of σ s

  abbrev L₀ : Locks
  L₀ = σ.lent.locks

  abbrev F₀ : List ℕ
  F₀ = σ.lent.values

  late_same : (q d : ℕ) → (d ≡ c → ⊥) → late σ s q (suc c) d ≡ late σ s q (record_of σ s).next d
  unfolding late
  late_same q d n = test (written σ s d) (λ w. rw (w, leb_same d w n)) (λ w. rw w)

  -- before: the cell itself
  role_here : (q : ℕ) → (record_of σ s).phase ≡ suc (suc q) → role σ c s ≡ role_in (suc (suc q)) true true 0 (current_of (look σ s c))
  unfolding late
  role_here q h = role_late σ s c q h ∙ rw (here, reach)

  -- the session moves on, with other locks and values
  module _ (L : Locks) (F : List ℕ) (phase next : ℕ) where
    abbrev τ : Store
    τ = change σ s L F σ.lent.logs (move_to phase next x)

    a : Acts (length start) σ s (move_to phase next x) τ
    a = acts I.shape s lt L F (move_to phase next x)

    look_still : (d : ℕ) → look τ s d ≡ look σ s d
    look_still d = look_mine a d ∙ sym (look_is σ s d)

    role_next : (q d : ℕ) → phase ≡ suc (suc q) → role τ d s ≡ late σ s q next d
    unfolding late written
    role_next q d h = role_late τ s d q (ap (λ (z : Session). z.phase) (ses_same a) ∙ h) ∙ rw (look_still d, ses_same a)

  -- a step that concerns one cell alone
  one_cell_lem : (L : Locks) (F : List ℕ) (y : Session) → Long (length start) L → length F ≡ length start → y.count ≤ 32
      → let τ = change σ s L F σ.lent.logs y in
      ((d : ℕ) → (d ≡ c → ⊥) → (role τ d s ≡ role σ d s) × (lock_at L d ≡ lock_at σ.lent.locks d) × (get_or F d 0 ≡ get_or σ.lent.values d 0))
      → Locked (role τ c) (lock_at L c) → Valued (role τ c) (get_or F c 0) (latest start T.commits c)
      → (u : Txn) → Link start T.commits (suc T.place) y.next (look τ s) u y.phase
      → Inv start τ (amended s u T)
  one_cell_lem L F y ll lf k sp lo va u li =
      let b = acts I.shape s lt L F y in
      quiet s I (frame b) (shaped b lf ll k) u (suc T.place) (omega arith)
      (λ d ld. same d c (λ e. rw e lo) (λ n. rw (sp d n).1 (locked_still b d (sp d n).0 (I.locked d ld))))
      (λ d ld. same d c (λ e. rw e va) (λ n. rw (sp d n).2 (valued_still b d (sp d n).0 (I.valued d ld))))
      (link_mine b start T.commits (suc T.place) u refl li)

  -- the values stay
  lock_cell : (f : Lock → Lock) (y : Session) → y.count ≤ 32
      → let τ = change σ s (on_lock c f σ.lent.locks) σ.lent.values σ.lent.logs y in
      ((d : ℕ) → (d ≡ c → ⊥) → role τ d s ≡ role σ d s)
      → Locked (role τ c) (f (lock_at σ.lent.locks c)) → Valued (role τ c) (get_or σ.lent.values c 0) (latest start T.commits c)
      → (u : Txn) → Link start T.commits (suc T.place) y.next (look τ s) u y.phase
      → Inv start τ (amended s u T)
  lock_cell f y k sp lo va u li =
      let w = I.shape.long in
      one_cell_lem (on_lock c f L₀) F₀ y (on_long (length start) c f L₀ w) I.shape.values k
      (λ d n. (sp d n, on_other (length start) c f L₀ w d n, refl)) (rw (on_same (length start) c f L₀ w inn) lo) va u li

  -- ---- promotion

  module _ (ph : (record_of σ s).phase ≡ 2) (zero' : other_readers s (lock_at σ.lent.locks c).readers ≡ 0) where
    prom : Promoting start T.commits T.place (record_of σ s).next (look σ s) (T.mine s)
    prom = rw ph at (I.link s)

    lone : (t : ℕ) → (t ≡ s → ⊥) → member (lock_at σ.lent.locks c).readers t ≡ false
    lone t n = alone_member (lock_at σ.lent.locks c).readers s t zero' n

    wants : role σ c s ≡ wanting
    unfolding role_in
    wants = role_here 0 ph

    wrote_eq : (d : ℕ) → (T.mine s).wrote d ≡ written σ s d
    unfolding written
    wrote_eq d = prom.wrote d

    tally_here : tally (T.mine s).wrote (suc c) ≡ suc (T.mine s).moved
    unfolding tally
    tally_here =
        let t = target_some σ s (record_of σ s).next tgt in
        let f = tally_flat (T.mine s).wrote (record_of σ s).next c t.0
        (λ d p q. flip ((T.mine s).wrote d) (λ w. let l = t.2 d (sym (wrote_eq d) ∙ w) p in omega arith)) in
        rw (wrote_eq c ∙ here) (omega (arith, prom.moved))

    tally_last : target σ s (suc c) ≡ none → tally (T.mine s).wrote (length start) ≡ tally (T.mine s).wrote (suc c)
    tally_last h =
        tally_flat (T.mine s).wrote (suc c) (length start) inn
        (λ d p q. flip ((T.mine s).wrote d) (λ w. let l = target_none σ s (suc c) h d (sym (wrote_eq d) ∙ w) in omega arith))

    tally_left : {d : ℕ} → target σ s (suc c) ≡ some d → tally (T.mine s).wrote (suc c) < tally (T.mine s).wrote (length start)
    tally_left {d} h =
        let t = target_some σ s (suc c) h in
        tally_more (T.mine s).wrote (suc c) (length start) d t.0 (inside d t.1) (wrote_eq d ∙ t.1)

    pub more_open : {d : ℕ} → target σ s (suc c) ≡ some d → (advanced (length start) T.place (T.mine s)).done ≡ false
    more_open more =
        rw prom.open' (ne_eqb (suc (T.mine s).moved) (tally (T.mine s).wrote (length start)) (λ e. omega (arith, tally_here, tally_left more)))

    pub holds_more : {d : ℕ} → target σ s (suc c) ≡ some d
        → Inv start (change σ s (on_lock c (acquire s) σ.lent.locks) σ.lent.values σ.lent.logs (move_to 2 (suc c) (record_of σ s)))
        (amended s (advanced (length start) T.place (T.mine s)) T)
    holds_more {d} more =
        let L = on_lock c (acquire s) L₀ in
        let b = a L F₀ 2 (suc c) in
        let now : role (τ L F₀ 2 (suc c)) c s ≡ owning (current_of (look σ s c)) = role_next L F₀ 2 (suc c) 0 c refl ∙ unfold late role_in in rw (here, lt-leb (suc c) c (omega arith)) in
        lock_cell (acquire s) (move_to 2 (suc c) x) (I.shape.counts s)
        (λ e n. role_next L F₀ 2 (suc c) 0 e refl ∙ late_same 0 e n ∙ sym (role_late σ s e 0 ph))
        (takes s (role_other (frame b) c) now (I.locked c inn) (ap holds wants) refl refl lt lone)
        (stays s (role_other (frame b) c) now (I.valued c inn) (λ f e. cc) (λ f e. cc) (sym (ap pends wants)))
        (advanced (length start) T.place (T.mine s))
        (record {
          live = prom.live;
          open' = more_open more;
          moved = sym tally_here;
          wrote = λ e. rw (look_still L F₀ 2 (suc c) e) (prom.wrote e);
          value = λ e. rw (look_still L F₀ 2 (suc c) e) (prom.value e);
          sealed = (prom.sealed.0, omega (arith, prom.sealed.1));
          reads = prom.reads;
          apart = prom.apart;
          left = let t = target_some σ s (suc c) more in (d, wrote_eq d ∙ t.1, t.0, inside d t.1);
        })

    -- ---- the last promotion: the commit

    module _ (last : target σ s (suc c) ≡ none) where
      abbrev Lo : Locks
      Lo = on_lock c (acquire s) L₀

      abbrev κ : Store
      κ = change σ s (on_lock c (acquire s) σ.lent.locks) σ.lent.values σ.lent.logs (move_to 3 0 (record_of σ s))

      b : Acts (length start) σ s (move_to 3 0 x) κ
      b = a Lo F₀ 3 0

      was : (d : ℕ) → written σ s d ≡ true → (d ≡ c → ⊥) → role σ d s ≡ owning (current_of (look σ s d))
      unfolding late role_in
      was d w n = role_late σ s d 0 ph ∙ rw (w, leb_last last d w n)

      is : (d : ℕ) → written σ s d ≡ true → role κ d s ≡ pending (current_of (look σ s d))
      unfolding late role_in
      is d w = role_next Lo F₀ 3 0 1 d refl ∙ rw (w, le-leb 0 d (omega arith))

      dry : (d : ℕ) → written σ s d ≡ false → role κ d s ≡ role σ d s
      unfolding late
      dry d w = role_next Lo F₀ 3 0 1 d refl ∙ rw w (sym (role_late σ s d 0 ph ∙ rw w))

      -- nobody else holds a cell that it wrote
      alone_at : (d : ℕ) → written σ s d ≡ true → (t : ℕ) → (t ≡ s → ⊥) → holds (role σ d t) ≡ true → ⊥
      alone_at d w t n h =
          same d c
          (λ e. clash (member (lock_at σ.lent.locks c).readers t) ((I.locked c inn).readers t ∙ rw e at h) (lone t n))
          (λ ne. n ((I.locked d (inside d w)).alone s t (ap owns (was d w ne)) h))

      last_locked : (d : ℕ) → d < length start → Locked (role κ d) (lock_at (on_lock c (acquire s) σ.lent.locks) d)
      last_locked d ld =
          test (written σ s d)
          (λ w.
          same d c
          (λ e. rw e (rw (on_same (length start) c (acquire s) L₀ I.shape.long inn) (takes s (role_other (frame b) c) (is c here) (I.locked c inn) (ap holds wants) refl refl lt lone)))
          (λ n. rw (on_other (length start) c (acquire s) L₀ I.shape.long d n)
          (kept s (role_other (frame b) d) (is d w) (I.locked d ld) (sym (ap holds (was d w n))) (sym (ap owns (was d w n))) (λ _. refl))))
          (λ w. rw (on_other (length start) c (acquire s) L₀ I.shape.long d (λ e. clash (written σ s c) here (rw e at w))) (locked_still b d (dry d w) (I.locked d ld)))

      last_valued : (k : Commit) → k.wrote ≡ (T.mine s).wrote → k.value ≡ (T.mine s).value → (d : ℕ) → d < length start
          → Valued (role κ d) (get_or σ.lent.values d 0) (latest start (k ∷ T.commits) d)
      unfolding latest
      last_valued k kw kv d ld =
          (rw (kw, wrote_eq d, kv)
          (split (λ (x : ℕ). Valued (role κ d) (get_or σ.lent.values d 0) x) (written σ s d)
          (λ w. commits s (role_other (frame b) d) (is d w) (I.valued d ld) (alone_at d w) (ap pending (sym (prom.value d (unfold written in w)))))
          (λ w. valued_still b d (dry d w) (I.valued d ld))))

      pub last_done : (advanced (length start) T.place (T.mine s)).done ≡ true
      last_done = rw prom.open' (eq-eqb (suc (T.mine s).moved) (tally (T.mine s).wrote (length start)) (sym (tally_last last ∙ tally_here)))

      pub holds_last : let u = advanced (length start) T.place (T.mine s) in
          Inv start (change σ s (on_lock c (acquire s) σ.lent.locks) σ.lent.values σ.lent.logs (move_to 3 0 (record_of σ s))) (joined s u (as_commit s T.place u) T)
      holds_last =
          committing s I (frame b) (shaped b I.shape.values (on_long (length start) c (acquire s) L₀ I.shape.long) (I.shape.counts s))
          (advanced (length start) T.place (T.mine s)) (as_commit s T.place (advanced (length start) T.place (T.mine s))) refl
          (λ t e n p q r. alone_at e (sym (wrote_eq e) ∙ q) t n (promoting_holds σ t e p r))
          (record { sealed = (prom.sealed.0, omega (arith, prom.sealed.1)); newest = I.old; reads = prom.reads; apart = prom.apart })
          last_locked (last_valued (as_commit s T.place (advanced (length start) T.place (T.mine s))) refl refl)
          (link_mine b start (as_commit s T.place (advanced (length start) T.place (T.mine s)) ∷ T.commits) (suc T.place) (advanced (length start) T.place (T.mine s)) refl
          (record {
            live = prom.live;
            done = last_done;
          }))
          (λ e w. let q = sym (wrote_eq e) ∙ w in let o = (last_locked e (inside e q)).owner s (ap owns (is e q)) in (o.0, o.1))

  -- ---- waiting

  pub waits : (record_of σ s).phase ≡ 2 → (eqb (lock_at σ.lent.locks c).claimant 16 || eqb (lock_at σ.lent.locks c).claimant s) ≡ true
      → Inv start (change_locks σ (on_lock c (claim s) σ.lent.locks)) (tick (calm T))
  unfolding look role
  waits ph cl =
      let J = ticks (calms I) in
      let w = I.shape.long in
      record {
        shape = record { values = I.shape.values; records = I.shape.records; long = on_long (length start) c (claim s) L₀ w; logs = I.shape.logs; counts = I.shape.counts };
        locked = λ d ld.
            same d c
            (λ e. rw e (rw (on_same (length start) c (claim s) L₀ w inn) (claims (I.locked c inn) s cl (ap owns (role_here 0 ph) ∙ unfold role_in in refl) (ap claims? (role_here 0 ph) ∙ unfold role_in in refl))))
            (λ n. rw (on_other (length start) c (claim s) L₀ w d n) (I.locked d ld));
        valued = I.valued;
        link = J.link;
        lawful = I.lawful;
        begun = J.begun;
        old = J.old;
        just = just_off (change_locks σ (on_lock c (claim s) σ.lent.locks)) false T.commits refl;
      }

  -- ---- publishing and releasing

  module _ (fin : Finishing (T.mine s)) where
    finished : Finishing (advanced (length start) T.place (T.mine s))
    finished = record { live = fin.live; done = rw fin.done }

    module _ (ph : (record_of σ s).phase ≡ 3) where
      abbrev v : ℕ
      v = current_of (look σ s c)

      publish_any : (phase next : ℕ) → ((d : ℕ) → (d ≡ c → ⊥) → role (τ L₀ (set F₀ c v) phase next) d s ≡ role σ d s) → role (τ L₀ (set F₀ c v) phase next) c s ≡ published
          → Link start T.commits (suc T.place) next (look (τ L₀ (set F₀ c v) phase next) s) (advanced (length start) T.place (T.mine s)) phase
          → Inv start (τ L₀ (set F₀ c v) phase next) (amended s (advanced (length start) T.place (T.mine s)) T)
      publish_any phase next sp now li =
          let was : role σ c s ≡ pending v = role_here 1 ph ∙ unfold role_in in refl in
          let b = a L₀ (set F₀ c v) phase next in
          one_cell_lem L₀ (set F₀ c v) (move_to phase next x) I.shape.long (length-set F₀ c v ∙ I.shape.values) (I.shape.counts s)
          (λ d n. (sp d n, refl, get_or-set_other F₀ c d v 0 n))
          (kept s (role_other (frame b) c) now (I.locked c inn) (sym (ap holds was)) (sym (ap owns was)) (λ _. refl))
          (rw (get_or-set_same F₀ c v 0 (omega (arith, I.shape.values, inn))) (settles s (role_other (frame b) c) now (I.valued c inn) was refl))
          (advanced (length start) T.place (T.mine s)) li

      pub publishes_more : Inv start (change σ s σ.lent.locks (set σ.lent.values c (current_of (look σ s c))) σ.lent.logs (move_to 3 (suc c) (record_of σ s)))
          (amended s (advanced (length start) T.place (T.mine s)) T)
      publishes_more =
          publish_any 3 (suc c) (λ d n. role_next L₀ (set F₀ c v) 3 (suc c) 1 d refl ∙ late_same 1 d n ∙ sym (role_late σ s d 1 ph))
          (role_next L₀ (set F₀ c v) 3 (suc c) 1 c refl ∙ unfold late role_in in rw (here, lt-leb (suc c) c (omega arith))) finished

      pub publishes_last : target σ s (suc c) ≡ none
          → Inv start (change σ s σ.lent.locks (set σ.lent.values c (current_of (look σ s c))) σ.lent.logs (move_to 4 0 (record_of σ s)))
          (amended s (advanced (length start) T.place (T.mine s)) T)
      publishes_last last =
          publish_any 4 0
          (λ d n. role_next L₀ (set F₀ c v) 4 0 2 d refl ∙ sym (role_late σ s d 1 ph ∙ unfold late role_in in
          test (written σ s d) (λ w. rw (w, leb_last last d w n, le-leb 0 d (omega arith))) (λ w. rw w)))
          (role_next L₀ (set F₀ c v) 4 0 2 c refl ∙ unfold late role_in in rw (here, le-leb 0 c (omega arith))) finished

    module _ (ph : (record_of σ s).phase ≡ 4) where
      shown : role σ c s ≡ published
      shown = role_here 2 ph ∙ unfold role_in in refl

      release_any : (y : Session) → y.count ≤ 32
          → let τ = change σ s (on_lock c (vacate s) σ.lent.locks) σ.lent.values σ.lent.logs y in
          ((d : ℕ) → (d ≡ c → ⊥) → role τ d s ≡ role σ d s) → role τ c s ≡ out
          → (u : Txn) → Link start T.commits (suc T.place) y.next (look τ s) u y.phase → Inv start τ (amended s u T)
      release_any y k sp now u li =
          let b = acts I.shape s lt (on_lock c (vacate s) L₀) F₀ y in
          lock_cell (vacate s) y k sp
          (vacates s (role_other (frame b) c) now (I.locked c inn) refl ((I.locked c inn).owner s (ap owns shown)).0)
          (stays s (role_other (frame b) c) now (I.valued c inn) (λ f e. cc) (λ f e. cc) (sym (ap pends shown))) u li

      pub releases_more : Inv start (change σ s (on_lock c (vacate s) σ.lent.locks) σ.lent.values σ.lent.logs (move_to 4 (suc c) (record_of σ s)))
          (amended s (advanced (length start) T.place (T.mine s)) T)
      releases_more =
          let L = on_lock c (vacate s) L₀ in
          release_any (move_to 4 (suc c) x) (I.shape.counts s)
          (λ d n. role_next L F₀ 4 (suc c) 2 d refl ∙ late_same 2 d n ∙ sym (role_late σ s d 2 ph))
          (role_next L F₀ 4 (suc c) 2 c refl ∙ unfold late role_in in rw (here, lt-leb (suc c) c (omega arith)))
          (advanced (length start) T.place (T.mine s)) finished

      pub releases_last : target σ s (suc c) ≡ none
          → Inv start (change σ s (on_lock c (vacate s) σ.lent.locks) σ.lent.values σ.lent.logs idle) (amended s (closed (T.mine s)) T)
      releases_last last =
          let b = acts I.shape s lt (on_lock c (vacate s) L₀) F₀ idle in
          release_any idle (omega arith)
          (λ d n. role_gone b refl d ∙ sym (role_late σ s d 2 ph ∙ unfold late role_in in test (written σ s d) (λ w. rw (w, leb_last last d w n)) (λ w. rw w)))
          (role_gone b refl c) (closed (T.mine s)) refl
