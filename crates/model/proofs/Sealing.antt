-- Sealing keeps the invariant.
use Prim.Native.Nat.{ℕ, suc, ◌<◌}
use native.Mathlib.Omega.{arith}
use mathlib.Core.Path.{◌≡◌, refl, sym, ◌∙◌, ap, subst}
use mathlib.Core.Logic.{◌⊎◌, inl, inr}
use mathlib.Core.Bool.{true, false, cond, not}
use mathlib.Core.Option.{none, some}
use mathlib.Core.List.{List, ◌∷◌}
use lib.ListN.{length, get_or}
use borrow.Author.Tests.{ne_eqb, le-leb}
use Rattle.model.specs.Buffers.{Locks, Store, idle, move_to, Entry, cell_at, entry_at, slot_in, publishes_in, lock_at, leave}
use Rattle.model.specs.Told.{ReadOf}
use Rattle.model.specs.Isolation.{All}
use Rattle.model.specs.Search.{find, tally}
use Rattle.model.specs.Effects.{reads_dropped, change, record_of, log_of}
use Rattle.model.proofs.Effects.{not_pending, Acts, ses_same, frame, look_mine, role_gone, shaped, link_mine, unknown, running_role, look_is, slot_none, slot_some, acts, amended, joined}
use Rattle.model.proofs.Invariant.{role_in, role_of, role, latest, before_latest, all_map, Running, Inv, Frame, role_other, quiet, committing}
use Rattle.model.proofs.Laws.{Long, long_sweep, lock_sweep, leave_leave, tally_more}
use Rattle.model.proofs.Ledger.{Txn, closed, sealed_at, Ledger, as_commit, value_before}
use Rattle.model.proofs.Roles.{Role, out, wanting, holds, owns, pends, claims?, Locked, Valued, kept, leaves, stays}
use Rattle.model.proofs.Tools.{test, which, clash}
use Rattle.model.proofs.View.{slot, look, written, published_marked}

module _ {start : List ℕ} {σ : Store} {T : Ledger} (s : ℕ) (lt : s < 16) (I : Inv start σ T) (ph : (record_of σ s).phase ≡ 1) where
  run : Running (look σ s) (T.mine s)
  run = rw ph at (I.link s)

  -- what a running session is to a cell
  known : (c : ℕ) {k : ℕ} → find (cell_at (log_of σ s)) (record_of σ s).count c ≡ some k → (holds (role σ c s) ≡ true) × (owns (role σ c s) ≡ false)
  known c {k} p =
      let e = running_role σ s c (entry_at (log_of σ s) k) ph (slot_some σ s c (unfold slot slot_in in p)) in
      (rw e, rw e)

  -- a running session claims nothing
  unclaimed : (c : ℕ) {k : ℕ} → c < length start → find (cell_at (log_of σ s)) (record_of σ s).count c ≡ some k → (lock_at σ.lent.locks c).claimant ≡ s → ⊥
  unclaimed c {k} lc p e = go (I.locked c lc).claimer
    where
      go : ((lock_at σ.lent.locks c).claimant ≡ 16) ⊎ (claims? (role σ c (lock_at σ.lent.locks c).claimant) ≡ true) → ⊥
      go (inl f) = omega (arith, lt)
      go (inr h) =
          clash (claims? (role σ c s)) (subst (λ (t : ℕ). claims? (role σ c t) ≡ true) e h)
          (ap claims? (running_role σ s c (entry_at (log_of σ s) k) ph (slot_some σ s c (unfold slot slot_in in p))))

  wrote_none : (c : ℕ) → find (cell_at (log_of σ s)) (record_of σ s).count c ≡ none → written σ s c ≡ false
  unfolding written
  wrote_none c p = rw (slot_none σ s c (unfold slot slot_in in p))

  no_pend : (c : ℕ) → pends (role σ c s) ≡ false
  no_pend c = not_pending σ s c (λ e. omega (arith, ph, e))

  after : ℕ → Role
  after c = cond (written σ s c) wanting out

  -- the entries that do not publish are left, the others stay
  dropped_locked : {τ : Store} → Frame s σ τ → (c : ℕ) → c < length start → role τ c s ≡ after c → Locked (role τ c) (lock_at (reads_dropped (log_of σ s) (record_of σ s).count s σ.lent.locks) c)
  unfolding reads_dropped publishes_in after
  dropped_locked f c lc b =
      unfold written look in
      rw (lock_sweep (λ c. not (written σ s c)) (leave s) (cell_at (log_of σ s)) σ.lent.locks (length start) I.shape.long (leave_leave s) c lc (record_of σ s).count)
      (which (find (cell_at (log_of σ s)) (record_of σ s).count c)
      (λ p. rw p (kept s (role_other f c) b (I.locked c lc) (rw (wrote_none c p, unknown σ s c p)) (rw (wrote_none c p, unknown σ s c p)) (rw (wrote_none c p, unknown σ s c p) (λ h. h))))
      (λ k p.
      let w = known c p in
      test (written σ s c)
      (λ q. rw (p, q) (kept s (role_other f c) b (I.locked c lc) (rw q (sym w.0)) (rw q (sym w.1)) (rw q (λ _. refl))))
      (λ q. rw (p, q) (leaves s (role_other f c) b (I.locked c lc) (rw q) (unclaimed c lc p)))))

  dropped_valued : {τ : Store} → Frame s σ τ → (c : ℕ) → c < length start → role τ c s ≡ after c → Valued (role τ c) (get_or σ.lent.values c 0) (latest start T.commits c)
  unfolding after
  dropped_valued f c lc b =
      test (written σ s c)
      (λ q. stays s (role_other f c) (rw q at b) (I.valued c lc) (λ f e. cc) (λ f e. cc) (sym (no_pend c)))
      (λ q. stays s (role_other f c) (rw q at b) (I.valued c lc) (λ f e. cc) (λ f e. cc) (sym (no_pend c)))

  module _ (inside : (c : ℕ) (e : Entry) → look σ s c ≡ some e → c < length start) where
    -- each value read is the last committed one
    reads_fair : All (λ (r : ReadOf). r.value ≡ value_before T.place start T.commits r.cell) (T.mine s).reads
    reads_fair =
        all_map
        (λ r x.
        sym x.2 ∙ (I.valued r.cell (inside r.cell x.0 x.1)).fresh s x.0.snapshot (running_role σ s r.cell x.0 ph x.1)
        ∙ sym (before_latest start T.place r.cell T.commits I.old))
        (T.mine s).reads run.reads

    abbrev D : Locks
    D = reads_dropped (log_of σ s) (record_of σ s).count s σ.lent.locks

    dropped_long : Long (length start) D
    unfolding reads_dropped
    dropped_long = long_sweep (λ c. not (publishes_in (log_of σ s) (record_of σ s).count c)) (leave s) (cell_at (log_of σ s)) σ.lent.locks (length start) I.shape.long (record_of σ s).count

    pub wrote_is : (c : ℕ) → (T.mine s).wrote c ≡ written σ s c
    unfolding written
    wrote_is c = run.wrote c

    -- a cell that publishes: it promotes
    pub promotes : (c : ℕ) → c < length start → written σ s c ≡ true
        → Inv start (change σ s (reads_dropped (log_of σ s) (record_of σ s).count s σ.lent.locks) σ.lent.values σ.lent.logs (move_to 2 0 (record_of σ s)))
        (amended s (sealed_at (length start) T.place (T.mine s)) T)
    promotes c lc wc =
        quiet s I (frame a) (shaped a I.shape.values dropped_long (I.shape.counts s)) u (suc T.place) (omega arith)
        (λ d ld. dropped_locked (frame a) d ld (role_is d))
        (λ d ld. dropped_valued (frame a) d ld (role_is d))
        (link_mine a start T.commits (suc T.place) u refl
        (record {
          live = run.live;
          open' = ne_eqb (tally u.wrote (length start)) 0 (λ e. omega (arith, tally_more u.wrote 0 (length start) c (omega arith) lc (wrote_is c ∙ wc)));
          moved = run.moved ∙ unfold tally in refl;
          wrote = λ d. rw (look_same d) (run.wrote d);
          value = λ d. rw (look_same d) (λ w. run.value d (published_marked (look σ s d) w));
          sealed = (I.begun, omega arith);
          reads = reads_fair;
          apart = all_map (λ j h c p q. h) T.commits I.old;
          left = (c, wrote_is c ∙ wc, omega arith, lc);
        }))
      where
        u : Txn
        u = sealed_at (length start) T.place (T.mine s)

        τ : Store
        τ = change σ s D σ.lent.values σ.lent.logs (move_to 2 0 (record_of σ s))

        a : Acts (length start) σ s (move_to 2 0 (record_of σ s)) τ
        a = acts I.shape s lt D σ.lent.values (move_to 2 0 (record_of σ s))

        look_same : (d : ℕ) → look τ s d ≡ look σ s d
        look_same d = look_mine a d ∙ sym (look_is σ s d)

        role_is : (d : ℕ) → role τ d s ≡ after d
        role_is d =
            unfold role role_of role_in written after in
            rw (ses_same a, look_same d) (which (look σ s d) (λ p. rw p) (λ e p. rw (p, le-leb 0 d (omega arith))))

    -- nothing publishes: it commits with its seal
    pub rests : ((c : ℕ) → written σ s c ≡ false)
        → let u = closed (sealed_at (length start) T.place (T.mine s)) in
        Inv start (change σ s (reads_dropped (log_of σ s) (record_of σ s).count s σ.lent.locks) σ.lent.values σ.lent.logs idle)
        (joined s u (as_commit s T.place u) T)
    rests wn =
        committing s I (frame a) (shaped a I.shape.values dropped_long (omega arith)) u (as_commit s T.place u) refl
        (λ t c n p q r. clash ((T.mine s).wrote c) q (dry c))
        (record {
          sealed = (I.begun, omega arith);
          newest = I.old;
          reads = reads_fair;
          apart = all_map (λ j h c p q. absurd (clash ((T.mine s).wrote c) q (dry c))) T.commits I.old;
        })
        (λ d ld. dropped_locked (frame a) d ld (role_is d))
        (λ d ld. unfold latest in rw (dry d) (dropped_valued (frame a) d ld (role_is d)))
        (link_mine a start (as_commit s T.place u ∷ T.commits) (suc T.place) u refl refl)
        (λ c w. absurd (clash ((T.mine s).wrote c) w (dry c)))
      where
        u : Txn
        u = closed (sealed_at (length start) T.place (T.mine s))

        τ : Store
        τ = change σ s D σ.lent.values σ.lent.logs idle

        a : Acts (length start) σ s idle τ
        a = acts I.shape s lt D σ.lent.values idle

        dry : (c : ℕ) → (T.mine s).wrote c ≡ false
        dry c = wrote_is c ∙ wn c

        role_is : (d : ℕ) → role τ d s ≡ after d
        role_is d = role_gone a refl d ∙ unfold after in rw (wn d)
