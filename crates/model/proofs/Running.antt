-- A running session's notes and its transaction, as the calls change both.
use Prim.Native.Nat.{ℕ}
use mathlib.Core.Path.{◌≡◌, refl, sym, ◌∙◌, ap}
use mathlib.Core.Bool.{true, false, cond, not, ◌||◌}
use mathlib.Core.Option.{Option, none, some}
use lib.Dec.{eqb}
use Rattle.model.specs.Buffers.{Entry, is_dirty}
use Rattle.model.specs.Told.{ReadOf}
use Rattle.model.specs.Isolation.{All}
use Rattle.model.proofs.Invariant.{all_map, Running}
use Rattle.model.proofs.Ledger.{Txn, saw, wrote_to, holds_to}
use Rattle.model.proofs.Tools.{same, split, test, nothing, clash, upd_same, upd_other}
use Rattle.model.proofs.View.{is_held, entered_unpublished, noted_publishes, held_publishes}

module _ {f g : ℕ → Option Entry} {t : Txn} (c v : ℕ) (R : Running f t) (o : (d : ℕ) → (d ≡ c → ⊥) → g d ≡ f d) where
  pub run_enter : f c ≡ none → g c ≡ some (record { snapshot = v; current = v; dirty = false; held = false }) → Running g t
  run_enter h k =
      record {
        live = R.live;
        open' = R.open';
        moved = R.moved;
        unsealed = R.unsealed;
        dirtied = λ d. same d c (λ e. rw (e, k) (R.dirtied c ∙ rw h)) (λ n. rw (o d n) (R.dirtied d));
        held = λ d. same d c (λ e. rw (e, k) (R.held c ∙ rw h)) (λ n. rw (o d n) (R.held d));
        wrote = λ d. same d c (λ e. rw (e, k, entered_unpublished v) (R.wrote c ∙ rw h)) (λ n. rw (o d n) (R.wrote d));
        value = λ d. same d c (λ e. rw (e, k) (λ q. absurd (clash false q refl))) (λ n. rw (o d n) (R.value d));
        reads = all_map (λ r x. same r.cell c (λ e. nothing (sym h ∙ rw e at x.1)) (λ n. (x.0, o r.cell n ∙ x.1, x.2))) t.reads R.reads;
        clean = λ d. same d c (λ e. rw (e, k) (λ y p q. cc)) (λ n. rw (o d n) (R.clean d));
      }

  pub run_note : (e : Entry) → f c ≡ some e → g c ≡ some (record { snapshot = e.snapshot; current = v; dirty = true; held = e.held }) → Running g (wrote_to c v e.snapshot t)
  run_note e h k =
      record {
        live = R.live;
        open' = R.open';
        moved = R.moved;
        unsealed = R.unsealed;
        dirtied = λ d. same d c (λ w. rw (w, k, upd_same t.dirtied c true)) (λ n. rw (o d n, upd_other t.dirtied c true d n) (R.dirtied d));
        held = λ d. same d c (λ w. rw (w, k) (R.held c ∙ ap is_held h)) (λ n. rw (o d n) (R.held d));
        wrote = λ d. same d c (λ w. rw (w, k, upd_same t.wrote c (t.held c || not (eqb v e.snapshot)), noted_publishes e.snapshot v e.held, R.held c, h))
            (λ n. rw (o d n, upd_other t.wrote c (t.held c || not (eqb v e.snapshot)) d n) (R.wrote d));
        value = λ d. same d c (λ w. rw (w, k, upd_same t.value c v) (λ q. refl)) (λ n. rw (o d n, upd_other t.value c v d n) (R.value d));
        reads = (
          (record { snapshot = e.snapshot; current = v; dirty = true; held = e.held }, k, refl),
          all_map (λ r x. same r.cell c
              (λ w. (record { snapshot = e.snapshot; current = v; dirty = true; held = e.held }, rw w k, cc (x.1, x.2)))
              (λ n. (x.0, o r.cell n ∙ x.1, x.2))) t.reads R.reads,
        );
        clean = λ d. same d c (λ e. rw (e, k) (λ y p q. cc)) (λ n. rw (o d n) (R.clean d));
      }

-- an entry that is held
module _ {f g : ℕ → Option Entry} {t : Txn} (c : ℕ) (R : Running f t) (o : (d : ℕ) → (d ≡ c → ⊥) → g d ≡ f d) where
  pub run_hold : (e : Entry) → f c ≡ some e → g c ≡ some (record { snapshot = e.snapshot; current = e.current; dirty = e.dirty; held = true })
      → Running g (holds_to c e.snapshot t)
  run_hold e h k =
      let d₀ : t.dirtied c ≡ e.dirty = R.dirtied c ∙ ap is_dirty h in
      let v = cond (t.dirtied c) (t.value c) e.snapshot in
      let y : Entry = record { snapshot = e.snapshot; current = e.current; dirty = e.dirty; held = true } in
      let now : v ≡ e.current = test e.dirty (λ q. rw (d₀, q) (R.value c (rw (h, q)) ∙ rw h)) (λ q. rw (d₀, q) (sym (R.clean c e h q))) in
      record {
        live = R.live;
        open' = R.open';
        moved = R.moved;
        unsealed = R.unsealed;
        dirtied = λ d. same d c (λ w. rw (w, k) d₀) (λ n. rw (o d n) (R.dirtied d));
        held = λ d. same d c (λ w. rw (w, k, upd_same t.held c true)) (λ n. rw (o d n, upd_other t.held c true d n) (R.held d));
        wrote = λ d. same d c (λ w. rw (w, k, upd_same t.wrote c true, held_publishes y refl)) (λ n. rw (o d n, upd_other t.wrote c true d n) (R.wrote d));
        value = λ d. same d c (λ w. rw (w, k, upd_same t.value c v) (λ _. now)) (λ n. rw (o d n, upd_other t.value c v d n) (R.value d));
        reads = (
          (y, k, refl),
          all_map (λ r x. same r.cell c (λ w. (y, rw w k, cc (x.1, x.2))) (λ n. (x.0, o r.cell n ∙ x.1, x.2))) t.reads R.reads,
        );
        clean = λ d. same d c (λ w. rw (w, k) (λ z p q. let a : e.current ≡ e.snapshot = R.clean c e h (cc (p, q)) in cc (p, a))) (λ n. rw (o d n) (R.clean d));
      }

pub run_saw : {f : ℕ → Option Entry} {t : Txn} (c : ℕ) (e : Entry) → Running f t → f c ≡ some e → Running f (saw c e.current t)
run_saw {f} {t} c e R h =
    record {
      live = R.live;
      open' = R.open';
      moved = R.moved;
      unsealed = R.unsealed;
      dirtied = R.dirtied;
      held = R.held;
      wrote = R.wrote;
      value = R.value;
      clean = R.clean;
      reads = split (All (λ (r : ReadOf). (y : Entry) × (f r.cell ≡ some y) × (y.snapshot ≡ r.value))) (t.dirtied c)
          (λ w. R.reads)
          (λ w. ((e, h, sym (R.clean c e h (sym (ap is_dirty h) ∙ sym (R.dirtied c) ∙ w))), R.reads));
    }
