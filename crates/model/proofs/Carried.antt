-- A plan's turn put back in the store, with the locks changed, is what the plan answers and leaves.
use mathlib.Core.Path.{◌≡◌, refl, sym, ap, ◌∙◌}
use mathlib.Core.List.{List, [], ◌∷◌, ◌++◌}
use Prim.Native.Nat.{ℕ, ◌*◌, ◌<◌}
use native.Mathlib.Omega.{arith}
use lib.ListN.{length, get_or, set, take, drop, length-set, take-append-drop}
use lib.Seq.{sets, set-get_or, length-take-le, take-append_seam, drop-append_seam}
use Rattle.model.specs.Buffers.{Store, session_at, with_session, log_in, on_log, appended, updated, marked}
use Rattle.model.specs.Effects.{answer, after, log_of, record_of}
use Rattle.model.specs.Step.{outcome}
use Rattle.model.specs.Turns.{turn_of, changed, carried}
use Rattle.records.specs.declared.Sessions.{Sessions}
use Rattle.records.specs.declared.Plan.{Plan}
use Rattle.records.specs.declared.Plan.TheVariants.{Refuse, Start, Tell, Enter, Update, EnterUpdate, Mark, EnterMark, RollBack, Cancel, CommitReads, BeginPromotion, Wait, Acquire, Publish, Release, ShowStore, ShowLog}
use Rattle.model.proofs.Laws.{log_length, log_same}

-- a log, and a record, put back as it was
pub same_log : (s : ℕ) (logs : List ℕ) → on_log s (λ log. log_in logs s) logs ≡ logs
unfolding on_log log_in
same_log s logs = rw (take-append-drop, take-append-drop)

pub same_record : (ss : Sessions) (s : ℕ) → with_session ss s (session_at ss s) ≡ ss
unfolding with_session session_at
same_record ss s = rw set-get_or

length-sets : (vs l : List ℕ) (i : ℕ) → length (sets l i vs) ≡ length l
length-sets [] l i = refl
length-sets (v ∷ vs) l i = length-sets vs (set l i v) _ ∙ length-set l i v

pub length-appended : (log : List ℕ) (k c v : ℕ) → length (appended log k c v) ≡ length log
unfolding appended
length-appended log k c v = length-sets (c ∷ v ∷ v ∷ 0 ∷ []) log (4 * k)

-- the logs with one changed, in three pieces
pieces : (s : ℕ) (g : List ℕ → List ℕ) (logs : List ℕ) → on_log s g logs ≡ take (128 * s) logs ++ (g (log_in logs s) ++ drop 128 (drop (128 * s) logs))
unfolding on_log
pieces s g logs = refl

module _ (s : ℕ) (σ : Store) (low : s < 16) (long : length σ.lent.logs ≡ 2048) where
  front : length (take (128 * s) σ.lent.logs) ≡ 128 * s
  front = length-take-le (128 * s) σ.lent.logs (omega arith)

  -- a log changed twice
  pub over : (f g : List ℕ → List ℕ) → length (f (log_in σ.lent.logs s)) ≡ 128
      → on_log s (λ log. g (f (log_in σ.lent.logs s))) σ.lent.logs ≡ on_log s g (on_log s f σ.lent.logs)
  over f g whole =
      let logs = σ.lent.logs in
      let A = take (128 * s) logs in
      let p = f (log_in logs s) in
      let B = drop 128 (drop (128 * s) logs) in
      let d : drop (128 * s) (A ++ (p ++ B)) ≡ p ++ B = ap (λ (i : ℕ). drop i (A ++ (p ++ B))) (sym front) ∙ drop-append_seam A (p ++ B) in
      let t : take (128 * s) (A ++ (p ++ B)) ≡ A = ap (λ (i : ℕ). take i (A ++ (p ++ B))) (sym front) ∙ take-append_seam A (p ++ B) in
      let e : drop 128 (p ++ B) ≡ B = ap (λ (i : ℕ). drop i (p ++ B)) (sym whole) ∙ drop-append_seam p B in
      let m : log_in (on_log s f logs) s ≡ p = log_same s logs low long f whole in
      let h : take (128 * s) (on_log s f logs) ≡ A = ap (take (128 * s)) (pieces s f logs) ∙ t in
      let k : drop 128 (drop (128 * s) (on_log s f logs)) ≡ B = ap (λ (l : List ℕ). drop 128 (drop (128 * s) l)) (pieces s f logs) ∙ ap (drop 128) d ∙ e in
      sym (pieces s g (on_log s f logs) ∙ rw (h, m, k) (sym (pieces s (λ log. g p) logs)))

  pub carries : (p : Plan) → carried s (turn_of p σ.lent.values (log_of σ s) (record_of σ s)) σ ≡ outcome (answer s p σ) (after s p σ)
  unfolding carried turn_of changed answer after
  carries (Refuse k) = rw (same_log s σ.lent.logs, same_record σ.sessions s)
  carries Start = rw (same_log s σ.lent.logs)
  carries (Tell v) = rw (same_log s σ.lent.logs, same_record σ.sessions s)
  carries (Enter c) = unfold on_log in refl
  carries (Update k v) = rw (same_record σ.sessions s) (unfold on_log in refl)
  carries (EnterUpdate c v) =
      rw (over (λ log. appended log (record_of σ s).count c (get_or σ.lent.values c 0)) (λ log. updated log (record_of σ s).count v)
      (length-appended _ _ _ _ ∙ log_length σ.lent.logs s low long))
  carries (Mark k v) = rw (same_record σ.sessions s) (unfold on_log in refl)
  carries (EnterMark c) =
      rw (over (λ log. appended log (record_of σ s).count c (get_or σ.lent.values c 0)) (λ log. marked log (record_of σ s).count)
      (length-appended _ _ _ _ ∙ log_length σ.lent.logs s low long))
  carries RollBack = rw (same_log s σ.lent.logs)
  carries Cancel = rw (same_log s σ.lent.logs)
  carries CommitReads = rw (same_log s σ.lent.logs)
  carries BeginPromotion = rw (same_log s σ.lent.logs)
  carries (Wait c k) = rw (same_log s σ.lent.logs, same_record σ.sessions s)
  carries (Acquire c) = rw (same_log s σ.lent.logs)
  carries (Publish c v) = rw (same_log s σ.lent.logs)
  carries (Release c) = rw (same_log s σ.lent.logs)
  carries (ShowStore c) = rw (same_log s σ.lent.logs, same_record σ.sessions s)
  carries (ShowLog k) = rw (same_log s σ.lent.logs, same_record σ.sessions s)
