-- A turn of a session's log is one of the logs: where the log was lent on as a part of them, and where it was only read.
use mathlib.Core.Path.{◌≡◌, refl, sym, ap, ◌∙◌}
use mathlib.Core.List.{List}
use Prim.Native.Nat.{ℕ, suc, ◌+◌, ◌*◌, ◌<◌}
use lib.ListN.{length, get_or, set, length-set}
use Rattle.model.specs.Buffers.{log_in, word, appended, with_dirty, with_held, updated, marked}
use Rattle.model.specs.Turns.{TurnEffect, leaves, turn_of}
use Rattle.records.specs.declared.Session.{Session}
use Rattle.records.specs.declared.Answer.{Answer}
use Rattle.records.specs.declared.Change.{Change}
use Rattle.records.specs.declared.Plan.{Plan}
use Rattle.records.specs.declared.Plan.TheVariants.{Refuse, Start, Tell, Enter, Update, EnterUpdate, Mark, EnterMark, RollBack, Cancel, CommitReads, BeginPromotion, Wait, Acquire, Publish, Release, ShowStore, ShowLog}
use Rattle.model.proofs.Laws.{log_length, log_same, length-on}
use Rattle.model.proofs.Carried.{same_log, length-appended}
use Rattle.turns.specs.InLogs.{in_logs}
use Rattle.session_log.proofs.Logs.{cut, puts, cut_is, puts_is}

length-updated : (log : List ℕ) (k v : ℕ) → length (updated log k v) ≡ length log
unfolding updated
length-updated log k v = length-set (set log (4 * k + 2) v) (suc (4 * k + 2)) (with_dirty (word log k 3)) ∙ length-set log (4 * k + 2) v

length_marked : (log : List ℕ) (k : ℕ) → length (marked log k) ≡ length log
unfolding marked
length_marked log k = length-set log (4 * k + 3) (with_held (word log k 3))

-- a turn leaves a log as long as it was
pub turn_length : (p : Plan) (vs log : List ℕ) (x : Session) → length (turn_of p vs log x).log ≡ length log
unfolding turn_of
turn_length (Refuse k) vs log x = refl
turn_length Start vs log x = refl
turn_length (Tell v) vs log x = refl
turn_length (Enter c) vs log x = length-appended log x.count c (get_or vs c 0)
turn_length (Update k v) vs log x = length-updated log k v
turn_length (EnterUpdate c v) vs log x =
    length-updated (appended log x.count c (get_or vs c 0)) x.count v ∙ length-appended log x.count c (get_or vs c 0)
turn_length (Mark k v) vs log x = length_marked log k
turn_length (EnterMark c) vs log x =
    length_marked (appended log x.count c (get_or vs c 0)) x.count ∙ length-appended log x.count c (get_or vs c 0)
turn_length RollBack vs log x = refl
turn_length Cancel vs log x = refl
turn_length CommitReads vs log x = refl
turn_length BeginPromotion vs log x = refl
turn_length (Wait c k) vs log x = refl
turn_length (Acquire c) vs log x = refl
turn_length (Publish c v) vs log x = refl
turn_length (Release c) vs log x = refl
turn_length (ShowStore c) vs log x = refl
turn_length (ShowLog k) vs log x = refl

module _ (s : ℕ) (logs : List ℕ) (a : Answer) (us : List ℕ) (y : Session) (d : Change) (p : Plan) (vs : List ℕ) (x : Session) where
  -- the log W was put back among the logs
  pub put_in : (W : List ℕ) → leaves a us W y d ≡ turn_of p vs (cut logs s) x
      → leaves a us (puts logs s W) y d ≡ in_logs s logs (turn_of p vs (log_in logs s) x)
  put_in W t =
      ap (λ (l : List ℕ). leaves a us l y d) (puts_is logs s W)
      ∙ ap (in_logs s logs) t ∙ ap (λ (l : List ℕ). in_logs s logs (turn_of p vs l x)) (cut_is logs s)

  -- the log W, the session's, was left as it was
  pub kept_in : (W : List ℕ) → W ≡ log_in logs s → leaves a us W y d ≡ turn_of p vs W x
      → leaves a us logs y d ≡ in_logs s logs (turn_of p vs (log_in logs s) x)
  kept_in W v t =
      let f : leaves a us (log_in logs s) y d ≡ turn_of p vs (log_in logs s) x = rw v at t in
      ap (λ (l : List ℕ). leaves a us l y d) (sym (same_log s logs)) ∙ ap (in_logs s logs) f

-- what a turn leaves of the logs Ws: the session's log is the turn's, and they are as long as they were
module _ (s : ℕ) (logs : List ℕ) (low : s < 16) (long : length logs ≡ 2048) (a : Answer) (us Ws : List ℕ) (y : Session) (d : Change) (p : Plan) (vs : List ℕ) (x : Session)
    (t : leaves a us Ws y d ≡ in_logs s logs (turn_of p vs (log_in logs s) x)) where
  whole : length (turn_of p vs (log_in logs s) x).log ≡ 128
  whole = turn_length p vs (log_in logs s) x ∙ log_length logs s low long

  pub left : log_in Ws s ≡ (turn_of p vs (log_in logs s) x).log
  left = ap (λ (f : TurnEffect). log_in f.log s) t ∙ log_same s logs low long (λ log. (turn_of p vs (log_in logs s) x).log) whole

  pub still : length Ws ≡ 2048
  still = ap (λ (f : TurnEffect). length f.log) t ∙ length-on s logs low long (λ log. (turn_of p vs (log_in logs s) x).log) whole ∙ long
