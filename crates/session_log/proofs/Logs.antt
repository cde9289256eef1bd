-- A session's log, as the code has it: handed back to be read, or lent on as a part of the logs and put back.
use mathlib.Core.Path.{◌≡◌}
use mathlib.Core.List.{List, ◌++◌}
use Prim.Native.Nat.{ℕ, ◌+◌, ◌*◌, ◌-◌, ◌<◌, ◌≤◌}
use native.Mathlib.Omega.{arith}
use lib.ListN.{length, take, drop}
use Rattle.model.specs.Buffers.{log_in, on_log}
use Rattle.model.proofs.Laws.{log_length}

abbrev pub cut : List ℕ → ℕ → List ℕ
cut logs s = take (128 * s + 128 - 128 * s) (drop (128 * s) logs)

-- the logs with a log put back, as the code leaves them
abbrev pub puts : List ℕ → ℕ → List ℕ → List ℕ
puts logs s p = take (128 * s) logs ++ (p ++ drop (128 * s + 128 - 128 * s) (drop (128 * s) logs))

width : (s : ℕ) → 128 * s + 128 - 128 * s ≡ 128
width s = omega arith

pub cut_is : (logs : List ℕ) (s : ℕ) → cut logs s ≡ log_in logs s
unfolding log_in
cut_is logs s = rw (width s)

pub puts_is : (logs : List ℕ) (s : ℕ) (p : List ℕ) → puts logs s p ≡ on_log s (λ log. p) logs
unfolding on_log
puts_is logs s p = rw (width s)

-- a session's log has 128 words, as a function hands it back and as a part
pub log_long : (logs : List ℕ) (s : ℕ) → length logs ≡ 2048 → s < 16 → (W : List ℕ) → W ≡ log_in logs s → length W ≡ 128
log_long logs s long low W w = rw w (log_length logs s low long)

pub cut_long : (logs : List ℕ) (s : ℕ) → length logs ≡ 2048 → s < 16 → length (cut logs s) ≡ 128
cut_long logs s long low = log_long logs s long low (cut logs s) (cut_is logs s)

-- the part lies in the logs
pub log_fits : (s : ℕ) → s < 16 → (logs : List ℕ) → length logs ≡ 2048 → 128 * s + 128 ≤ length logs
log_fits s low logs long = omega arith
