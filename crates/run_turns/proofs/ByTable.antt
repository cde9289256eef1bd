-- A table that the caller hands in: a write's turn by it on every run of the length given, and one loaded.
use mathlib.Core.Path.{◌≡◌, refl, sym, ap, ◌∙◌}
use mathlib.Core.List.{List}
use Prim.Native.Nat.{ℕ, ◌%◌}
use lib.ListN.{length}
use Rattle.model.specs.Buffers.{Buffers, Limits, free, session_at, with_session, log_in}
use Rattle.model.specs.Load.{load_effect}
use Rattle.model.specs.Plans.{plan, write_plan}
use Rattle.model.specs.Step.{outcome, plan_of}
use Rattle.model.specs.Turns.{leaves, turn_of}
use Rattle.records.specs.declared.Session.{Session}
use Rattle.records.specs.declared.Sessions.{Sessions}
use Rattle.records.specs.declared.Lock.{Lock}
use Rattle.records.specs.declared.Plan.{Plan}
use Rattle.records.specs.declared.Refusal.{Refusal}
use Rattle.records.specs.declared.Turn.{Turn as CallTurn}
use Rattle.records.specs.declared.Answer.{Answer}
use Rattle.records.specs.declared.Answer.TheVariants.{Refused}
use Rattle.records.specs.declared.Call.TheVariants.{Write}
use Rattle.records.specs.Records.{refusal_number}
use Rattle.refusals.specs.declared.Lengths.{Lengths}
use Rattle.refusals.specs.Pieces.{match_of, admission}
use Rattle.calls.specs.Pieces.{WriteDecided}
use Rattle.turns.specs.InLogs.{in_logs}
use Rattle.loads.specs.Loads.{Lends}
use Rattle.refusals.proofs.Admission
use Rattle.run_turns.specs.declared.Turn.{Turn}
use Rattle.run_changes.specs.Run.{lent_on, store_on, count_of, swept, on_run}
use Rattle.run_turns.specs.Turns.{lengths_on, only_answer, IsTurnUnder, IsLoad}
use Rattle.model.proofs.Tables.{has_caps_lem, has_not}
use Rattle.run_changes.proofs.Changes.{each_length, unzipped_at}
use Rattle.run_turns.proofs.OnRun.{classed, turned_down_under, taken_under}

-- ---- the write of v to cell c by session s, with the lock l of c

module _ (T vs cs W : List ℕ) (ss : Sessions) (m : ℕ) (l : Lock) (s c v : ℕ) where
  abbrev G : Limits
  G = record { caps = T }

  pub write_7 : (length T ≡ 16 → ⊥) → (t : Turn) → t ≡ only_answer ss (Refused 7) → IsTurnUnder G (Write s c v) c vs cs m l W ss vs W t
  unfolding count_of swept plan_of
  write_7 h t f = rw f (tt, λ L q o. Admission.refuses (Write s c v) (store_on G vs cs L W ss) 7 (rw (has_not T h)))

  module _ (h : length T ≡ 16) (N : Lengths) (f : N ≡ lengths_on (length vs) (length cs) m (length W)) where
    pub write_refuses : (r : Refusal) → refusal_number r ≡ admission (match_of N) s → (t : Turn) → t ≡ only_answer ss (Refused (refusal_number r))
        → IsTurnUnder G (Write s c v) c vs cs m l W ss vs W t
    write_refuses r e t g = turned_down_under (Write s c v) vs cs W ss m l N f s refl r e t g G (has_caps_lem T h) c

    -- p is what was decided of the session's log and record, as the code has them
    module _ (z : 0 ≡ admission (match_of N) s) (x : Session) (y : x ≡ session_at ss (s % 16)) (log : List ℕ) (w : log ≡ log_in W s) (p : Plan)
        (d : p ≡ write_plan T cs (length cs) log x free c v) where
      decides : p ≡ write_plan T cs (length vs) (log_in W s) x free c v
      decides = d ∙ rw (w, classed (length vs) (length cs) m W N f s z)

      pub write_decided : WriteDecided (length vs) (log_in W s) x c v p
      write_decided = record { caps = T; classes = cs; is = decides }

      pub writes : (t : CallTurn) (Ws : List ℕ)
          → ((T ks : List ℕ) → p ≡ write_plan T ks (length vs) (log_in W s) x free c v
          → leaves t.answer vs Ws t.session t.change ≡ in_logs s W (turn_of (write_plan T ks (length vs) (log_in W s) x l c v) vs (log_in W s) x))
          → (r : Turn) → r ≡ record { reply = record { answer = t.answer; sessions = with_session ss (s % 16) t.session }; change = on_run t.change s x.count }
          → IsTurnUnder G (Write s c v) c vs cs m l W ss vs Ws r
      unfolding plan
      writes t Ws g r e =
          taken_under (Write s c v) vs cs W ss m l N f s refl z x y G (has_caps_lem T h) c
          (λ L o. ap (λ (k : Lock). write_plan T cs (length vs) (log_in W s) x k c v) (sym o ∙ sym (unzipped_at L c))) t vs Ws (g T cs decides) r e

-- ---- a table T loaded in the place of `caps`, where it leaves T'

pub loads_on : (T caps T' vs cs : List ℕ) (ss : Sessions) (m w : ℕ) (a b : Answer)
    → ((B : Buffers) → Lends vs cs m m m w B → outcome a (record { lent = B; limits = record { caps = T' }; sessions = ss }) ≡ load_effect T (record { lent = B; limits = record { caps = caps }; sessions = ss }))
    → b ≡ a → IsLoad T caps T' vs cs m w ss (record { answer = b; sessions = ss })
loads_on T caps T' vs cs ss m w a b f g L logs q i =
    rw g
    (f (lent_on vs cs L logs) (record {
      values = refl;
      classes = refl;
      readers = sym q ∙ sym (each_length (λ l. l.readers) L);
      claimants = sym q ∙ sym (each_length (λ l. l.claimant) L);
      exclusives = sym q ∙ sym (each_length (λ l. l.exclusive) L);
      logs = sym i;
    }))
