-- A call that keeps its contract is one action more of a list (`Ran`), by whatever limits are in force: so what is promised of lists (`code_meets`) speaks of code, and a
-- contract that asked for more is missed here. By unfolding: `Ran` asks of the sixteen records in force what a contract promises of every sixteen.
use Prim.Native.Nat.{ℕ, ◌%◌}
use mathlib.Core.Path.{◌≡◌}
use mathlib.Core.List.{List, ◌∷◌}
use lib.ListN.{length, take}
use Rattle.records.specs.declared.Answer.{Answer}
use Rattle.records.specs.declared.Call.{Call}
use Rattle.records.specs.declared.ReadManyReply.{ReadManyReply}
use Rattle.records.specs.declared.Session.{Session}
use Rattle.records.specs.declared.Sessions.{Sessions}
use Rattle.model.specs.Buffers.{Buffers, Limits, ours, Store, session_at, with_session}
use Rattle.model.specs.History.{Action, one_call, many_reads, Event, event, with_found, reads_event}
use Rattle.model.specs.Isolation.{Ran, then}
use Rattle.model.specs.ManyReads.{read_many, TakesReads}
use Rattle.model.specs.Step.{session_of, TakesUnder, GoesBy, TakesRecord}
use Rattle.model.specs.Told.{found_by}
use Rattle.model.proofs.Demand3.{ran_many}
use Rattle.model.proofs.Tables.{goes_by_ours}

module _ {σ : Store} {ks : List Action} {h : List Event} (B C : Buffers) (G : Limits) (ss : Sessions) (x y : Session)
    (ran : Ran σ ks h (record { lent = B; limits = G; sessions = ss })) where
  -- the store afterwards: what the call left, and its session's record put in its place
  abbrev left : ℕ → Store
  left s = record { lent = C; limits = G; sessions = with_session ss (s % 16) y }

  module _ (k : Call) (a : Answer) (own : session_at ss (session_of k % 16) ≡ x) where
    abbrev τ : Store
    τ = left (session_of k)

    -- a call that is handed the limits in force
    pub one_more_under : TakesUnder G k B x a C y → Ran σ (one_call k ∷ ks) (with_found (found_by k τ) (event k a) ∷ h) τ
    one_more_under t = then ran k a τ (t ss own)

    -- one that is handed no table: a write where ours is in force, any other whatever is
    pub one_more : GoesBy k G → TakesRecord k B x a C y → Ran σ (one_call k ∷ ks) (with_found (found_by k τ) (event k a) ∷ h) τ
    one_more g t = one_more_under (t G g)

  -- many reads
  pub many_more : (s : ℕ) (cs target after : List ℕ) (r : ReadManyReply) → session_at ss (s % 16) ≡ x → y ≡ r.session → TakesReads s cs B x target r C after
      → Ran σ (many_reads s cs (length target) ∷ ks)
      (reads_event s cs (length target) (take r.count after) (read_many s cs (length target) (record { lent = B; limits = G; sessions = ss })).last ∷ h) (left s)
  many_more s cs target after r own e t = rw e (ran_many ran s cs target _ (t G ss own))

-- where our limits are in force, a call of every kind that is handed no table
pub one_more_by_ours : {σ : Store} {ks : List Action} {h : List Event} (B C : Buffers) (ss : Sessions) (x y : Session)
    → Ran σ ks h (record { lent = B; limits = ours; sessions = ss }) → (k : Call) (a : Answer) → session_at ss (session_of k % 16) ≡ x → TakesRecord k B x a C y
    → let τ : Store = record { lent = C; limits = ours; sessions = with_session ss (session_of k % 16) y } in
    Ran σ (one_call k ∷ ks) (with_found (found_by k τ) (event k a) ∷ h) τ
one_more_by_ours B C ss x y ran k a own t = one_more B C ours ss x y ran k a own (goes_by_ours k) t
