-- A call for C that keeps its contract is one action more of a list (`Called`), by whatever limits are in force: a contract that asked for more is missed here. By
-- unfolding: `Called` asks of the sixteen records in force what a contract promises of every sixteen.
use Prim.Native.Nat.{ℕ, ◌%◌}
use mathlib.Core.Path.{◌≡◌}
use mathlib.Core.List.{List, ◌∷◌}
use lib.ListN.{length, take}
use Rattle.records.specs.declared.Call.{Call}
use Rattle.records.specs.declared.ReadManyReply.{ReadManyReply}
use Rattle.records.specs.declared.Session.{Session}
use Rattle.records.specs.declared.Sessions.{Sessions}
use Rattle.model.specs.Buffers.{Limits, ours, Store, session_at, with_session}
use Rattle.model.specs.History.{Action, one_call, many_reads, load_caps}
use Rattle.model.specs.Slices.{Slice, caps_before, caps_after}
use Rattle.model.specs.Step.{session_of, GoesBy}
use Rattle.model.proofs.Tables.{goes_by_ours}
use Rattle.contracts.specs.Lent.{before, afterwards}
use Rattle.many_reads.specs.Lent.{ReadsMany}
use Rattle.numbers.specs.declared.NumberReply.{NumberReply}
use Rattle.numbers.specs.declared.SetUpReply.{SetUpReply}
use Rattle.c_api.specs.InNumbers.{TakesInNumbersUnder, TakesInNumbers, TakesInNumbersBy, LoadsInNumbers, Heard, called, called_many, called_load, Called, then, then_many, then_load}

module _ (values classes readers claimants exclusives logs : Slice) (G : Limits) (ss : Sessions) (x : Session) where
  abbrev met : Store
  met = before G values classes readers claimants exclusives logs ss

  -- what is left, with the record y of session s put in its place
  abbrev left : ℕ → Session → Store
  left s y = afterwards G values classes readers claimants exclusives logs (with_session ss (s % 16) y)

  module _ {σ : Store} {ks : List Action} {h : List Heard} (made : Called σ ks h met) where
    module _ (k : Call) (r : NumberReply) (own : session_at ss (session_of k % 16) ≡ x) where
      -- a call that is handed the limits in force
      pub one_more_under : TakesInNumbersUnder G k values classes readers claimants exclusives logs x r
          → Called σ (one_call k ∷ ks) (called k r.number r.value ∷ h) (left (session_of k) r.session)
      one_more_under t = then made k r.number r.value (left (session_of k) r.session) (t ss own)

      -- one that is handed no table: a write where ours is in force, any other whatever is
      pub one_more : GoesBy k G → TakesInNumbers k values classes readers claimants exclusives logs x r
          → Called σ (one_call k ∷ ks) (called k r.number r.value ∷ h) (left (session_of k) r.session)
      one_more g t = one_more_under (t G g)

    pub many_more : (s : ℕ) (cells target : Slice) (r : ReadManyReply) → session_at ss (s % 16) ≡ x
        → ReadsMany s cells values classes readers claimants exclusives logs target x r
        → let cs = cells.entry.now in let m = length target.entry.now in
        Called σ (many_reads s cs m ∷ ks) (called_many s cs m r.number (take r.count target.exit.now) ∷ h) (left s r.session)
    many_more s cells target r own t = then_many made s cells.entry.now target.entry.now _ (t G ss own)

-- one that is handed the table in force
pub one_more_by : (caps values classes readers claimants exclusives logs : Slice) (ss : Sessions) (x : Session) {σ : Store} {ks : List Action} {h : List Heard}
    → Called σ ks h (before (caps_before caps) values classes readers claimants exclusives logs ss)
    → (k : Call) (r : NumberReply) → session_at ss (session_of k % 16) ≡ x
    → TakesInNumbersBy caps k values classes readers claimants exclusives logs x r
    → Called σ (one_call k ∷ ks) (called k r.number r.value ∷ h)
    (afterwards (caps_before caps) values classes readers claimants exclusives logs (with_session ss (session_of k % 16) r.session))
one_more_by caps values classes readers claimants exclusives logs ss x made k r own t =
    one_more_under values classes readers claimants exclusives logs (caps_before caps) ss x made k r own t

-- where our limits are in force, a call of every kind that is handed no table
pub one_more_by_ours : (values classes readers claimants exclusives logs : Slice) (ss : Sessions) (x : Session) {σ : Store} {ks : List Action} {h : List Heard}
    → Called σ ks h (before ours values classes readers claimants exclusives logs ss)
    → (k : Call) (r : NumberReply) → session_at ss (session_of k % 16) ≡ x
    → TakesInNumbers k values classes readers claimants exclusives logs x r
    → Called σ (one_call k ∷ ks) (called k r.number r.value ∷ h)
    (afterwards ours values classes readers claimants exclusives logs (with_session ss (session_of k % 16) r.session))
one_more_by_ours values classes readers claimants exclusives logs ss x made k r own t =
    one_more values classes readers claimants exclusives logs ours ss x made k r own (goes_by_ours k) t

-- a load puts its table in force
pub load_more : (caps table values classes readers claimants exclusives logs : Slice) (ss : Sessions) (r : SetUpReply) {σ : Store} {ks : List Action} {h : List Heard}
    → Called σ ks h (before (caps_before caps) values classes readers claimants exclusives logs ss)
    → LoadsInNumbers caps table values classes readers claimants exclusives logs ss r
    → Called σ (load_caps table.entry.now ∷ ks) (called_load table.entry.now r.number ∷ h)
    (afterwards (caps_after caps) values classes readers claimants exclusives logs r.sessions)
load_more caps table values classes readers claimants exclusives logs ss r made t =
    then_load made table.entry.now r.number r.value (afterwards (caps_after caps) values classes readers claimants exclusives logs r.sessions) t
