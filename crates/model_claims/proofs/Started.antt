-- A start with a transaction open that has read and written: demand 3 holds of every list of actions from there, and in one of them, by computation, the
-- transaction commits. With another value told as read the same store is no start.
use Prim.Native.Nat.{ℕ}
use native.Mathlib.Omega.{arith}
use mathlib.Core.Path.{◌≡◌, refl, subst}
use mathlib.Core.Bool.{Bool, true, not, ◌&&◌}
use mathlib.Core.List.{List, [], ◌∷◌, map, reverse}
use lib.ListN.{length, replicate}
use Rattle.records.specs.declared.Call.TheVariants.{Begin, Read, Write, Seal, Advance}
use Rattle.records.specs.declared.Answer.{Answer}
use Rattle.records.specs.declared.Answer.TheVariants.{Done, Value, Sealed, Moved, Waiting, Committed}
use Rattle.model.specs.Buffers.{ours, Store, idle, fresh}
use Rattle.model.specs.Computing.{computing, counting}
use Rattle.model.specs.History.{Action, as_actions, Event, run, events, Item, item, history, name, Name, transaction, wrote, reads_before_writing, snapshot, commit, committed}
use Rattle.model.specs.Isolation.{Last, last_commit, no_commit, Demand3}
use Rattle.model.specs.Search.{below}
use Rattle.model.specs.Effects.{record_of}
use Rattle.model.specs.Told.{began, got, put}
use Rattle.model.proofs.Demand3.{demand3_from}
use Rattle.model.proofs.Ledger.{Ledger, blank, amend, starts, observe, ledger}
use Rattle.model.proofs.Names.{committed_in}
use Rattle.model_claims.proofs.Resuming.{by_sixteen, at_start, restart, open_of, open_below, open_items, resumes}
use Rattle.model.proofs.Runs.{inv_fresh, Ready, ledger_of, ready}
use Rattle.model_claims.proofs.SerialExamples.{given}
use Rattle.model.proofs.Tools.{clash, upd}

-- two cells of class 2 with values 3 and 5; session 0 runs, with cell 1 read and then 4 written to cell 0, and is a reader of both
unfoldable pub started : Store
started =
    record {
      lent = record {
        values = 3 ∷ 5 ∷ [];
        classes = 2 ∷ 2 ∷ [];
        locks = record { readers = 1 ∷ 1 ∷ []; claimants = 16 ∷ 16 ∷ []; exclusives = 0 ∷ 0 ∷ [] };
        logs = 1 ∷ 5 ∷ 5 ∷ 0 ∷ 0 ∷ 3 ∷ 4 ∷ 1 ∷ replicate 2040 0;
      };
      limits = ours;
      sessions = record { records = record { phase = 1; count = 2; next = 0 } ∷ replicate 15 idle };
    }

-- what it has told, with v as the value read in cell 1
abbrev pub told_with : ℕ → List Item
told_with v = item 0 0 (put 0 4 3) ∷ item 0 0 (got 1 v) ∷ item 0 0 began ∷ []

-- ---- it is a start

-- the actions that lead there from set-up, the newest first
abbrev opening : List Action
opening = as_actions (Write 0 0 4 ∷ Read 0 1 ∷ Begin 0 ∷ [])

abbrev set_up_ready : Ready (fresh ours given.lent) [] blank
set_up_ready = ready (fresh ours given.lent) (inv_fresh ours given.lent)

record Led : Type 0 where
  store : run (fresh ours given.lent) opening ≡ started
  items : open_items (history [] (fresh ours given.lent) opening) (ledger_of set_up_ready opening) ≡ told_with 5
  records : length (run (fresh ours given.lent) opening).sessions.records ≡ 16
  sixteen : below 2 (λ s. (record_of (run (fresh ours given.lent) opening) s).phase) 16 ≡ true

led : Led
unfolding started given open_items open_below open_of at_start ledger observe amend starts upd computing counting
led = record { store = refl; items = refl; records = refl; sixteen = refl }

pub started_ready : Ready started (told_with 5) (restart (ledger_of set_up_ready opening))
started_ready =
    let T = ledger_of set_up_ready opening in
    subst (λ (σ : Store). Ready σ (told_with 5) (restart T)) led.store
    (subst (λ (h : List Item). Ready (run (fresh ours given.lent) opening) h (restart T)) led.items
    (resumes set_up_ready opening (by_sixteen (run (fresh ours given.lent) opening) led.records led.sixteen)))

pub started_demand3 : (actions : List Action) → Demand3 (told_with 5) started actions
started_demand3 = demand3_from started_ready

-- ---- it commits

-- session 1 reads the cell that session 0 has written, which waits for it
unfoldable pub onward : List Action
onward = as_actions (Begin 1 ∷ Read 1 0 ∷ Seal 0 ∷ Advance 0 ∷ Seal 1 ∷ Advance 0 ∷ Advance 0 ∷ Advance 0 ∷ [])

-- all that is told then
abbrev pub told_after : ℕ → List Item
told_after v = history (told_with v) started (reverse onward)

pub onward_answers : map {B = Answer} (λ (e : Event). e.answer) (events started (reverse onward)) ≡ reverse (Done ∷ Value 3 ∷ Sealed ∷ Waiting 1 ∷ Committed ∷ Moved ∷ Moved ∷ Committed ∷ [])
unfolding started onward computing counting
onward_answers = refl

-- its snapshot is its seal, at place 3; its commit the second advance, at place 6; session 1's snapshot and commit are at place 5
pub onward_commits : (snapshot (transaction (name 0 0) (told_after 5)) ≡ 3) × (commit 2 (transaction (name 0 0) (told_after 5)) ≡ 6)
    × (reads_before_writing (transaction (name 0 0) (told_after 5)) ≡ record { cell = 1; value = 5 } ∷ [])
    × (snapshot (transaction (name 1 1) (told_after 5)) ≡ 5) × (commit 2 (transaction (name 1 1) (told_after 5)) ≡ 5)
    × ((run started (reverse onward)).lent.values ≡ 4 ∷ 5 ∷ [])
unfolding started onward computing counting
onward_commits = (refl, refl, refl, refl, refl, refl)

-- by the theorem: what it read before the start is the last commit's before its snapshot
pub onward_read : Last (3 ∷ 5 ∷ []) (told_after 5) 1 3 5
unfolding started onward computing counting
onward_read = ((started_demand3 onward).isolated.reads (name 0 0) refl).0

-- ---- with 6 told as read there is no ledger that makes it a start

pub misread_refused : (T : Ledger) → Ready started (told_with 6) T → ⊥
unfolding started onward computing counting
misread_refused T R = go ((demand3_from R onward).isolated.reads (name 0 0) refl).0
  where
    free : Name → Bool
    free x = not (committed 2 (transaction x (told_after 6)) && wrote (transaction x (told_after 6)) 1)

    go : Last (3 ∷ 5 ∷ []) (told_after 6) 1 3 6 → ⊥
    go (no_commit _ e) = omega arith
    go (last_commit x c _ _) = clash (free x) (committed_in 2 free (told_after 6) refl x c.commits) (rw (c.commits, c.wrote))
