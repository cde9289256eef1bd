-- What set-up and a call leave of each form: the contracts of set-up and calls (crates contracts and lock_records), of a form's fields.
use Rattle.std.specs.Prelude.{ℕ, List, [], ◌∷◌, replicate}
use Rattle.std.specs.Borrow.{Bor}
use Rattle.contracts.specs.Lent.{Takes, SetsUp}
use Rattle.lock_records.specs.Lent.{TakesRun, SetsUpRun}
use Rattle.model.specs.Slices.{Slice}
use Rattle.records.specs.declared.Call.{Call}
use Rattle.records.specs.declared.Lock.{Lock}
use Rattle.records.specs.declared.Sessions.{Sessions}
use Rattle.lock_records_check.specs.declared.TheConstants.{CLASSES, UNUSED}
use Rattle.lock_records_check.specs.declared.Slices.{Slices}
use Rattle.lock_records_check.specs.declared.Run.{Run}

-- a field as a lent slice, from what it holds before and after; these contracts do not tell where it lies
abbrev pub placed : List ℕ → Bor (List ℕ)
placed xs = record { ref_ptr = (0, 0); now = xs }

abbrev pub lent : List ℕ → List ℕ → Slice
lent xs ys = record { entry = placed xs; exit = placed ys }

-- ---- what is handed to set-up, besides the values 3 and 5: unused records, and 7 in each part of a lock and each log word

abbrev pub unused : Sessions
unused = record { records = replicate 16 UNUSED }

abbrev pub lock_of_sevens : Lock
lock_of_sevens = record { readers = 7; claimant = 7; exclusive = 7 }

-- ---- what is left

-- set-up leaves the form x, its reply in it
abbrev pub SlicesSetUp : Slices → Type 0
SlicesSetUp x =
    SetsUp
    (lent (3 ∷ 5 ∷ []) x.values)
    (lent CLASSES CLASSES)
    (lent (replicate 2 7) x.readers)
    (lent (replicate 2 7) x.claimants)
    (lent (replicate 2 7) x.exclusives)
    (lent (replicate 2048 7) x.logs)
    unused
    x.reply

abbrev pub RunSetUp : Run → Type 0
RunSetUp x = SetsUpRun (lent (3 ∷ 5 ∷ []) x.values) (lent CLASSES CLASSES) (replicate 2 lock_of_sevens) x.locks (lent (replicate 2048 7) x.logs) unused x.reply

-- the call k, of the records in x's reply, makes the form y of x, its reply in it
abbrev pub SlicesTake : Call → Slices → Slices → Type 0
SlicesTake k x y =
    Takes
    k
    (lent x.values y.values)
    (lent CLASSES CLASSES)
    (lent x.readers y.readers)
    (lent x.claimants y.claimants)
    (lent x.exclusives y.exclusives)
    (lent x.logs y.logs)
    x.reply.sessions
    y.reply

abbrev pub RunTakes : Call → Run → Run → Type 0
RunTakes k x y = TakesRun k (lent x.values y.values) (lent CLASSES CLASSES) x.locks y.locks (lent x.logs y.logs) x.reply.sessions y.reply
