-- What a call on number slices is given and leaves, as the model's store. A `Slice` is a slice as it is passed (`.entry`) and as it is left (`.exit`), `now` its
-- words (model/specs/Slices.antt).
use Rattle.std.specs.Prelude.{◌≡◌, ℕ, ◌%◌, List}
use Rattle.std.specs.Borrow.{Bor}
use Rattle.model.specs.Slices.{Slice, caps_before, caps_after, IsPart}
use Rattle.model.specs.Buffers.{Locks, Buffers, Limits, ours, Store, session_at}
use Rattle.model.specs.Step.{outcome, plan_of, effect, set_up_effect, peek_shows, TakesUnder, GoesBy, TakesRecord}
use Rattle.model.specs.Load.{load_effect}
use Rattle.records.specs.declared.Call.{Call}
use Rattle.records.specs.declared.Call.TheVariants.{Peek}
use Rattle.records.specs.declared.Session.{Session}
use Rattle.records.specs.declared.Sessions.{Sessions}
use Rattle.records.specs.declared.SessionReply.{SessionReply}
use Rattle.records.specs.declared.Reply.{Reply}
use Rattle.records.specs.declared.Plan.{Plan}

-- the locks that three lists are; and three slices, before a call and after it
abbrev pub locks_of : List ℕ → List ℕ → List ℕ → Locks
locks_of readers claimants exclusives = record { readers = readers; claimants = claimants; exclusives = exclusives }

abbrev pub locks_before : Slice → Slice → Slice → Locks
locks_before readers claimants exclusives = locks_of readers.entry.now claimants.entry.now exclusives.entry.now

abbrev pub locks_after : Slice → Slice → Slice → Locks
locks_after readers claimants exclusives = locks_of readers.exit.now claimants.exit.now exclusives.exit.now

-- the buffers that six lists are, and the store with these limits and records
abbrev pub buffers_of : List ℕ → List ℕ → List ℕ → List ℕ → List ℕ → List ℕ → Buffers
buffers_of values classes readers claimants exclusives logs =
    record { values = values; classes = classes; locks = locks_of readers claimants exclusives; logs = logs }

abbrev pub store_of : Limits → List ℕ → List ℕ → List ℕ → List ℕ → List ℕ → List ℕ → Sessions → Store
store_of G values classes readers claimants exclusives logs sessions =
    record { lent = buffers_of values classes readers claimants exclusives logs; limits = G; sessions = sessions }

-- the lent buffers before the call, and after it
abbrev pub lent_before : Slice → Slice → Slice → Slice → Slice → Slice → Buffers
lent_before values classes readers claimants exclusives logs =
    buffers_of values.entry.now classes.entry.now readers.entry.now claimants.entry.now exclusives.entry.now logs.entry.now

abbrev pub lent_after : Slice → Slice → Slice → Slice → Slice → Slice → Buffers
lent_after values classes readers claimants exclusives logs =
    buffers_of values.exit.now classes.exit.now readers.exit.now claimants.exit.now exclusives.exit.now logs.exit.now

-- the store of these, the limits G and sixteen records
abbrev pub before : Limits → Slice → Slice → Slice → Slice → Slice → Slice → Sessions → Store
before G values classes readers claimants exclusives logs ss = record { lent = lent_before values classes readers claimants exclusives logs; limits = G; sessions = ss }

abbrev pub afterwards : Limits → Slice → Slice → Slice → Slice → Slice → Slice → Sessions → Store
afterwards G values classes readers claimants exclusives logs ss = record { lent = lent_after values classes readers claimants exclusives logs; limits = G; sessions = ss }

-- the call k, handed the record x of its session, answers and leaves what the model says
abbrev pub TakesOne : Call → Slice → Slice → Slice → Slice → Slice → Slice → Session → SessionReply → Type 0
TakesOne k values classes readers claimants exclusives logs x r =
    TakesRecord k (lent_before values classes readers claimants exclusives logs) x r.answer (lent_after values classes readers claimants exclusives logs) r.session

-- the same of a call that is handed the table in force, too
abbrev pub TakesOneBy : Slice → Call → Slice → Slice → Slice → Slice → Slice → Slice → Session → SessionReply → Type 0
TakesOneBy caps k values classes readers claimants exclusives logs x r =
    TakesUnder (caps_before caps) k (lent_before values classes readers claimants exclusives logs) x r.answer (lent_after values classes readers claimants exclusives logs) r.session

-- and of a call that is handed all sixteen, and no table
abbrev pub Takes : Call → Slice → Slice → Slice → Slice → Slice → Slice → Sessions → Reply → Type 0
Takes k values classes readers claimants exclusives logs ss r =
    (G : Limits) → GoesBy k G
    → outcome r.answer (afterwards G values classes readers claimants exclusives logs r.sessions)
    ≡ effect k (before G values classes readers claimants exclusives logs ss)

-- set-up under the limits G: by our caps, and by a table
abbrev pub SetsUpUnder : Limits → Slice → Slice → Slice → Slice → Slice → Slice → Sessions → Reply → Type 0
SetsUpUnder G values classes readers claimants exclusives logs ss r =
    outcome r.answer (afterwards G values classes readers claimants exclusives logs r.sessions)
    ≡ set_up_effect (before G values classes readers claimants exclusives logs ss)

abbrev pub SetsUp : Slice → Slice → Slice → Slice → Slice → Slice → Sessions → Reply → Type 0
SetsUp values classes readers claimants exclusives logs ss r = SetsUpUnder ours values classes readers claimants exclusives logs ss r

abbrev pub SetsUpBy : Slice → Slice → Slice → Slice → Slice → Slice → Slice → Sessions → Reply → Type 0
SetsUpBy caps values classes readers claimants exclusives logs ss r = SetsUpUnder (caps_before caps) values classes readers claimants exclusives logs ss r

-- a load of a table in the place of the one in force
abbrev pub Loads : Slice → Slice → Slice → Slice → Slice → Slice → Slice → Slice → Sessions → Reply → Type 0
Loads caps table values classes readers claimants exclusives logs ss r =
    outcome r.answer (afterwards (caps_after caps) values classes readers claimants exclusives logs r.sessions)
    ≡ load_effect table.entry.now (before (caps_before caps) values classes readers claimants exclusives logs ss)

-- ---- a peek of cell c by session s, with its record x: of every sixteen records of which x is the session's, whatever the limits are

-- its plan
abbrev pub PeekPlans : ℕ → ℕ → Slice → Slice → Slice → Slice → Slice → Slice → Session → Plan → Type 0
PeekPlans s c values classes readers claimants exclusives logs x p =
    (G : Limits) (ss : Sessions) → session_at ss (s % 16) ≡ x → p ≡ plan_of (Peek s c) (before G values classes readers claimants exclusives logs ss)

-- the part that it hands back
abbrev pub HandsBack : ℕ → ℕ → Slice → Slice → Slice → Slice → Slice → Slice → Session → Bor (List ℕ) → Type 0
HandsBack s c values classes readers claimants exclusives logs x r =
    (G : Limits) (ss : Sessions) → session_at ss (s % 16) ≡ x
    → IsPart values.entry logs.entry (peek_shows s c (before G values classes readers claimants exclusives logs ss)) r
