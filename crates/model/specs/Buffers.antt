-- What the caller lends to every call, and how it is read and changed (document 01, "What the caller lends"). Its words here: a figure is a value; of an
-- entry the figure found is `snapshot`, the present figure `current`, written `dirty`; a lock's mark is `exclusive`.
use Rattle.std.specs.Prelude.{ℕ, zero, suc, ◌+◌, ◌*◌, ◌/◌, ◌%◌, Bool, true, false, cond, not, ◌&&◌, ◌||◌, List, [], ◌∷◌, ◌++◌, leb, ltb, eqb, length, get_or, set, take, drop, replicate}
use Rattle.std.proofs.Math.Option.{Option, none, some}
use Rattle.std.proofs.lemmas.List.Edits.{sets}
use Rattle.model.specs.Search.{find, lowest}
use Rattle.model.specs.Readers.{odd, with_reader, without_reader}
use Rattle.records.specs.declared.Session.{Session}
use Rattle.records.specs.declared.Sessions.{Sessions}
use Rattle.records.specs.declared.Lock.{Lock}
pub use Rattle.records.specs.Records.{idle, running, with_entry, with_entries, move_to}

-- the locks: for each cell a reader set, a claimant and a writer mark, each kind in a list of its own (crate lock_records: as one run of records)
pub record Locks : Type 0 where
  pub readers : List ℕ
  pub claimants : List ℕ
  pub exclusives : List ℕ

-- one value and one class for each cell, the locks, and the logs of all sessions
pub record Buffers : Type 0 where
  pub values : List ℕ
  pub classes : List ℕ
  pub locks : Locks
  pub logs : List ℕ

-- lent beside them, each to those calls alone that read it: the table of caps in force (document 02, Paper 5), the cap of class k at index k
pub record Limits : Type 0 where
  pub caps : List ℕ

-- what is lent and the sixteen records: what one call hands to the next
pub record Store : Type 0 where
  pub lent : Buffers
  pub limits : Limits
  pub sessions : Sessions

-- the number of cells
unfoldable pub size : Buffers → ℕ
size B = length B.values

-- ---- session records

unfoldable pub session_at : Sessions → ℕ → Session
session_at ss s = get_or ss.records s idle

unfoldable pub with_session : Sessions → ℕ → Session → Sessions
with_session ss s x = record { records = set ss.records s x }

-- ---- logs

-- session s has the 128 words from 128 × s: its log
unfoldable pub log_in : List ℕ → ℕ → List ℕ
log_in logs s = take 128 (drop (128 * s) logs)

-- the logs with that log changed
unfoldable pub on_log : ℕ → (List ℕ → List ℕ) → List ℕ → List ℕ
on_log s f logs = take (128 * s) logs ++ (f (log_in logs s) ++ drop 128 (drop (128 * s) logs))

-- entry k of a log is the four words from 4 × k
unfoldable pub word : List ℕ → ℕ → ℕ → ℕ
word log k j = get_or log (4 * k + j) 0

-- an entry besides its cell: the value found, the present value, and whether it was written and whether it is held, by the fourth word's two lowest bits: written
-- counts one and held two, and what stands above is not looked at (document 02, Paper 4)
pub record Entry : Type 0 where
  pub snapshot : ℕ
  pub current : ℕ
  pub dirty : Bool
  pub held : Bool

-- the fourth word with one of the two marks set: the other stays, and what stands above is gone
unfoldable pub with_dirty : ℕ → ℕ
with_dirty w = w / 2 % 2 * 2 + 1

unfoldable pub with_held : ℕ → ℕ
with_held w = 2 + w % 2

unfoldable pub cell_at : List ℕ → ℕ → ℕ
cell_at log k = word log k 0

unfoldable pub entry_at : List ℕ → ℕ → Entry
entry_at log k = record { snapshot = word log k 1; current = word log k 2; dirty = odd (word log k 3); held = odd (word log k 3 / 2) }

-- which of the m entries is the cell's, and the entry
unfoldable pub slot_in : List ℕ → ℕ → ℕ → Option ℕ
slot_in log m c = find (cell_at log) m c

unfoldable pub entry_of : List ℕ → Option ℕ → Option Entry
entry_of log none = none
entry_of log (some k) = some (entry_at log k)

unfoldable pub look_in : List ℕ → ℕ → ℕ → Option Entry
look_in log m c = entry_of log (slot_in log m c)

-- written, by its bit
abbrev pub is_dirty : Option Entry → Bool
is_dirty none = false
is_dirty (some e) = e.dirty

-- an entry publishes, that is counts as written from the seal on, where it is held (document 02, Paper 4), or written with a present value that is not the one
-- found (Paper 2)
unfoldable pub publishes : Entry → Bool
publishes e = e.held || (e.dirty && not (eqb e.current e.snapshot))

abbrev pub is_published : Option Entry → Bool
is_published none = false
is_published (some e) = publishes e

-- a cell publishes where its first entry does
unfoldable pub publishes_in : List ℕ → ℕ → ℕ → Bool
publishes_in log m c = is_published (look_in log m c)

-- the lowest cell that publishes, not below a cell
unfoldable pub target_in : List ℕ → ℕ → ℕ → Option ℕ
target_in log m from = lowest (λ c. leb from c && publishes_in log m c) (cell_at log) m

-- the value found, and the present value; 0 where the cell is not in the log
abbrev pub found_of : Option Entry → ℕ
found_of none = 0
found_of (some e) = e.snapshot

abbrev pub current_of : Option Entry → ℕ
current_of none = 0
current_of (some e) = e.current

-- entry k new: found and present are the value v, not written and not held
unfoldable pub appended : List ℕ → ℕ → ℕ → ℕ → List ℕ
appended log k c v = sets log (4 * k) (c ∷ v ∷ v ∷ 0 ∷ [])

-- the present value v in entry k, which is then written, also where v is the value found
unfoldable pub updated : List ℕ → ℕ → ℕ → List ℕ
updated log k v = sets log (4 * k + 2) (v ∷ with_dirty (word log k 3) ∷ [])

-- entry k held
unfoldable pub marked : List ℕ → ℕ → List ℕ
marked log k = set log (4 * k + 3) (with_held (word log k 3))

-- ---- locks

-- no readers, claimant 16, mark 0
abbrev pub free : Lock
free = record { readers = 0; claimant = 16; exclusive = 0 }

unfoldable pub lock_at : Locks → ℕ → Lock
lock_at L c = record { readers = get_or L.readers c 0; claimant = get_or L.claimants c 16; exclusive = get_or L.exclusives c 0 }

unfoldable pub set_lock : ℕ → Lock → Locks → Locks
set_lock c l L =
    record {
      readers = set L.readers c l.readers;
      claimants = set L.claimants c l.claimant;
      exclusives = set L.exclusives c l.exclusive;
    }

-- the locks with that of one cell changed
unfoldable pub on_lock : ℕ → (Lock → Lock) → Locks → Locks
on_lock c f L = set_lock c (f (lock_at L c)) L

-- the locks with those of the cells of k entries changed, where a cell passes a test
unfoldable pub sweep : (ℕ → Bool) → (Lock → Lock) → (ℕ → ℕ) → ℕ → Locks → Locks
sweep at f cell zero L = L
sweep at f cell (suc k) L = let r = sweep at f cell k L in cond (at (cell k)) (on_lock (cell k) f r) r

-- a session joins the readers
unfoldable pub join : ℕ → Lock → Lock
join s l = record { readers = with_reader s l.readers; claimant = l.claimant; exclusive = l.exclusive }

-- it leaves them
unfoldable pub leave : ℕ → Lock → Lock
leave s l = record { readers = without_reader s l.readers; claimant = l.claimant; exclusive = l.exclusive }

-- releasing: it leaves them, nobody is claimant, and the mark is 0
unfoldable pub vacate : ℕ → Lock → Lock
vacate s l = record { readers = without_reader s l.readers; claimant = 16; exclusive = 0 }

-- rolling back: it leaves them, and claim and mark go where the claim is its own
unfoldable pub withdraw : ℕ → Lock → Lock
withdraw s l = cond (eqb l.claimant s) (vacate s l) (leave s l)

-- it becomes claimant
unfoldable pub claim : ℕ → Lock → Lock
claim s l = record { readers = l.readers; claimant = s; exclusive = l.exclusive }

-- it becomes claimant, with mark 1
unfoldable pub acquire : ℕ → Lock → Lock
acquire s l = record { readers = l.readers; claimant = s; exclusive = 1 }

-- ---- caps and set-up

-- our caps by class 0 to 15: a call that is handed no table goes by these
unfoldable pub our_caps : List ℕ
our_caps = 1 ∷ 6 ∷ 8 ∷ 10 ∷ 12 ∷ 15 ∷ 18 ∷ 21 ∷ 24 ∷ 27 ∷ 30 ∷ 36 ∷ 42 ∷ 48 ∷ 60 ∷ 4294967295 ∷ []

abbrev pub ours : Limits
ours = record { caps = our_caps }

-- the cap of a class, in a table T
unfoldable pub cap : List ℕ → ℕ → ℕ
cap T k = get_or T k 0

-- a table has 16 caps
unfoldable pub has_caps : List ℕ → Bool
has_caps T = eqb (length T) 16

-- it passes where the first cap is 1 or more and each is above the one before it (document 02, Paper 5)
unfoldable pub rise_from : ℕ → List ℕ → Bool
rise_from m [] = true
rise_from m (c ∷ cs) = ltb m c && rise_from c cs

unfoldable pub passes : List ℕ → Bool
passes T = rise_from 0 T

-- a class byte above 15 and a value above its cap do not fit
unfoldable pub fits : List ℕ → ℕ → ℕ → Bool
fits T k v = ltb k 16 && leb v (cap T k)

unfoldable pub all_fit : List ℕ → List ℕ → List ℕ → Bool
all_fit T [] ks = true
all_fit T (v ∷ vs) [] = false
all_fit T (v ∷ vs) (k ∷ ks) = fits T k v && all_fit T vs ks

-- n from 1 to 1,024 values; classes, reader sets, claimants and marks n long; 2,048 words of logs
unfoldable pub lengths_match : ℕ → ℕ → ℕ → ℕ → ℕ → ℕ → Bool
lengths_match n classes readers claimants exclusives logs =
    leb 1 n && leb n 1024 && eqb classes n && eqb readers n && eqb claimants n && eqb exclusives n && eqb logs 2048

unfoldable pub lengths_fit : Buffers → Bool
unfolding lengths_match
lengths_fit B =
    lengths_match (size B) (length B.classes) (length B.locks.readers) (length B.locks.claimants) (length B.locks.exclusives) (length B.logs)

-- all sessions idle, all locks empty, all log words 0; values, classes and limits are not changed
unfoldable pub fresh : Limits → Buffers → Store
fresh G B =
    let n = size B in
    record {
      lent = record {
        values = B.values;
        classes = B.classes;
        locks = record { readers = replicate n 0; claimants = replicate n 16; exclusives = replicate n 0 };
        logs = replicate 2048 0;
      };
      limits = G;
      sessions = record { records = replicate 16 idle };
    }
