-- What a call decides (document 01, "The steps" and "When a call is turned down"): a plan, which holds every test that turns a call down or chooses what it does.
-- Refusals in their order: 7 in `table_fits`, 7 and 1 in `admit`, 9 and 2 in `guard`, 3 in `known`, 8 in `write_plan`, 4 in `write_capped`, 14 in `peek_slot`, 5 and 6 in `new_cell`;
-- 10 to 13 are the fields'; 15, and 13 of a list, are of many reads (ManyReads.antt); 16 is of set-up and a load, 17 of a load (Step.antt, Load.antt).
use Rattle.std.specs.Prelude.{ℕ, Bool, true, cond, not, ◌&&◌, ◌||◌, List, leb, ltb, eqb, get_or}
use Rattle.std.proofs.Math.Option.{Option, none, some}
use Rattle.model.specs.Search.{some?, below}
use Rattle.model.specs.Readers.{other_readers}
use Rattle.model.specs.Buffers.{Buffers, cell_at, entry_at, slot_in, look_in, target_in, current_of, Limits, cap, has_caps, lengths_fit}
use Rattle.records.specs.declared.Session.{Session}
use Rattle.records.specs.declared.Lock.{Lock}
use Rattle.records.specs.declared.Call.{Call}
use Rattle.records.specs.declared.Call.TheVariants.{Begin, Read, Write, Seal, Advance, Abandon, Peek, Hold}
use Rattle.records.specs.declared.Plan.{Plan}
use Rattle.records.specs.declared.Plan.TheVariants.{Refuse, Start, Tell, Enter, Update, EnterUpdate, Mark, EnterMark, RollBack, Cancel, CommitReads, BeginPromotion, Wait, Acquire, Publish, Release, ShowStore, ShowLog}

-- a test, what becomes of the call where it fails, and what where it passes
abbrev pub require : {A : Type 0} → Bool → A → A → A
require ok refused p = cond ok p refused

-- wrong lengths are 7, then a session above 15 is 1
abbrev pub admit : Buffers → ℕ → Plan → Plan
admit B s p = require (lengths_fit B) (Refuse 7) (require (ltb s 16) (Refuse 1) p)

-- 9 unless the phase is at most 4 and, in phases 1 to 4, there are at most 32 entries, each of a cell below n
unfoldable pub entries_fit : ℕ → List ℕ → Session → Bool
entries_fit n log x = leb x.phase 4 && (eqb x.phase 0 || (leb x.count 32 && below n (cell_at log) x.count))

-- and unless, in phases 2 to 4, there is a cell that publishes, not below next
unfoldable pub record_fits : ℕ → List ℕ → Session → Bool
record_fits n log x = entries_fit n log x && (leb x.phase 1 || some? (target_in log x.count x.next))

-- 9, then 2 where the call does not fit the phase
unfoldable pub guard : ℕ → List ℕ → Session → Bool → Plan → Plan
guard n log x fit p = require (record_fits n log x) (Refuse 9) (require fit (Refuse 2) p)

-- a cell not below n is 3
unfoldable pub known : ℕ → ℕ → Plan → Plan
known n c p = require (ltb c n) (Refuse 3) p

-- somebody is claimant: any byte but 16
unfoldable pub claimed : Lock → Bool
claimed l = not (eqb l.claimant 16)

-- a new cell: with 32 entries 5; a claimed lock rolls the session back, 6
unfoldable pub new_cell : Session → Lock → Plan → Plan
new_cell x l p = require (ltb x.count 32) (Refuse 5) (cond (claimed l) RollBack p)

-- read: a cell in the log gives its present value; otherwise it is entered
unfoldable pub read_slot : List ℕ → Session → Lock → ℕ → Option ℕ → Plan
read_slot log x l c none = new_cell x l (Enter c)
read_slot log x l c (some k) = Tell (entry_at log k).current

unfoldable pub read_plan : ℕ → List ℕ → Session → Lock → ℕ → Plan
read_plan n log x l c = guard n log x (eqb x.phase 1) (known n c (read_slot log x l c (slot_in log x.count c)))

-- hold: as read, and the entry is marked held (document 02, Paper 4)
unfoldable pub hold_slot : List ℕ → Session → Lock → ℕ → Option ℕ → Plan
hold_slot log x l c none = new_cell x l (EnterMark c)
hold_slot log x l c (some k) = Mark k (entry_at log k).current

unfoldable pub hold_plan : ℕ → List ℕ → Session → Lock → ℕ → Plan
hold_plan n log x l c = guard n log x (eqb x.phase 1) (known n c (hold_slot log x l c (slot_in log x.count c)))

-- write, by the table T, which need not pass: a class above 15 is 8, a value above the cap m is 4 (below); then a new cell is entered as by read, and the entry is updated
unfoldable pub write_slot : Session → Lock → ℕ → ℕ → Option ℕ → Plan
write_slot x l c v none = new_cell x l (EnterUpdate c v)
write_slot x l c v (some k) = Update k v

unfoldable pub write_capped : List ℕ → Session → Lock → ℕ → ℕ → ℕ → Plan
write_capped log x l c v m = require (leb v m) (Refuse 4) (write_slot x l c v (slot_in log x.count c))

unfoldable pub write_plan : List ℕ → List ℕ → ℕ → List ℕ → Session → Lock → ℕ → ℕ → Plan
write_plan T ks n log x l c v =
    guard n log x (eqb x.phase 1) (known n c (require (ltb (get_or ks c 0) 16) (Refuse 8) (write_capped log x l c v (cap T (get_or ks c 0)))))

-- seal: where nothing publishes it commits, else promotion begins
unfoldable pub seal_target : Option ℕ → Plan
seal_target none = CommitReads
seal_target (some c) = BeginPromotion

unfoldable pub seal_plan : ℕ → List ℕ → Session → Plan
seal_plan n log x = guard n log x (eqb x.phase 1) (seal_target (target_in log x.count 0))

-- advance in phase 2: a claimant other than the session rolls it back; with other readers it waits for so many (document 02, Paper 6); else the lock is acquired
unfoldable pub promote_plan : ℕ → ℕ → Lock → Plan
promote_plan s c l =
    cond (claimed l && not (eqb l.claimant s)) RollBack (cond (eqb (other_readers s l.readers) 0) (Acquire c) (Wait c (other_readers s l.readers)))

-- advance at the lowest cell that publishes, not below next, where there is one: where not, `guard` has refused by 9
unfoldable pub advance_target : ℕ → List ℕ → Session → (ℕ → Lock) → Option ℕ → Plan
advance_target s log x lock none = Refuse 9
advance_target s log x lock (some c) =
    cond (eqb x.phase 2) (promote_plan s c (lock c))
    (cond (eqb x.phase 3) (Publish c (current_of (look_in log x.count c))) (Release c))

unfoldable pub advance_plan : ℕ → ℕ → List ℕ → Session → (ℕ → Lock) → Plan
advance_plan s n log x lock = guard n log x (leb 2 x.phase) (advance_target s log x lock (target_in log x.count x.next))

-- peek: the store's own word where the entry is not written, the log's present word where it is; a cell not in the log is 14
unfoldable pub peek_slot : List ℕ → ℕ → Option ℕ → Plan
peek_slot log c none = Refuse 14
peek_slot log c (some k) = cond (entry_at log k).dirty (ShowLog k) (ShowStore c)

unfoldable pub peek_plan : ℕ → List ℕ → Session → ℕ → Plan
peek_plan n log x c = guard n log x (eqb x.phase 1) (known n c (peek_slot log c (slot_in log x.count c)))

-- any call past 7 and 1, by the number of cells, the classes, the limits in force, its session's log and record, and the lock of each cell
unfoldable pub plan : Call → ℕ → List ℕ → Limits → List ℕ → Session → (ℕ → Lock) → Plan
unfolding read_plan hold_plan write_plan seal_plan advance_plan peek_plan
plan (Begin s) n ks G log x lock = guard n log x (eqb x.phase 0) Start
plan (Read s c) n ks G log x lock = read_plan n log x (lock c) c
plan (Write s c v) n ks G log x lock = write_plan G.caps ks n log x (lock c) c v
plan (Seal s) n ks G log x lock = seal_plan n log x
plan (Advance s) n ks G log x lock = advance_plan s n log x lock
plan (Abandon s) n ks G log x lock = guard n log x (eqb x.phase 1 || eqb x.phase 2) Cancel
plan (Peek s c) n ks G log x lock = peek_plan n log x c
plan (Hold s c) n ks G log x lock = hold_plan n log x (lock c) c

-- the table in force is handed to a write alone, which is 7 where it has not 16 caps
abbrev pub table_fits : Call → Limits → Bool
table_fits (Begin s) G = true
table_fits (Read s c) G = true
table_fits (Write s c v) G = has_caps G.caps
table_fits (Seal s) G = true
table_fits (Advance s) G = true
table_fits (Abandon s) G = true
table_fits (Peek s c) G = true
table_fits (Hold s c) G = true
