-- Reads of a running session past the tests of 7, 1, 9 and 2, on the values, the reader sets, the claimants and its log alone: what the functions leave of each
-- other. Nothing here is part of what the call promises.
use Rattle.std.specs.Prelude.{◌≡◌, ℕ, suc, ◌<◌, ◌≤◌, true, cond, List, [], ◌∷◌, ltb, eqb, length, get_or, set, Result, Ok, Err}
use Rattle.std.proofs.Math.Option.{Option, none, some}
use Rattle.model.specs.Search.{below}
use Rattle.model.specs.Readers.{with_reader}
use Rattle.model.specs.Buffers.{cell_at, entry_at, slot_in, appended}
use Rattle.model.specs.Plans.{require}
use Rattle.model.specs.Slices.{Slice}
use Rattle.sweeps.specs.Sweeps.{marked}
use Rattle.records.specs.declared.Refusal.{Refusal}
use Rattle.records.specs.Records.{refusal_number}
use Rattle.cell_reads.specs.declared.Reads.{Reads}
use Rattle.cell_reads.specs.declared.CellsReply.{CellsReply}

-- past the tests, of n cells, r reader sets and c claimants: the session is one of sixteen, and the k entries of its log, at most 32, are of cells below n
pub record Fits (s n r c : ℕ) (log : List ℕ) (k : ℕ) : Type 0 where
  pub session : s < 16
  pub few : n ≤ 1024
  pub readers : r ≡ n
  pub claimants : c ≡ n
  pub words : length log ≡ 128
  pub count : k ≤ 32
  pub cells : below n (cell_at log) k ≡ true

-- the cell of each of the first k entries is marked
pub record Covers (entered log : List ℕ) (k : ℕ) : Type 0 where
  pub words : length entered ≡ 16
  pub cells : (j : ℕ) → j < k → marked entered (cell_at log j) ≡ true

-- ---- one read

-- its number, the value with 101, and what it leaves: the reader sets, the log and how many entries that has
pub record CellRead : Type 0 where
  pub number : ℕ
  pub value : ℕ
  pub readers : List ℕ
  pub log : List ℕ
  pub entries : ℕ

abbrev pub cell_read : ℕ → ℕ → List ℕ → List ℕ → ℕ → CellRead
cell_read n v R W k = record { number = n; value = v; readers = R; log = W; entries = k }

-- a new cell: with 32 entries 5, claimed 6; otherwise the session joins its readers, and an entry is appended
unfoldable pub new_read : List ℕ → List ℕ → ℕ → List ℕ → List ℕ → ℕ → ℕ → CellRead
new_read vs C s R W k c =
    require (ltb k 32) (cell_read 5 0 R W k)
    (require (eqb (get_or C c 0) 16) (cell_read 6 0 R W k)
    (cell_read 101 (get_or vs c 0) (set R c (with_reader s (get_or R c 0))) (appended W k c (get_or vs c 0)) (suc k)))

-- a cell in the log gives its present value
unfoldable pub slot_read : List ℕ → List ℕ → ℕ → List ℕ → List ℕ → ℕ → ℕ → Option ℕ → CellRead
slot_read vs C s R W k c none = new_read vs C s R W k c
slot_read vs C s R W k c (some j) = cell_read 101 (entry_at W j).current R W k

-- session s reads cell c: of the values vs, the claimants C, the reader sets R, and its log W with k entries
unfoldable pub read_cell : List ℕ → List ℕ → ℕ → List ℕ → List ℕ → ℕ → ℕ → CellRead
read_cell vs C s R W k c = require (ltb c (length vs)) (cell_read 3 0 R W k) (slot_read vs C s R W k c (slot_in W k c))

-- ---- the reads

-- the last one's number, how many values were obtained, the target, and what they leave
pub record CellsRead : Type 0 where
  pub number : ℕ
  pub count : ℕ
  pub target : List ℕ
  pub readers : List ℕ
  pub log : List ℕ
  pub entries : ℕ

abbrev pub cells_read : ℕ → ℕ → List ℕ → List ℕ → List ℕ → ℕ → CellsRead
cells_read n i T R W k = record { number = n; count = i; target = T; readers = R; log = W; entries = k }

-- reads of cells in order, with i values obtained before them: the next value goes to place i of the target T
unfoldable pub read_cells : List ℕ → List ℕ → ℕ → ℕ → List ℕ → List ℕ → List ℕ → List ℕ → ℕ → CellsRead
read_cells vs C s i [] T R W k = cells_read 101 i T R W k
read_cells vs C s i (c ∷ cs) T R W k =
    let o = read_cell vs C s R W k c in
    cond (eqb o.number 101) (read_cells vs C s (suc i) cs (set T i o.value) o.readers o.log o.entries)
    (cells_read o.number i T o.readers o.log o.entries)

-- ---- what the functions ask and leave

-- past the tests, with the cells entered in the set
abbrev pub ReadsFit : Reads → Type 0
ReadsFit a =
    Fits a.session (length a.values.now) (length a.readers.now) (length a.claimants.now) a.log.now a.entries × Covers a.entered.now a.log.now a.entries

-- of the same values and claims, with the same two slices, whatever stands in these: so who lent them learns what stands there
abbrev pub SameReads : Reads → Reads → Type 0
SameReads a b =
    (b.values ≡ a.values) × (b.claimants ≡ a.claimants) × (b.session ≡ a.session) × (b.readers.ghost_name ≡ a.readers.ghost_name)
    × (b.log.ghost_name ≡ a.log.ghost_name)

-- the present value of the entry at a place
abbrev pub current_of : List ℕ → Option ℕ → Option ℕ
current_of W none = none
current_of W (some j) = some (entry_at W j).current

abbrev pub Enters : ℕ → Reads → Reads → ℕ → Type 0
Enters c a b r =
    (r ≡ get_or a.values.now c 0)
    × (b.readers.now ≡ set a.readers.now c (with_reader a.session (get_or a.readers.now c 0)))
    × (b.log.now ≡ appended a.log.now a.entries c (get_or a.values.now c 0))
    × (b.entries ≡ suc a.entries) × Covers b.entered.now b.log.now b.entries

-- the number of what reads came to: 101 where each got a value, else the refusal's
abbrev pub number_of : {A : Type 0} → Result A Refusal → ℕ
number_of (Ok _) = 101
number_of (Err r) = refusal_number r

-- a read's value, 0 with a refusal
abbrev pub value_of : Result ℕ Refusal → ℕ
value_of (Ok v) = v
value_of (Err r) = 0

-- one read, as the code answers it and with what it left
abbrev pub answered : Reads → Result ℕ Refusal → CellRead
answered b r = cell_read (number_of r) (value_of r) b.readers.now b.log.now b.entries

abbrev pub ReadsCell : ℕ → Reads → Reads → Result ℕ Refusal → Type 0
ReadsCell c a b r =
    (answered b r ≡ read_cell a.values.now a.claimants.now a.session a.readers.now a.log.now a.entries c) × Covers b.entered.now b.log.now b.entries

abbrev pub ReadsCells : Slice → Slice → Slice → Slice → ℕ → ℕ → Slice → Slice → CellsReply → Type 0
ReadsCells values readers claimants log k s cells target r =
    cells_read (number_of r.ended) r.count target.exit.now readers.exit.now log.exit.now r.entries
    ≡ read_cells values.entry.now claimants.entry.now s 0 cells.entry.now target.entry.now readers.entry.now log.entry.now k
