-- One read by its ways through, and the reads so far with one more.
use Prim.Native.Nat.{ℕ, suc, ◌+◌, ◌<◌, ◌≤◌}
use native.Mathlib.Numerals.{add-one}
use native.Mathlib.Omega.{arith}
use mathlib.Core.Path.{◌≡◌, refl, sym, subst, ◌∙◌}
use mathlib.Core.List.{List, [], ◌∷◌}
use mathlib.Core.Option.{Option, none, some}
use Rattle.std.specs.Prelude.{Ok, Err}
use borrow.Author.Tests.{ne_eqb, ltb-true}
use lib.Dec.{ltb, eqb}
use lib.ListN.{length, get_or, set, drop, length-set, drop_of_length-le}
use lib.Seq.{drop-cons}
use Rattle.model.specs.Buffers.{entry_at, slot_in, appended}
use Rattle.model.specs.Readers.{with_reader}
use Rattle.model.proofs.Carried.{length-appended}
use Rattle.model.proofs.Laws.{appended_below}
use Rattle.model.proofs.Tools.{split, test, which}
use Rattle.records.specs.declared.Refusal.{Refusal}
use Rattle.records.specs.declared.Refusal.TheVariants.{UnknownSession, WrongPhase, UnknownCell, AboveCap, FullLog, Conflict, WrongLengths, UnknownClass, DamagedRecord, ShortTarget, NotEntered, WrongList, WrongCaps, ValueAboveCaps}
use Rattle.records.specs.Records.{refusal_number}
use Rattle.cell_reads.specs.Cells.{Fits, CellRead, cell_read, new_read, slot_read, read_cell, CellsRead, cells_read, read_cells, ReadsFit, SameReads, current_of, ReadsCell}
use Rattle.cell_reads.specs.declared.Reads.{Reads}

-- a refusal is no value
pub not_read : (r : Refusal) → refusal_number r ≡ 101 → ⊥
not_read UnknownSession h = omega arith
not_read WrongPhase h = omega arith
not_read UnknownCell h = omega arith
not_read AboveCap h = omega arith
not_read FullLog h = omega arith
not_read Conflict h = omega arith
not_read WrongLengths h = omega arith
not_read UnknownClass h = omega arith
not_read DamagedRecord h = omega arith
not_read ShortTarget h = omega arith
not_read NotEntered h = omega arith
not_read WrongList h = omega arith
not_read WrongCaps h = omega arith
not_read ValueAboveCaps h = omega arith

-- ---- a cell in the log, and one that is not

module _ (vs C : List ℕ) (s : ℕ) (R W : List ℕ) (k c : ℕ) where
  pub slot_known : (o : Option ℕ) (v : ℕ) → some v ≡ current_of W o → slot_read vs C s R W k c o ≡ cell_read 101 v R W k
  unfolding slot_read
  slot_known none v e = cc
  slot_known (some j) v e = let q : v ≡ (entry_at W j).current = cc in rw q refl

  pub slot_new : (o : Option ℕ) → none ≡ current_of W o → slot_read vs C s R W k c o ≡ new_read vs C s R W k c
  unfolding slot_read
  slot_new none e = refl
  slot_new (some j) e = cc

-- ---- what is known of a running session past its tests is known after a read

module _ (vs C : List ℕ) (s : ℕ) (R W : List ℕ) (k : ℕ) (f : Fits s (length vs) (length R) (length C) W k) (c : ℕ) where
  grown : c < length vs → k < 32 → Fits s (length vs) (length (set R c (with_reader s (get_or R c 0)))) (length C) (appended W k c (get_or vs c 0)) (suc k)
  grown l a =
      let v = get_or vs c 0 in
      record {
        session = f.session;
        few = f.few;
        readers = length-set R c _ ∙ f.readers;
        claimants = f.claimants;
        words = length-appended W k c v ∙ f.words;
        count = omega arith;
        cells = appended_below W k c v a f.words (length vs) l f.cells;
      }

  pub fits_still : let o = read_cell vs C s R W k c in Fits s (length vs) (length o.readers) (length C) o.log o.entries
  unfolding read_cell slot_read new_read
  fits_still =
      test (ltb c (length vs))
      (λ i.
      which (slot_in W k c)
      (λ p.
      test (ltb k 32)
      (λ a. test (eqb (get_or C c 0) 16) (λ b. rw (i, p, a, b) (grown (ltb-true c (length vs) i) (ltb-true k 32 a))) (λ b. rw (i, p, a, b) f)) (λ a. rw (i, p, a) f))
      (λ j p. rw (i, p) f))
      (λ i. rw i f)

  -- as the code has it
  still : (n v : ℕ) (R' W' : List ℕ) (k' : ℕ) → cell_read n v R' W' k' ≡ read_cell vs C s R W k c → Fits s (length vs) (length R') (length C) W' k'
  still n v R' W' k' e = subst (λ (o : CellRead). Fits s (length vs) (length o.readers) (length C) o.log o.entries) (sym e) fits_still

-- ---- the reads so far

-- what those of cells cs from place i on come to
abbrev pub left : Reads → List ℕ → List ℕ → ℕ → CellsRead
left a cs T i = read_cells a.values.now a.claimants.now a.session i (drop i cs) T a.readers.now a.log.now a.entries

module _ (a : Reads) (cs T : List ℕ) (i : ℕ) where
  -- none is left
  pub reads_end : i ≡ length cs → cells_read 101 (length cs) T a.readers.now a.log.now a.entries ≡ left a cs T i
  unfolding read_cells
  reads_end e = rw (drop_of_length-le cs {i = i} (omega arith), e) refl

  -- b is what the next one left
  module _ (l : i < length cs) (b : Reads) where
    pub reads_stop : (r : Refusal) → ReadsCell (get_or cs i 0) a b (Err r) → cells_read (refusal_number r) i T b.readers.now b.log.now b.entries ≡ left a cs T i
    unfolding read_cells
    reads_stop r e = rw (drop-cons cs i 0 l, ← e.0, ne_eqb (refusal_number r) 101 (not_read r)) refl

    module _ (k : SameReads a b) (v : ℕ) (e : ReadsCell (get_or cs i 0) a b (Ok v)) where
      pub reads_go_on : left a cs T i ≡ left b cs (set T i v) (i + 1)
      unfolding read_cells
      reads_go_on = rw (k.0, k.1, k.2) (rw (drop-cons cs i 0 l, ← e.0, add-one) refl)

      pub fits_after : ReadsFit a → ReadsFit b
      fits_after f = rw (k.0, k.1, k.2) (still _ _ _ _ _ _ f.0 _ _ _ _ _ _ e.0, e.1)

-- ---- what is known of the session is known after the reads; no more values are obtained than there are cells

pub reads_fit : (vs C : List ℕ) (s i : ℕ) (cs T R W : List ℕ) (k : ℕ) → Fits s (length vs) (length R) (length C) W k
    → let o = read_cells vs C s i cs T R W k in Fits s (length vs) (length o.readers) (length C) o.log o.entries
unfolding read_cells
reads_fit vs C s i [] T R W k f = f
reads_fit vs C s i (c ∷ cs) T R W k f =
    let o = read_cell vs C s R W k c in
    split (λ (q : CellsRead). Fits s (length vs) (length q.readers) (length C) q.log q.entries) (eqb o.number 101)
    (λ _. reads_fit vs C s (suc i) cs (set T i o.value) o.readers o.log o.entries (fits_still vs C s R W k f c)) (λ _. fits_still vs C s R W k f c)

pub reads_few : (vs C : List ℕ) (s i : ℕ) (cs T R W : List ℕ) (k : ℕ) → (read_cells vs C s i cs T R W k).count ≤ i + length cs
unfolding read_cells
reads_few vs C s i [] T R W k = omega arith
reads_few vs C s i (c ∷ cs) T R W k =
    let o = read_cell vs C s R W k c in
    split (λ (q : CellsRead). q.count ≤ i + suc (length cs)) (eqb o.number 101)
    (λ _. let l = reads_few vs C s (suc i) cs (set T i o.value) o.readers o.log o.entries in omega arith) (λ _. omega arith)
