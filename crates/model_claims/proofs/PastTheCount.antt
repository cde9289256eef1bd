-- What a call decides does not go by the words past its session's entries (document 02, Paper 3): by the first `count` entries of the log alone, every plan is the same.
use Prim.Native.Nat.{ℕ, zero, suc, ◌+◌, ◌*◌, ◌<◌, ◌≤◌}
use native.Mathlib.Omega.{arith}
use mathlib.Core.Path.{◌≡◌, refl, ap}
use mathlib.Core.Bool.{Bool, ◌||◌}
use mathlib.Core.List.{List, [], ◌∷◌}
use mathlib.Core.Option.{Option, none, some}
use lib.Dec.{leb, eqb}
use lib.ListN.{set}
use lib.Seq.{get_or-set_other}
use Rattle.records.specs.declared.Call.{Call}
use Rattle.records.specs.declared.Call.TheVariants.{Begin, Read, Write, Seal, Advance, Abandon, Peek, Hold}
use Rattle.records.specs.declared.Lock.{Lock}
use Rattle.records.specs.declared.Plan.{Plan}
use Rattle.records.specs.declared.Plan.TheVariants.{Tell}
use Rattle.records.specs.declared.Session.{Session}
use Rattle.model.specs.Buffers.{Limits, free, word, cell_at, entry_at, entry_of, slot_in, look_in, publishes_in, target_in}
use Rattle.model.specs.Plans.{entries_fit, record_fits, guard, known, read_slot, read_plan, hold_slot, hold_plan, write_capped, write_plan, seal_plan, advance_target, advance_plan, peek_slot, peek_plan, plan}
use Rattle.model.specs.Readers.{odd}
use Rattle.model.specs.Search.{or_else, find, lowest, below}
use Rattle.model.proofs.Laws.{find_some, find_ext, below_ext}
use Rattle.model.proofs.Tools.{which}

-- two logs whose first m entries have the same words
abbrev pub SameEntries : ℕ → List ℕ → List ℕ → Type 0
SameEntries m log other = (k : ℕ) → k < m → (j : ℕ) → j < 4 → word log k j ≡ word other k j

lowest_ext : (f g : ℕ → Bool) (a b : ℕ → ℕ) (k : ℕ) → ((c : ℕ) → f c ≡ g c) → ((j : ℕ) → j < k → a j ≡ b j) → lowest f a k ≡ lowest g b k
unfolding lowest
lowest_ext f g a b zero h e = refl
lowest_ext f g a b (suc k) h e = rw (lowest_ext f g a b k h (λ j l. e j (omega arith)), e k (omega arith), h (b k))

module _ (log other : List ℕ) (m : ℕ) (h : SameEntries m log other) where
  cells : (k : ℕ) → k < m → cell_at log k ≡ cell_at other k
  unfolding cell_at
  cells k l = h k l 0 (omega arith)

  entries : (k : ℕ) → k < m → entry_at log k ≡ entry_at other k
  unfolding entry_at
  entries k l = rw (h k l 1 (omega arith), h k l 2 (omega arith), h k l 3 (omega arith))

  slots : (c : ℕ) → slot_in log m c ≡ slot_in other m c
  unfolding slot_in
  slots c = find_ext (cell_at log) c (cell_at other) m cells

  among : (c k : ℕ) → slot_in other m c ≡ some k → k < m
  unfolding slot_in
  among c k e = (find_some (cell_at other) c m e).0

  looks : (c : ℕ) → look_in log m c ≡ look_in other m c
  unfolding look_in entry_of
  looks c = rw (slots c) (which (slot_in other m c) (λ e. rw e) (λ k e. rw (e, entries k (among c k e))))

  targets : (from : ℕ) → target_in log m from ≡ target_in other m from
  unfolding target_in publishes_in
  targets from = lowest_ext _ _ (cell_at log) (cell_at other) m (λ c. rw (looks c)) cells

  belows : (n : ℕ) → below n (cell_at log) m ≡ below n (cell_at other) m
  belows n = below_ext n (cell_at log) (cell_at other) m cells

module _ (n : ℕ) (log other : List ℕ) (x : Session) (h : SameEntries x.count log other) where
  guards : (fit : Bool) {p q : Plan} → p ≡ q → guard n log x fit p ≡ guard n other x fit q
  unfolding guard record_fits entries_fit
  guards fit e = rw (belows log other x.count h n, targets log other x.count h x.next, e)

  -- what goes by a cell's entry
  on_slot : (c : ℕ) (f g : Option ℕ → Plan) → f none ≡ g none → ((k : ℕ) → k < x.count → f (some k) ≡ g (some k)) → f (slot_in log x.count c) ≡ g (slot_in other x.count c)
  on_slot c f g new known =
      rw (slots log other x.count h c)
      (which (slot_in other x.count c) (λ e. rw e new) (λ k e. rw e (known k (among log other x.count h c k e))))

  entry : (k : ℕ) → k < x.count → entry_at log k ≡ entry_at other k
  entry = entries log other x.count h

  reads : (l : Lock) (c : ℕ) → read_plan n log x l c ≡ read_plan n other x l c
  unfolding read_plan read_slot
  reads l c = guards (eqb x.phase 1) (ap (known n c) (on_slot c (read_slot log x l c) (read_slot other x l c) refl (λ k i. rw (entry k i))))

  holds : (l : Lock) (c : ℕ) → hold_plan n log x l c ≡ hold_plan n other x l c
  unfolding hold_plan hold_slot
  holds l c = guards (eqb x.phase 1) (ap (known n c) (on_slot c (hold_slot log x l c) (hold_slot other x l c) refl (λ k i. rw (entry k i))))

  writes : (T ks : List ℕ) (l : Lock) (c v : ℕ) → write_plan T ks n log x l c v ≡ write_plan T ks n other x l c v
  unfolding write_plan write_capped
  writes T ks l c v = guards (eqb x.phase 1) (rw (slots log other x.count h c))

  seals : seal_plan n log x ≡ seal_plan n other x
  unfolding seal_plan
  seals = guards (eqb x.phase 1) (rw (targets log other x.count h 0))

  advances : (s : ℕ) (lock : ℕ → Lock) → advance_plan s n log x lock ≡ advance_plan s n other x lock
  unfolding advance_plan advance_target
  advances s lock =
      guards (leb 2 x.phase)
      (rw (targets log other x.count h x.next)
      (which (target_in other x.count x.next) (λ e. rw e) (λ c e. rw (e, looks log other x.count h c))))

  peeks : (c : ℕ) → peek_plan n log x c ≡ peek_plan n other x c
  unfolding peek_plan peek_slot
  peeks c = guards (eqb x.phase 1) (ap (known n c) (on_slot c (peek_slot log c) (peek_slot other c) refl (λ k i. rw (entry k i))))

-- two logs with the same first `count` entries give every call the same plan
pub entries_decide : (call : Call) (n : ℕ) (ks : List ℕ) (G : Limits) (log other : List ℕ) (x : Session) (lock : ℕ → Lock)
    → SameEntries x.count log other
    → plan call n ks G log x lock ≡ plan call n ks G other x lock
unfolding plan
entries_decide (Begin s) n ks G log other x lock h = guards n log other x h (eqb x.phase 0) refl
entries_decide (Read s c) n ks G log other x lock h = reads n log other x h (lock c) c
entries_decide (Write s c v) n ks G log other x lock h = writes n log other x h G.caps ks (lock c) c v
entries_decide (Seal s) n ks G log other x lock h = seals n log other x h
entries_decide (Advance s) n ks G log other x lock h = advances n log other x h s lock
entries_decide (Abandon s) n ks G log other x lock h = guards n log other x h (eqb x.phase 1 || eqb x.phase 2) refl
entries_decide (Peek s c) n ks G log other x lock h = peeks n log other x h c
entries_decide (Hold s c) n ks G log other x lock h = holds n log other x h (lock c) c

-- ---- what that is of, and what not

-- a word past the entries is changed
pub past_word : (log : List ℕ) (m i w : ℕ) → 4 * m ≤ i → SameEntries m (set log i w) log
unfolding word
past_word log m i w h k l j p = get_or-set_other log i (4 * k + j) w 0 (λ e. omega arith)

-- a word of an entry decides: the present value of the one entry is told
abbrev one : List ℕ
one = 7 ∷ 2 ∷ 1 ∷ 1 ∷ []

abbrev ran : Session
ran = record { phase = 1; count = 1; next = 0 }

pub told : read_plan 10 one ran free 7 ≡ Tell 1
unfolding read_plan read_slot guard record_fits entries_fit known below slot_in find or_else cell_at entry_at word odd
told = refl

pub told_otherwise : read_plan 10 (set one 2 5) ran free 7 ≡ Tell 5
unfolding read_plan read_slot guard record_fits entries_fit known below slot_in find or_else cell_at entry_at word odd
told_otherwise = refl
