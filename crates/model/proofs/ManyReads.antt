-- Laws of many reads (document 02, Paper 1). What holds of what was told, the last answer and the store, and is kept by each single read, is kept by many; and
-- many reads are the single reads that were made.
use Prim.Native.Nat.{ℕ, ◌≤◌, ◌<◌}
use native.Mathlib.Omega.{arith}
use mathlib.Core.Path.{◌≡◌, refl, sym, ◌∙◌, ap, subst}
use mathlib.Core.Logic.{◌⊎◌, inl, inr}
use mathlib.Core.Bool.{Bool, true, false, cond, not, ◌&&◌, ◌||◌}
use mathlib.Core.List.{List, [], ◌∷◌, ◌++◌, append-nil, append_assoc, reverse-cons}
use lib.Dec.{ltb, leb, eqb}
use lib.ListN.{length}
use borrow.Author.Tests.{eqb-true, lt-ltb, le-ltb, le-leb, lt-leb}
use Rattle.records.specs.declared.Call.TheVariants.{Read}
use Rattle.records.specs.declared.Answer.{Answer}
use Rattle.records.specs.declared.Answer.TheVariants.{Done, Refused}
use Rattle.model.specs.Buffers.{Store}
use Rattle.model.specs.Effects.{number, value_of}
use Rattle.model.specs.History.{one_call, as_actions, Event, event, tells_of, run, events}
use Rattle.model.specs.Isolation.{All}
use Rattle.model.specs.ManyReads.{Reads, stopped, obtained, reads, list_refusal, read_many}
use Rattle.model.specs.SingleReads.{reads_made, single_reads, value_of101, values_of, last_answer, older, tells_all, AsSingle}
use Rattle.model.specs.Step.{step, answer_of}
use Rattle.model.specs.Told.{Told, got, ended, ending, tells, reads_tell}
use Rattle.model.proofs.Firsts.{run_first, events_first}
use Rattle.model.proofs.Invariant.{all_append}
use Rattle.model.proofs.Ledger.{Txn, closed, saw, Ledger, calm, as_commit, amend, hear, hears}
use Rattle.model.proofs.Tools.{split, test, and-false}

-- ---- what reads tell

-- a value got, or the end
pub data ByRead : Told → Type 0 where
  value : (c v : ℕ) → ByRead (got c v)
  end : ByRead ended

end_by_read : (a : Answer) → All ByRead (ending a)
unfolding ending
end_by_read a = split (All ByRead) (eqb (number a) 6 || eqb (number a) 105) (λ _. (end, tt)) (λ _. tt)

pub read_by_read : (s c : ℕ) (a : Answer) → All ByRead (tells (Read s c) a 0)
unfolding tells
read_by_read s c a = split (All ByRead) (eqb (number a) 101) (λ _. (value c (value_of a), tt)) (λ _. end_by_read a)

pub reads_by_read : (cs vs : List ℕ) (a : Answer) → All ByRead (reads_tell cs vs a)
unfolding reads_tell
reads_by_read [] vs a = end_by_read a
reads_by_read (c ∷ cs) [] a = end_by_read a
reads_by_read (c ∷ cs) (v ∷ vs) a = all_append ByRead (reads_tell cs vs a) (got c v ∷ []) (reads_by_read cs vs a) (value c v, tt)

-- a read answered 101 tells its value, and no end; any other tells the end that its answer makes, or nothing
got_told : (s c : ℕ) (a : Answer) → eqb (number a) 101 ≡ true → tells (Read s c) a 0 ≡ got c (value_of a) ∷ []
unfolding tells
got_told s c a y = rw y

got_no_end : (a : Answer) → eqb (number a) 101 ≡ true → ending a ≡ []
unfolding ending
got_no_end a y = rw (eqb-true (number a) 101 y)

end_told : (s c : ℕ) (a : Answer) → eqb (number a) 101 ≡ false → tells (Read s c) a 0 ≡ ending a
unfolding tells
end_told s c a y = rw y

-- with no value obtained only the end is told, where the answer makes one
none_told : (cs : List ℕ) (a : Answer) → reads_tell cs [] a ≡ ending a
unfolding reads_tell
none_told [] a = refl
none_told (c ∷ cs) a = refl

-- ---- one read after the other

-- a list is refused by 15, by 13, or not at all
list_cases : (P : ℕ → Type 0) (cells words : ℕ) → P 15 → P 13 → P 0 → P (list_refusal cells words)
unfolding list_refusal
list_cases P cells words a b c = split P (ltb 0 cells && leb cells 32) (λ _. split P (leb cells words) (λ _. c) (λ _. b)) (λ _. a)

-- a claim of what session s told, the newest first, the last answer and the store, which each single read keeps
module _ (P : List Told → Answer → Store → Type 0) (s : ℕ)
    (one_more : (ws : List Told) (a : Answer) (σ : Store) → All ByRead ws → P ws a σ → (c : ℕ)
    → P (tells (Read s c) (answer_of (Read s c) σ) 0 ++ ws) (answer_of (Read s c) σ) (step (Read s c) σ)) where
  kept : (cs : List ℕ) (ws : List Told) (a : Answer) (σ : Store) → ending a ≡ [] → All ByRead ws → P ws a σ → let r = reads s a cs σ in
      P (reads_tell cs r.values r.last ++ ws) r.last r.store
  unfolding reads reads_tell
  kept [] ws a σ q t p = rw q p
  kept (c ∷ cs) ws a σ q t p =
      let b = answer_of (Read s c) σ in
      let τ = step (Read s c) σ in
      let m = one_more ws a σ t p c in
      split (λ (r : Reads). P (reads_tell (c ∷ cs) r.values r.last ++ ws) r.last r.store) (eqb (number b) 101)
      (λ y.
      let r = reads s b cs τ in
      subst (λ (ws : List Told). P ws r.last r.store) (sym (append_assoc (reads_tell cs r.values r.last) (got c (value_of b) ∷ []) ws))
      (kept cs (got c (value_of b) ∷ ws) b τ (got_no_end b y) (value c (value_of b), t) (rw (got_told s c b y) at m)))
      (λ y. rw (end_told s c b y) at m)

  -- the reads of one call
  pub kept_by_reads : (cs : List ℕ) (words : ℕ) (σ : Store) → P [] (Refused 15) σ → P [] (Refused 13) σ → P [] Done σ → let r = read_many s cs words σ in
      P (reads_tell cs r.values r.last) r.last r.store
  unfolding read_many
  kept_by_reads cs words σ r15 r13 p =
      list_cases (λ n. let r = cond (eqb n 0) (reads s Done cs σ) (stopped (Refused n) σ) in P (reads_tell cs r.values r.last) r.last r.store) (length cs) words
      (rw (none_told cs (Refused 15)) (unfold ending in r15)) (rw (none_told cs (Refused 13)) (unfold ending in r13))
      (let r = reads s Done cs σ in subst (λ (ws : List Told). P ws r.last r.store) (append-nil _) (kept cs [] Done σ (unfold ending in refl) tt p))

-- ---- the ledger

-- what leaves a transaction committed, or not, as it is commits nothing
pub amend_keeps : (s : ℕ) (f : Txn → Txn) (T : Ledger) → (f (T.mine s)).done ≡ (T.mine s).done → ((amend s f T).commits ≡ T.commits) × ((amend s f T).new ≡ T.new)
unfolding amend
amend_keeps s f T e = split (λ (U : Ledger). (U.commits ≡ T.commits) × (U.new ≡ T.new)) (T.mine s).live (λ _. rw e (go (T.mine s).done T.new)) (λ _. (refl, refl))
  where
    go : (d b : Bool) → (cond (d && not d) (as_commit s T.place (f (T.mine s)) ∷ T.commits) T.commits ≡ T.commits) × ((b || (d && not d)) ≡ b)
    go true true = (refl, refl)
    go true false = (refl, refl)
    go false true = (refl, refl)
    go false false = (refl, refl)

module _ (n s : ℕ) where
  -- reads commit nothing
  pub hears_keeps : (ws : List Told) (T : Ledger) → All ByRead ws → ((hears n s ws T).commits ≡ T.commits) × ((hears n s ws T).new ≡ T.new)
  hears_keeps [] T a = (refl, refl)
  hears_keeps (w ∷ ws) T a = let e = single w (hears n s ws T) a.0 in let f = hears_keeps ws T a.1 in (e.0 ∙ f.0, e.1 ∙ f.1)
    where
      single : (w : Told) (T : Ledger) → ByRead w → ((hear n s w T).commits ≡ T.commits) × ((hear n s w T).new ≡ T.new)
      single w T (value c v) = amend_keeps s (saw c v) T refl
      single w T end = amend_keeps s closed T refl

  hears_append : (us ws : List Told) (T : Ledger) → hears n s (us ++ ws) T ≡ hears n s us (hears n s ws T)
  hears_append [] ws T = refl
  hears_append (u ∷ us) ws T = ap (hear n s u) (hears_append us ws T)

  -- one thing more after reads at the same place
  pub hears_after : (us ws : List Told) (T : Ledger) → All ByRead ws → hears n s us (calm (hears n s ws (calm T))) ≡ hears n s (us ++ ws) (calm T)
  hears_after us ws T a = ap (hears n s us) (still (hears n s ws (calm T)) (hears_keeps ws (calm T) a).1) ∙ sym (hears_append us ws (calm T))
    where
      still : (U : Ledger) → U.new ≡ false → calm U ≡ U
      still U e = ap (λ (b : Bool). record { place = U.place; mine = U.mine; commits = U.commits; new = b }) (sym e)

-- ---- the single reads

module _ (e : Event) where
  values_first : (h : List Event) → values_of (h ++ e ∷ []) ≡ value_of101 e ++ values_of h
  values_first [] = sym (append-nil (value_of101 e))
  values_first (x ∷ h) = ap (λ (vs : List ℕ). vs ++ value_of101 x) (values_first h) ∙ append_assoc (value_of101 e) (values_of h) (value_of101 x)

  told_first : (h : List Event) → tells_all (h ++ e ∷ []) ≡ tells_all h ++ tells_of e
  told_first [] = append-nil _
  told_first (x ∷ h) = ap (λ (ws : List Told). tells_of x ++ ws) (told_first h) ∙ sym (append_assoc (tells_of x) (tells_all h) (tells_of e))

  last_first : (a : Answer) (h : List Event) → last_answer a (h ++ e ∷ []) ≡ last_answer e.answer h
  last_first a [] = refl
  last_first a (x ∷ h) = refl

  older_first : (h : List Event) → number e.answer ≡ 101 → All (λ (e : Event). number e.answer ≡ 101) (older h)
      → All (λ (e : Event). number e.answer ≡ 101) (older (h ++ e ∷ []))
  older_first [] y a = tt
  older_first (x ∷ h) y a = all_append (λ e. number e.answer ≡ 101) h (e ∷ []) a (y, tt)

-- one read more before the others, answered 101
obtained_first : (s c : ℕ) (cs : List ℕ) (a b : Answer) (h : List Event) (τ : Store) (r : Reads) → eqb (number b) 101 ≡ true
    → AsSingle b cs h τ r → AsSingle a (c ∷ cs) (h ++ event (Read s c) b ∷ []) τ (obtained (value_of b) r)
unfolding reads_tell
obtained_first s c cs a b h τ r y H =
    let e = event (Read s c) b in
    record {
      left = H.left;
      last = H.last ∙ sym (last_first e a h);
      values = ap (λ (vs : List ℕ). value_of b ∷ vs) H.values ∙ sym (values_first e h ∙ rw y);
      before = older_first e h (eqb-true (number b) 101 y) H.before;
      told = rw H.told (sym (told_first e h ∙ ap (λ (ws : List Told). tells_all h ++ ws) (got_told s c b y)));
    }

reads_as_single : (s : ℕ) (cs : List ℕ) (a : Answer) (σ : Store) → ending a ≡ []
    → AsSingle a cs (events σ (single_reads s cs σ)) (run σ (single_reads s cs σ)) (reads s a cs σ)
unfolding reads reads_made run events reads_tell
reads_as_single s [] a σ q = record { left = refl; last = refl; values = refl; before = tt; told = q }
reads_as_single s (c ∷ cs) a σ q =
    let b = answer_of (Read s c) σ in
    let τ = step (Read s c) σ in
    let k = one_call (Read s c) in
    test (eqb (number b) 101)
    (λ y.
    let ks = single_reads s cs τ in
    rw (y, reverse-cons k (as_actions (reads_made s cs τ)), events_first σ k ks, run_first σ k ks)
    (obtained_first s c cs a b (events τ ks) (run τ ks) (reads s b cs τ) y (reads_as_single s cs b τ (got_no_end b y))))
    (λ y. rw y (record { left = refl; last = refl; values = rw y; before = tt; told = sym (append-nil _ ∙ end_told s c b y) }))

module _ (s : ℕ) (cs : List ℕ) (words : ℕ) (σ : Store) where
  -- many reads are the single reads that were made
  pub as_single_reads : 0 < length cs → length cs ≤ 32 → length cs ≤ words
      → AsSingle Done cs (events σ (single_reads s cs σ)) (run σ (single_reads s cs σ)) (read_many s cs words σ)
  unfolding read_many list_refusal
  as_single_reads p q r = rw (lt-ltb 0 (length cs) p, le-leb (length cs) 32 q, le-leb (length cs) words r) (reads_as_single s cs Done σ (unfold ending in refl))

  -- refused by 15, and else by 13: nothing is obtained, and all is as before
  pub refused_15 : (length cs ≡ 0) ⊎ (32 < length cs) → read_many s cs words σ ≡ stopped (Refused 15) σ
  unfolding read_many list_refusal
  refused_15 (inl e) = rw (le-ltb 0 (length cs) (omega arith))
  refused_15 (inr l) = rw (lt-leb (length cs) 32 l, and-false)

  pub refused_13 : 0 < length cs → length cs ≤ 32 → words < length cs → read_many s cs words σ ≡ stopped (Refused 13) σ
  unfolding read_many list_refusal
  refused_13 p q r = rw (lt-ltb 0 (length cs) p, le-leb (length cs) 32 q, lt-leb (length cs) words r)

-- and nothing is told
pub refused_tell : (cs : List ℕ) → (reads_tell cs [] (Refused 15) ≡ []) × (reads_tell cs [] (Refused 13) ≡ [])
unfolding ending
refused_tell cs = (none_told cs (Refused 15), none_told cs (Refused 13))
