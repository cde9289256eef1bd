-- The transactions as the run goes: what is told of an open transaction, each session's latest, and the commits so far.
use Prim.Native.Nat.{ℕ, suc, ◌≤◌, ◌<◌}
use mathlib.Core.Path.{◌≡◌}
use mathlib.Core.Bool.{Bool, true, false, cond, not, ◌&&◌, ◌||◌}
use mathlib.Core.List.{List, [], ◌∷◌}
use lib.Dec.{ltb, eqb}
use lib.ListN.{get_or}
use Rattle.model.specs.Buffers.{Store}
use Rattle.model.specs.History.{Action, actor, Event, tells_of, event_of, run}
use Rattle.model.specs.Isolation.{All}
use Rattle.model.specs.Search.{tally}
use Rattle.model.specs.Told.{Told, began, got, put, held, sealed, moved, ended, begins, ReadOf}
use Rattle.model.proofs.Tools.{upd}

-- the place of its begin; whether it is open; its reads before writing and the values that it found; the cells with a write of its own, those held, those it wrote, and its values there; the
-- place of its seal (0: none yet); its answers 103; whether it is committed, and the place (0: none yet)
pub record Txn : Type 0 where
  pub began : ℕ
  pub live : Bool
  pub reads : List ReadOf
  pub dirtied : ℕ → Bool
  pub held : ℕ → Bool
  pub wrote : ℕ → Bool
  pub value : ℕ → ℕ
  pub snap : ℕ
  pub moved : ℕ
  pub done : Bool
  pub commit : ℕ

abbrev pub opened : ℕ → Txn
opened p =
    record { began = p; live = true; reads = []; dirtied = λ c. false; held = λ c. false; wrote = λ c. false; value = λ c. 0; snap = 0; moved = 0; done = false; commit = 0 }

abbrev pub closed : Txn → Txn
closed t =
    record {
      began = t.began;
      live = false;
      reads = t.reads;
      dirtied = t.dirtied;
      held = t.held;
      wrote = t.wrote;
      value = t.value;
      snap = t.snap;
      moved = t.moved;
      done = t.done;
      commit = t.commit;
    }

abbrev pub saw : ℕ → ℕ → Txn → Txn
saw c v t =
    record {
      began = t.began;
      live = t.live;
      reads = cond (t.dirtied c) t.reads (record { cell = c; value = v } ∷ t.reads);
      dirtied = t.dirtied;
      held = t.held;
      wrote = t.wrote;
      value = t.value;
      snap = t.snap;
      moved = t.moved;
      done = t.done;
      commit = t.commit;
    }

abbrev pub wrote_to : ℕ → ℕ → ℕ → Txn → Txn
wrote_to c v f t =
    record {
      began = t.began;
      live = t.live;
      reads = record { cell = c; value = f } ∷ t.reads;
      dirtied = upd t.dirtied c true;
      held = t.held;
      wrote = upd t.wrote c (t.held c || not (eqb v f));
      value = upd t.value c v;
      snap = t.snap;
      moved = t.moved;
      done = t.done;
      commit = t.commit;
    }

-- held, with the value found where no write came
abbrev pub holds_to : ℕ → ℕ → Txn → Txn
holds_to c f t =
    record {
      began = t.began;
      live = t.live;
      reads = record { cell = c; value = f } ∷ t.reads;
      dirtied = t.dirtied;
      held = upd t.held c true;
      wrote = upd t.wrote c true;
      value = upd t.value c (cond (t.dirtied c) (t.value c) f);
      snap = t.snap;
      moved = t.moved;
      done = t.done;
      commit = t.commit;
    }

-- sealed at place q; if it wrote none of the n cells it commits there
abbrev pub sealed_at : ℕ → ℕ → Txn → Txn
sealed_at n q t =
    record {
      began = t.began;
      live = t.live;
      reads = t.reads;
      dirtied = t.dirtied;
      held = t.held;
      wrote = t.wrote;
      value = t.value;
      snap = q;
      moved = t.moved;
      done = eqb (tally t.wrote n) 0;
      commit = cond (eqb (tally t.wrote n) 0) q 0;
    }

-- one more answer 103, at place q; it commits with the one that makes them as many as the cells it wrote
abbrev pub advanced : ℕ → ℕ → Txn → Txn
advanced n q t =
    record {
      began = t.began;
      live = t.live;
      reads = t.reads;
      dirtied = t.dirtied;
      held = t.held;
      wrote = t.wrote;
      value = t.value;
      snap = t.snap;
      moved = suc t.moved;
      done = t.done || eqb (suc t.moved) (tally t.wrote n);
      commit = cond t.done t.commit (cond (eqb (suc t.moved) (tally t.wrote n)) q 0);
    }

pub record Commit : Type 0 where
  pub who : ℕ
  pub began : ℕ
  pub snap : ℕ
  pub place : ℕ
  pub reads : List ReadOf
  pub wrote : ℕ → Bool
  pub value : ℕ → ℕ

-- the place of the next action; each session's latest transaction; the commits so far, the newest first; whether the last action made the newest
pub record Ledger : Type 0 where
  pub place : ℕ
  pub mine : ℕ → Txn
  pub commits : List Commit
  pub new : Bool

-- the next place
abbrev pub tick : Ledger → Ledger
tick T = record { place = suc T.place; mine = T.mine; commits = T.commits; new = T.new }

-- before an action it has made no commit
abbrev pub calm : Ledger → Ledger
calm T = record { place = T.place; mine = T.mine; commits = T.commits; new = false }

abbrev pub as_commit : ℕ → ℕ → Txn → Commit
as_commit s p t = record { who = s; began = t.began; snap = t.snap; place = p; reads = t.reads; wrote = t.wrote; value = t.value }

-- session s's transaction, if it is open, becomes f of it; a transaction that is committed now and was not is one more commit
unfoldable pub amend : ℕ → (Txn → Txn) → Ledger → Ledger
amend s f T =
    let t = T.mine s in
    cond t.live
    (record {
      place = T.place;
      mine = upd T.mine s (f t);
      commits = cond ((f t).done && not t.done) (as_commit s T.place (f t) ∷ T.commits) T.commits;
      new = T.new || ((f t).done && not t.done);
    })
    T

unfoldable pub starts : ℕ → Ledger → Ledger
starts s T = record { place = T.place; mine = upd T.mine s (opened T.place); commits = T.commits; new = T.new }

-- what is told at place q does to an open transaction
abbrev pub note : ℕ → ℕ → Told → Txn → Txn
note n q began t = t
note n q (got c v) t = saw c v t
note n q (put c v f) t = wrote_to c v f t
note n q (held c v f) t = saw c v (holds_to c f t)
note n q sealed t = sealed_at n q t
note n q moved t = advanced n q t
note n q ended t = closed t

-- session s tells something, or several things, the newest first
abbrev pub hear : ℕ → ℕ → Told → Ledger → Ledger
hear n s w T = cond (begins w) (starts s T) (amend s (note n T.place w) T)

abbrev pub hears : ℕ → ℕ → List Told → Ledger → Ledger
hears n s [] T = T
hears n s (w ∷ ws) T = hear n s w (hears n s ws T)

-- an event: all that it tells, at its place
unfoldable pub observe : ℕ → Event → Ledger → Ledger
observe n e T = tick (hears n (actor e.action) (tells_of e) (calm T))

abbrev pub blank : Ledger
blank = record { place = 1; mine = λ s. closed (opened 0); commits = []; new = false }

-- the ledger of n cells after a list of actions, from one to go on with
unfoldable pub ledger : ℕ → Ledger → Store → List Action → Ledger
ledger n T σ [] = T
ledger n T σ (k ∷ ks) = observe n (event_of k (run σ ks)) (ledger n T σ ks)

-- the value of the last commit to a cell before a place, or the starting value
unfoldable pub value_before : ℕ → List ℕ → List Commit → ℕ → ℕ
value_before p start [] c = get_or start c 0
value_before p start (k ∷ ks) c = cond (ltb k.place p && k.wrote c) (k.value c) (value_before p start ks c)

-- a commit against the older ones
pub record Fair (start : List ℕ) (k : Commit) (ks : List Commit) : Type 0 where
  pub sealed : (0 < k.snap) × (k.snap ≤ k.place)
  pub newest : All (λ (j : Commit). j.place < k.place) ks
  pub reads : All (λ (r : ReadOf). r.value ≡ value_before k.snap start ks r.cell) k.reads
  pub apart : All (λ (j : Commit). (c : ℕ) → j.wrote c ≡ true → k.wrote c ≡ true → j.place < k.snap) ks

abbrev pub Lawful : List ℕ → List Commit → Type 0
Lawful start [] = Unit
Lawful start (k ∷ ks) = Fair start k ks × Lawful start ks
