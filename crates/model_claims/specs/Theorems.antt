-- What is proved of the store, on one page: demand 3 and what stands beside it, of the model and of code. Read this
-- first, then Isolation, History and Told of crate model. A list of actions is what the callers did, the oldest first,
-- sessions interleaved in any way, refused calls included. σ is the store where it starts, h what was answered, the
-- newest first, τ the store that it leaves. Document 01 is the scope that the store is built to, the Papers are the
-- change requests of document 02. The proofs only inhabit what is stated here.
use Rattle.std.specs.Prelude.{ℕ, ◌≡◌, List, [], reverse}
use Rattle.records.specs.declared.Answer.{Answer}
use Rattle.model.specs.Buffers.{Store}
use Rattle.model.specs.CommitOrder.{InCommitOrder}
use Rattle.model.specs.Effects.{number}
use Rattle.model.specs.History.{Action, Event, run, events, told}
use Rattle.model.specs.InTheWay.{InTheWay, SealLetsGo}
use Rattle.model.specs.Isolation.{Ran, Demand3OfCode}
use Rattle.model.specs.Serial.{OneAtATime}
use Rattle.model.specs.Step.{outcome, set_up_effect, set_up_answer, set_up}
use Rattle.model_claims.specs.Ending.{EachEnds}
use Rattle.model_claims.specs.OfCode.{SeriallyEqualOfCode, WithinCapsOfCode, EachWaitsOfCode}

-- ---- the claims, of one list

pub record Promised (σ : Store) (actions : List Action) (h : List Event) (τ : Store) : Type 0 where
  -- Demand 3 (document 01). Answers and store are the model's. A transaction wrote a cell that it held, or whose last
  -- write is not of the value found: a value written back, of a cell not held, is no write. Each committed transaction
  -- has a snapshot, the place of its seal, and a commit: that place where it wrote no cell, else the place of the
  -- advance with which, and not before, it holds all its writer locks. Each value that a read or a hold gave it of a
  -- cell to which it had made no write call answered 100, of whatever value, and each that it found at a write or a
  -- hold, is that of the last commit to the cell before its snapshot, or the starting value. Two committed ones that
  -- wrote one cell have spans, from snapshot to commit, that do not meet. (model/specs/Isolation.antt)
  pub demand3 : Demand3OfCode σ actions h τ
  -- The answers 6 and 105 (document 01). A transaction that ends with 105 is committed, and one that ends with 6 or
  -- with an abandon is not. (Ending.antt)
  pub ends : EachEnds σ.lent.values h
  -- Paper 4. One after the other by commit place, each with its writes in the sense above: a transaction that wrote
  -- each cell that it read from the store, or wrote none, read what those before it left; and where nobody publishes,
  -- the store has what the last left. (model/specs/CommitOrder.antt)
  pub order : InCommitOrder σ.lent.values (told [] h) τ
  -- As the store that this one replaces (document 01). Where a transaction begins only when none is open, every value
  -- read and left is that of a store that runs one transaction at a time, and nobody is turned away or waits.
  -- (OfCode.antt, model/specs/Serial.antt)
  pub serial : OneAtATime h → SeriallyEqualOfCode σ.lent.values h τ
  -- Paper 5. No value stored, answered or logged is above its cell's cap. (OfCode.antt, model/specs/Caps.antt)
  pub caps : WithinCapsOfCode σ h τ
  -- Papers 2 and 4. At a cell only a session that runs, or publishes the cell, is in another's way; and a seal that
  -- comes next, answered 102 or 105, leaves its session a reader of no cell that it does not publish.
  -- (model/specs/InTheWay.antt)
  pub in_the_way : InTheWay τ
  pub lets_go : (s : ℕ) → SealLetsGo τ s
  -- Paper 6. The number told with 104 is that of the other sessions in the way at the cell that is due, 1 to 15.
  -- (OfCode.antt, model/specs/InTheWay.antt)
  pub waits : EachWaitsOfCode σ h

-- ---- the theorems: of every list

-- of the model: whatever store φ set-up answers 100, and whatever list of actions follows
abbrev pub OfEveryList : (Store → List Action → List Event → Store → Type 0) → Type 0
OfEveryList P =
    (φ : Store) → number (set_up_answer φ) ≡ 100
    → (actions : List Action) → let σ = set_up φ in let ks = reverse actions in P σ actions (events σ ks) (run σ ks)

-- of code, one call at a time: a set-up that kept its contract answered 100 and left σ; calls that kept theirs took the
-- actions, were answered h and left τ (`Ran`). That the exported functions keep their contracts is proved in their
-- crates, and that a call which does is one more of such a list in proofs/Lists.antt
abbrev pub OfCode : (Store → List Action → List Event → Store → Type 0) → Type 0
OfCode P =
    (φ σ : Store) (a : Answer) → outcome a σ ≡ set_up_effect φ → number a ≡ 100
    → (actions : List Action) (h : List Event) (τ : Store) → Ran σ (reverse actions) h τ → P σ actions h τ

-- `the_model_meets` and `code_meets` of proofs/Theorems.antt
abbrev pub TheModelMeets : Type 0
TheModelMeets = OfEveryList Promised

abbrev pub CodeMeets : Type 0
CodeMeets = OfCode Promised
