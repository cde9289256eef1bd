-- Who may be in another's way at a cell, beside demand 3: a session that runs, or one that publishes the cell. So past its seal a session is in nobody's way at a cell
-- that it does not publish, one that it wrote back and did not hold among them (document 02, Papers 2 and 4); and how many they are, for whom a session waits (Paper 6).
use Rattle.std.specs.Prelude.{ℕ, ◌<◌, ◌≤◌, ◌^◌, ◌≡◌, ◌⊎◌, Bool, true, false, not, ◌&&◌, ◌||◌, List, [], ◌∷◌, eqb}
use Rattle.std.proofs.Math.Option.{Option, some}
use Rattle.records.specs.declared.Call.TheVariants.{Seal, Advance}
use Rattle.records.specs.declared.Answer.{Answer}
use Rattle.records.specs.declared.Lock.{Lock}
use Rattle.model.specs.Search.{some?, tally}
use Rattle.model.specs.Buffers.{Store, size, slot_in, publishes_in, target_in, lock_at}
use Rattle.model.specs.Effects.{number, value_of, record_of, log_of}
use Rattle.model.specs.History.{Action, one_call, run}
use Rattle.model.specs.Readers.{member, other_readers}
use Rattle.model.specs.Step.{step, answer_of}

-- cell c publishes, in the log of session s
abbrev pub publishes_cell : Store → ℕ → ℕ → Bool
publishes_cell σ s c = publishes_in (log_of σ s) (record_of σ s).count c

-- session s is a reader of cell c
abbrev pub is_reader : Store → ℕ → ℕ → Bool
is_reader σ s c = member (lock_at σ.lent.locks c).readers s

-- of what a list of actions leaves; `in_the_way` proves it from what a set-up answered 100 left
pub record InTheWay (σ : Store) : Type 0 where
  -- 104 comes of other readers: each runs, or publishes the cell
  pub readers : (s c : ℕ) → c < size σ.lent → is_reader σ s c ≡ true → ((record_of σ s).phase ≡ 1) ⊎ (publishes_cell σ s c ≡ true)
  -- 6 comes of a claimant: it publishes the cell
  pub claimants : (c : ℕ) → c < size σ.lent → let s = (lock_at σ.lent.locks c).claimant in (s ≡ 16) ⊎ (publishes_cell σ s c ≡ true)

-- a seal was answered 102 or 105
abbrev pub SealTaken : Answer → Type 0
SealTaken a = (number a ≡ 102) ⊎ (number a ≡ 105)

-- such a seal leaves its session a reader of no cell that it does not publish; `seal_lets_go` proves it of what a list of actions leaves
abbrev pub SealLetsGo : Store → ℕ → Type 0
SealLetsGo σ s = let τ = step (Seal s) σ in SealTaken (answer_of (Seal s) σ) → (c : ℕ) → c < size τ.lent → publishes_cell τ s c ≡ false → is_reader τ s c ≡ false

-- ---- how many (document 02, Paper 6)

-- what the promotion step promises of a lock l with any content, answering session s: with 104 comes the number of other readers, which is 1 or more, and at most 15
-- where the set is one of 16 bits
abbrev pub TellsOthers : Lock → ℕ → Answer → Type 0
TellsOthers l s a = number a ≡ 104 → (value_of a ≡ other_readers s l.readers) × (0 < value_of a) × (l.readers < 2 ^ 16 → value_of a ≤ 15)

-- the cell that an advance of session s handles: the lowest that publishes, not below next
abbrev pub due_in : Store → ℕ → Option ℕ
due_in σ s = target_in (log_of σ s) (record_of σ s).count (record_of σ s).next

-- the same of an advance on any store, by the lock of that cell; `waits_for_others` proves it
abbrev pub WaitsForOthers : Store → ℕ → Type 0
WaitsForOthers σ s =
    let a = answer_of (Advance s) σ in
    number a ≡ 104 → (c : ℕ) × (due_in σ s ≡ some c) × TellsOthers (lock_at σ.lent.locks c) s a

-- session t is in the way at cell c: it runs with the cell in its log, or promotes with it among those that it publishes
abbrev pub is_in_the_way : Store → ℕ → ℕ → Bool
is_in_the_way σ c t =
    let x = record_of σ t in
    (eqb x.phase 1 && some? (slot_in (log_of σ t) x.count c)) || (eqb x.phase 2 && publishes_cell σ t c)

-- how many of the sessions other than s are in the way there
unfoldable pub others_in_the_way : Store → ℕ → ℕ → ℕ
others_in_the_way σ s c = tally (λ t. not (eqb t s) && is_in_the_way σ c t) 16

-- an advance of session s answered 104 tells just that number, 1 to 15
abbrev pub WaitsForThose : Store → ℕ → Type 0
WaitsForThose σ s =
    let a = answer_of (Advance s) σ in
    number a ≡ 104 → (c : ℕ) × (due_in σ s ≡ some c) × (value_of a ≡ others_in_the_way σ s c) × (0 < value_of a) × (value_of a ≤ 15)

-- of a list of actions, the newest first: each advance in it, by the store that it met; `waits_for_those` proves it from what a set-up answered 100 left
abbrev pub EachWaitsForThose : Store → List Action → Type 0
EachWaitsForThose σ [] = Unit
EachWaitsForThose σ (k ∷ ks) = EachWaitsForThose σ ks × ((s : ℕ) → k ≡ one_call (Advance s) → WaitsForThose (run σ ks) s)
