-- Hold against read (document 02, Paper 4): it answers what a read does and leaves what a read leaves, and with 101 the cell's entry is held besides. `as_read` in crate
-- model_claims proves it of every store with sixteen records. That nothing goes by the mark before the seal: peek and write go by the written bit (`peek_slot`,
-- `write_slot`), read by neither.
use Rattle.std.specs.Prelude.{ℕ, ◌≡◌, cond, eqb}
use Rattle.std.proofs.Math.Option.{Option, none, some}
use Rattle.records.specs.declared.Call.TheVariants.{Read, Hold}
use Rattle.model.specs.Buffers.{Store, slot_in, marked}
use Rattle.model.specs.Effects.{number, record_of, log_of, on_log_of}
use Rattle.model.specs.Step.{Outcome, outcome, effect}

-- session s's entry at a place held
abbrev pub held_at : ℕ → Option ℕ → Store → Store
held_at s none σ = σ
held_at s (some k) σ = on_log_of s (λ log. marked log k) σ

-- what a read answered and left, and where it was 101 the cell's entry held
unfoldable pub and_held : ℕ → ℕ → Outcome → Outcome
and_held s c o =
    cond (eqb (number o.answer) 101) (outcome o.answer (held_at s (slot_in (log_of o.store s) (record_of o.store s).count c) o.store)) o

abbrev pub HoldsAsRead : ℕ → ℕ → Store → Type 0
HoldsAsRead s c σ = effect (Hold s c) σ ≡ and_held s c (effect (Read s c) σ)
