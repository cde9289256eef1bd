-- The word of the logs that a peek is shown, in numbers.
use Rattle.std.specs.Prelude.{ℕ, ◌≡◌}
use Rattle.model.specs.Buffers.{Store}
use Rattle.model.specs.Effects.{log_word, shown}
use Rattle.records.specs.declared.Plan.TheVariants.{ShowLog}

-- i is the index in the logs of the word that a peek of session s with a dirty entry k is shown, in whatever store
abbrev pub ShownAt : ℕ → ℕ → ℕ → Type 0
ShownAt s k i = (σ : Store) → log_word i ≡ shown s (ShowLog k) σ
