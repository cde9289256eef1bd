-- A table of caps loaded, where of the locks and the logs only the lengths are known: what is ensured is ensured of all such buffers; and its refusals past 7.
use Rattle.std.specs.Prelude.{◌≡◌, ℕ, List, ◌&&◌, length}
use Rattle.model.specs.Buffers.{Buffers, has_caps, passes, all_fit}
use Rattle.model.specs.Load.{all_idle, all_classed, load_effect}
use Rattle.model.specs.Plans.{require}
use Rattle.model.specs.Slices.{Slice}
use Rattle.model.specs.Step.{outcome}
use Rattle.refusals.specs.declared.Lengths.{Lengths}
use Rattle.refusals.specs.Pieces.{match_of}
use Rattle.records.specs.declared.Sessions.{Sessions}
use Rattle.records.specs.declared.Answer.{Answer}

-- what refuses set-up by the table T of buffers of these lengths, values and classes: 7, 16 or 8, or 0
unfoldable pub set_up_tests : List ℕ → Lengths → List ℕ → List ℕ → ℕ
set_up_tests T l vs ks = require (has_caps T && match_of l) 7 (require (passes T) 16 (require (all_fit T vs ks) 8 0))

-- what refuses to load the table T past 7: 2, 16, 8 or 17, or 0
unfoldable pub table_refusal : List ℕ → Sessions → List ℕ → List ℕ → ℕ
table_refusal T ss vs ks =
    require (all_idle ss) 2 (require (passes T) 16 (require (all_classed ks) 8 (require (all_fit T vs ks) 17 0)))

-- the buffers have these values and classes, and locks and logs of these lengths
pub record Lends (vs ks : List ℕ) (r c e w : ℕ) (B : Buffers) : Type 0 where
  pub values : vs ≡ B.values
  pub classes : ks ≡ B.classes
  pub readers : r ≡ length B.locks.readers
  pub claimants : c ≡ length B.locks.claimants
  pub exclusives : e ≡ length B.locks.exclusives
  pub logs : w ≡ length B.logs

-- a is the answer, and what is left in the place of the table in force, of every such buffers
abbrev pub LoadsCaps : Slice → Slice → ℕ → ℕ → ℕ → ℕ → Slice → Slice → Sessions → Answer → Type 0
LoadsCaps values classes r c e w caps table ss a =
    (B : Buffers) → Lends values.entry.now classes.entry.now r c e w B
    → outcome a (record { lent = B; limits = record { caps = caps.exit.now }; sessions = ss })
    ≡ load_effect table.entry.now (record { lent = B; limits = record { caps = caps.entry.now }; sessions = ss })
