-- A peek where of the classes and the locks only the lengths are known: what is ensured is ensured of all such buffers, whatever the limits and the other records.
use Rattle.std.specs.Prelude.{◌≡◌, ℕ, ◌%◌, List}
use Rattle.std.specs.Borrow.{Bor}
use Rattle.model.specs.Buffers.{Buffers, Limits, session_at}
use Rattle.model.specs.Slices.{IsPart}
use Rattle.model.specs.Step.{plan_of, peek_shows}
use Rattle.records.specs.declared.Session.{Session}
use Rattle.records.specs.declared.Sessions.{Sessions}
use Rattle.records.specs.declared.Call.TheVariants.{Peek}
use Rattle.records.specs.declared.Plan.{Plan}
use Rattle.refusals.specs.declared.Lengths.{Lengths}
use Rattle.refusals.specs.Pieces.{lengths_in}

-- p is the plan of a peek of cell c by session s
abbrev pub PlansPeek : ℕ → ℕ → Lengths → List ℕ → Session → Plan → Type 0
PlansPeek s c l logs x p =
    (G : Limits) (B : Buffers) (ss : Sessions) → l ≡ lengths_in B → logs ≡ B.logs → session_at ss (s % 16) ≡ x
    → p ≡ plan_of (Peek s c) (record { lent = B; limits = G; sessions = ss })

-- r is its part
abbrev pub ShowsPeek : ℕ → ℕ → Lengths → Bor (List ℕ) → Bor (List ℕ) → Session → Bor (List ℕ) → Type 0
ShowsPeek s c l values logs x r =
    (G : Limits) (B : Buffers) (ss : Sessions) → l ≡ lengths_in B → values.now ≡ B.values → logs.now ≡ B.logs → session_at ss (s % 16) ≡ x
    → IsPart values logs (peek_shows s c (record { lent = B; limits = G; sessions = ss })) r
