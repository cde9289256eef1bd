-- The input as items, one for each field (document 01, "Call fields"): starting cells, calls, and a refused field, which is the last.
use Rattle.std.specs.Prelude.{ℕ, zero, suc, ◌+◌, List, [], ◌∷◌, length, Option, Some, None, Result, Ok, Err}
use Rattle.field.specs.declared.Kind.{Kind}
use Rattle.field.specs.declared.Kind.TheVariants as kind
use Rattle.field.specs.declared.Call.{Call as Numbers}
use Rattle.field.specs.declared.Refused.{Refused}
use Rattle.field.specs.Answer.{number_of}
use Rattle.field.specs.Field.{Reading, reading_at}
use Rattle.records.specs.declared.Call.{Call}
use Rattle.records.specs.declared.Call.TheVariants as call
use Rattle.model.specs.History.{Action, one_call}
use Rattle.items.specs.declared.Next.{Next}
use Rattle.items.specs.declared.Next.TheVariants as next

-- what a field is to the replay, with its length
unfoldable pub next_of_field : Kind → Numbers → ℕ → Next
next_of_field kind.Begin x n = next.Call (call.Begin x.session) n
next_of_field kind.Read x n = next.Call (call.Read x.session x.cell) n
next_of_field kind.Write x n = next.Call (call.Write x.session x.cell x.value) n
next_of_field kind.Seal x n = next.Call (call.Seal x.session) n
next_of_field kind.Advance x n = next.Call (call.Advance x.session) n
next_of_field kind.Abandon x n = next.Call (call.Abandon x.session) n
next_of_field kind.StartingCell x n = next.Cell (record { class = x.class; value = x.value; length = n })
next_of_field kind.Hold x n = next.Call (call.Hold x.session x.cell) n

-- what stands at a place, where a reading stands there
abbrev pub Standing : Type 0
Standing = Result (Option Next) Refused

unfoldable pub next_of : Reading → Standing
next_of (Ok (Some f)) = Ok (Some (next_of_field f.kind f.call f.length))
next_of (Ok None) = Ok None
next_of (Err r) = Err r

-- an item: a starting cell with its place, class and value; a call; a refused field with its place and number
pub data Item : Type 0 where
  cell : ℕ → ℕ → ℕ → Item
  asked : Call → Item
  refused : ℕ → ℕ → Item

-- the items from a place on, each from where the one before it ends
unfoldable pub following : ℕ → Standing → (ℕ → List Item) → List Item
following place (Ok (Some (next.Cell c))) from = cell place c.class c.value ∷ from (place + c.length)
following place (Ok (Some (next.Call k n))) from = asked k ∷ from (place + n)
following place (Ok None) from = []
following place (Err r) from = refused place (number_of r.refusal) ∷ []

unfoldable pub items_within : ℕ → List ℕ → ℕ → List Item
items_within zero bytes place = []
items_within (suc more) bytes place = following place (next_of (reading_at bytes place)) (items_within more bytes)

-- there are not more items than bytes (proofs/Scanning.antt: items_step)
unfoldable pub items_at : List ℕ → ℕ → List Item
items_at bytes place = items_within (length bytes) bytes place

-- ---- the leading starting cells, and the items after them

unfoldable pub values : List Item → List ℕ
values [] = []
values (cell place class value ∷ items) = value ∷ values items
values (asked k ∷ items) = []
values (refused place number ∷ items) = []

unfoldable pub classes : List Item → List ℕ
classes [] = []
classes (cell place class value ∷ items) = class ∷ classes items
classes (asked k ∷ items) = []
classes (refused place number ∷ items) = []

unfoldable pub later : List Item → List Item
later [] = []
later (cell place class value ∷ items) = later items
later (asked k ∷ items) = asked k ∷ items
later (refused place number ∷ items) = refused place number ∷ items

-- ---- the calls of items, up to the first that is no call, each an action

unfoldable pub calls : List Item → List Action
calls [] = []
calls (cell place class value ∷ items) = []
calls (asked k ∷ items) = one_call k ∷ calls items
calls (refused place number ∷ items) = []
