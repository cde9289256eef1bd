-- What the inner functions leave, and what is lent on to set-up. Nothing here is part of what `replay` promises.
use Rattle.std.specs.Prelude.{ℕ, ◌≤◌, ◌≡◌, List, length, Option, Some, None, Ok, Err}
use Rattle.model.specs.Buffers.{Store}
use Rattle.model.specs.Slices.{Slice}
use Rattle.records.specs.declared.Call.{Call}
use Rattle.items.specs.declared.Next.TheVariants as next
use Rattle.items.specs.Items.{Standing, items_at}
use Rattle.lines.specs.declared.Page.{Page}
use Rattle.lines.specs.Output.{Puts}
use Rattle.replay_text.specs.Transcript.{given, calls_text, set_up_text}

-- the call that stands at a place, with its field's length, if one does
unfoldable pub call_of : Standing → Option (Call × ℕ)
call_of (Ok (Some (next.Call k n))) = Some (k, n)
call_of (Ok (Some (next.Cell c))) = None
call_of (Ok None) = None
call_of (Err r) = None

-- the text of the calls from a place of a lent input on, from the store σ
abbrev pub PutsCalls : Slice → ℕ → Page → Page → Store → Type 0
PutsCalls input from old new σ = Puts old new (calls_text 1 σ (items_at input.entry.now from)) 409600

-- the text of set-up on lent cells, and of the calls from a place of a lent input on
abbrev pub PutsSetUp : Slice → ℕ → Page → Page → Slice → Slice → Type 0
PutsSetUp input from old new values classes =
    Puts old new (set_up_text (given values.entry.now classes.entry.now) (items_at input.entry.now from)) 409600

-- what set-up is handed: at most 1,024 cells, with a class and a lock for each, and 2,048 words of logs
pub record Fitted (vs ks readers claimants exclusives logs : List ℕ) : Type 0 where
  pub few : length vs ≤ 1024
  pub classed : length ks ≡ length vs
  pub read : length readers ≡ length vs
  pub claimed : length claimants ≡ length vs
  pub marked : length exclusives ≡ length vs
  pub logged : length logs ≡ 2048
