-- What the functions of an advance answer where the code splits its plan: the entry that is due and its plan there, and a handled cell.
use Rattle.std.specs.Prelude.{ℕ, Result, Ok, Err, suc, ◌<◌, ◌≡◌, Bool, cond, List, leb, eqb}
use Rattle.std.proofs.Math.Option.{Option, none, some}
use Rattle.model.specs.Effects.{is_left}
use Rattle.model.specs.Turns.{leaves, turn_of}
use Rattle.records.specs.declared.Turn.{Turn}
use Rattle.model.specs.Buffers.{idle, move_to, cell_at, entry_at}
use Rattle.model.specs.Plans.{require, entries_fit, promote_plan}
use Rattle.records.specs.declared.Session.{Session}
use Rattle.records.specs.declared.Lock.{Lock}
use Rattle.records.specs.declared.Answer.TheVariants.{Moved, Committed}
use Rattle.records.specs.declared.Plan.{Plan}
use Rattle.records.specs.declared.Plan.TheVariants.{Refuse, Publish, Release}
use Rattle.session_log.specs.Slots.{target_slot, is_more}
use Rattle.targets.specs.declared.Next.{Next}
use Rattle.records.specs.declared.Refusal.{Refusal}
use Rattle.records.specs.declared.Refusal.TheVariants.{WrongPhase, DamagedRecord}
use Rattle.records.specs.declared.SessionReply.{SessionReply}
use Rattle.records.specs.Records.{refusal_number}

-- the entry that an advance handles (its `target_slot`, session_log/specs/Slots.antt), or 9 or 2; the last cause of 9 is one of phases 2 to 4 alone, so it can come after 2
unfoldable pub due_at : List ℕ → ℕ → Option ℕ → Result Next Refusal
due_at log m none = Err DamagedRecord
due_at log m (some k) = Ok (record { slot = k; more = is_more log m (some k) })

unfoldable pub due_on : ℕ → List ℕ → Session → Result Next Refusal
due_on n log x =
    require (entries_fit n log x) (Err DamagedRecord)
    (require (leb 2 x.phase) (Err WrongPhase) (due_at log x.count (target_slot log x.count x.next)))

-- its cell, 0 where the advance is refused, whatever the refusal; and that the entry is one of 32
unfoldable pub due_cell : {R : Type 0} → List ℕ → Result Next R → ℕ
due_cell log (Err r) = 0
due_cell log (Ok d) = cell_at log d.slot

unfoldable pub DueFits : {R : Type 0} → Result Next R → Type 0
DueFits (Err r) = Unit
DueFits (Ok d) = d.slot < 32

-- advance at entry k, with the lock of its cell; and at the entry that is due
unfoldable pub advance_on : List ℕ → Session → Lock → ℕ → ℕ → Plan
advance_on log x l s k =
    cond (eqb x.phase 2) (promote_plan s (cell_at log k) l)
    (cond (eqb x.phase 3) (Publish (cell_at log k) (entry_at log k).current) (Release (cell_at log k)))

unfoldable pub due_plan : ℕ → List ℕ → Session → Lock → Result Next Refusal → Plan
due_plan s log x l (Err r) = Refuse (refusal_number r)
due_plan s log x l (Ok d) = advance_on log x l s d.slot

-- the promotion step at cell c with the lock l, whatever the values and the log are: more is whether a cell that publishes is left above c
abbrev pub Promotes : Session → Lock → ℕ → ℕ → Bool → Turn → Type 0
Promotes x l s c more r =
    (vs log : List ℕ) → more ≡ is_left log c x → leaves r.answer vs log r.session r.change ≡ turn_of (promote_plan s c l) vs log x

-- the record once cell c is handled, and the answer, by whether a cell that publishes is left above it: before phase 4 the answer is 103
unfoldable pub handled_by : Bool → Session → ℕ → SessionReply
handled_by more x c =
    record {
      session = cond more (move_to x.phase (suc c) x) (cond (eqb x.phase 4) idle (move_to (suc x.phase) 0 x));
      answer = cond (eqb x.phase 4) (cond more Moved Committed) Moved;
    }
