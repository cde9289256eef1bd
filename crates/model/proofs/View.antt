-- The store as the proofs look at it: a session's record, its notes, its written cells.
use Prim.Native.Nat.{ℕ}
use mathlib.Core.Path.{◌≡◌, refl, sym}
use mathlib.Core.Bool.{Bool, true, false, not, ◌||◌}
use mathlib.Core.Option.{Option, none, some}
use lib.Dec.{eqb}
use borrow.Author.Tests.{eqb-true}
use Rattle.model.specs.Buffers.{Store, Entry, slot_in, look_in, is_dirty, publishes, is_published, target_in}
use Rattle.model.specs.Effects.{record_of, log_of}
use Rattle.model.proofs.Tools.{test, clash}

abbrev pub is_held : Option Entry → Bool
is_held none = false
is_held (some e) = e.held

unfoldable pub slot : Store → ℕ → ℕ → Option ℕ
slot σ s c = slot_in (log_of σ s) (record_of σ s).count c

unfoldable pub look : Store → ℕ → ℕ → Option Entry
look σ s c = look_in (log_of σ s) (record_of σ s).count c

unfoldable pub written : Store → ℕ → ℕ → Bool
written σ s c = is_published (look σ s c)

unfoldable pub target : Store → ℕ → ℕ → Option ℕ
target σ s from = target_in (log_of σ s) (record_of σ s).count from

-- ---- the laws of `publishes`: no other proof of the model unfolds it

-- what counts as written from the seal on was written or held while running
pub published_marked : (o : Option Entry) → is_published o ≡ true → (is_dirty o || is_held o) ≡ true
unfolding publishes
published_marked none h = h
published_marked (some e) h = test e.dirty (λ d. rw d) (λ d. rw d (test e.held (λ g. g) (λ g. absurd (clash false (rw (d, g) at h) refl))))

-- an entry that is new does not
pub entered_unpublished : (v : ℕ) → publishes (record { snapshot = v; current = v; dirty = false; held = false }) ≡ false
unfolding publishes
entered_unpublished v = refl

-- one that is written does by the values, unless it is held
pub noted_publishes : (f v : ℕ) (h : Bool) → publishes (record { snapshot = f; current = v; dirty = true; held = h }) ≡ (h || not (eqb v f))
unfolding publishes
noted_publishes f v h = refl

-- one that is held does
pub held_publishes : (e : Entry) → e.held ≡ true → publishes e ≡ true
unfolding publishes
held_publishes e h = rw h

-- what is written and does not count has the value found
pub unpublished_found : (e : Entry) → e.dirty ≡ true → publishes e ≡ false → e.current ≡ e.snapshot
unfolding publishes
unpublished_found e d w =
    test e.held (λ h. absurd (clash false (rw h at (sym w)) refl))
    (λ h. test (eqb e.current e.snapshot) (λ q. eqb-true e.current e.snapshot q) (λ q. absurd (clash false (rw (h, d, q) at (sym w)) refl)))
