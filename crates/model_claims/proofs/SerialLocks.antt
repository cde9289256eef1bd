-- The store meets the ledger where one session alone has a transaction open: nobody else holds or claims a lock, and what is read is the last
-- committed value or the session's own. By the invariant: a session with no open transaction is idle, so it is nothing to any cell.
use Prim.Native.Nat.{ℕ, zero, suc, ◌<◌}
use mathlib.Core.Path.{◌≡◌, refl, sym, ◌∙◌, ap, subst}
use mathlib.Core.Logic.{◌⊎◌, inl, inr}
use mathlib.Core.Bool.{true, false, cond}
use mathlib.Core.Option.{none, some}
use mathlib.Core.List.{List}
use lib.ListN.{length, get_or}
use Rattle.model.specs.Buffers.{Store, Entry, slot_in, is_dirty, publishes, is_published, current_of, lock_at}
use Rattle.model.specs.Readers.{other_readers}
use Rattle.model.specs.Effects.{record_of}
use Rattle.model.proofs.Effects.{unknown, idle_out, running_role, slot_none}
use Rattle.model.proofs.Invariant.{role, latest, Running, Link, Inv}
use Rattle.model.proofs.Ledger.{Ledger}
use Rattle.model.proofs.Preservation.{runs}
use Rattle.model.proofs.Roles.{out, holds, pends, claims?}
use Rattle.model_claims.proofs.SerialLedger.{overlay}
use Rattle.model.proofs.Sets.{alone_others}
use Rattle.model.proofs.Tools.{same, test, which, clash}
use Rattle.model.proofs.View.{slot, look, published_marked, unpublished_found}

-- ---- who is nothing to a cell

pub unlogged_out : (σ : Store) (s c : ℕ) → slot σ s c ≡ none → role σ c s ≡ out
unfolding slot slot_in
unlogged_out σ s c p = unknown σ s c p

module _ {start : List ℕ} {σ : Store} {T : Ledger} (I : Inv start σ T) where
  closed_idle : (s : ℕ) → (T.mine s).live ≡ false → (record_of σ s).phase ≡ 0
  closed_idle s d = go (record_of σ s).phase (I.link s)
    where
      go : (ph : ℕ) → Link start T.commits T.place (record_of σ s).next (look σ s) (T.mine s) ph → ph ≡ 0
      go zero x = refl
      go (suc zero) x = absurd (clash (T.mine s).live x.live d)
      go (suc (suc zero)) x = absurd (clash (T.mine s).live x.live d)
      go (suc (suc (suc zero))) x = absurd (clash (T.mine s).live x.live d)
      go (suc (suc (suc (suc zero)))) x = absurd (clash (T.mine s).live x.live d)
      go (suc (suc (suc (suc (suc k))))) x = absurd x

  pub closed_out : (s : ℕ) → (T.mine s).live ≡ false → (c : ℕ) → role σ c s ≡ out
  closed_out s d c = idle_out σ s c (closed_idle s d)

  -- nobody is anything to a cell: the store has its last committed value
  pub value_latest : (c : ℕ) → c < length start → ((u : ℕ) → role σ c u ≡ out) → get_or σ.lent.values c 0 ≡ latest start T.commits c
  value_latest c lc h = (I.valued c lc).settled (λ u. ap pends (h u))

  -- ---- one session alone

  module _ (s : ℕ) (alone : (u : ℕ) → (u ≡ s → ⊥) → (T.mine u).live ≡ false) (c : ℕ) (lc : c < length start) where
    others_out : (u : ℕ) → (u ≡ s → ⊥) → role σ c u ≡ out
    others_out u n = closed_out u (alone u n) c

    pub no_readers : other_readers s (lock_at σ.lent.locks c).readers ≡ 0
    no_readers = alone_others s (lock_at σ.lent.locks c).readers (λ t n. (I.locked c lc).readers t ∙ ap holds (others_out t n))

    -- a claimant is the session itself, and it is something to the cell
    pub own_claim : ((lock_at σ.lent.locks c).claimant ≡ 16 → ⊥) → ((lock_at σ.lent.locks c).claimant ≡ s) × (role σ c s ≡ out → ⊥)
    own_claim n = go (I.locked c lc).claimer
      where
        go : ((lock_at σ.lent.locks c).claimant ≡ 16) ⊎ (claims? (role σ c (lock_at σ.lent.locks c).claimant) ≡ true)
            → ((lock_at σ.lent.locks c).claimant ≡ s) × (role σ c s ≡ out → ⊥)
        go (inl e) = absurd (n e)
        go (inr h) =
            same (lock_at σ.lent.locks c).claimant s
            (λ e. (e, λ o. clash (claims? (role σ c s)) (subst (λ (u : ℕ). claims? (role σ c u) ≡ true) e h) (ap claims? o)))
            (λ d. absurd (clash (claims? (role σ c (lock_at σ.lent.locks c).claimant)) h (ap claims? (others_out (lock_at σ.lent.locks c).claimant d))))

    -- ---- what is read

    module _ (ph : (record_of σ s).phase ≡ 1) where
      run : Running (look σ s) (T.mine s)
      run = runs I s ph

      -- a new cell: the store's value
      pub reads_store : slot σ s c ≡ none → get_or σ.lent.values c 0 ≡ overlay (T.mine s) (latest start T.commits) c
      reads_store p =
          rw (run.wrote c, slot_none σ s c p) (value_latest c lc (λ u. same u s (λ e. rw e (unlogged_out σ s c p)) (others_out u)))

      -- an entry that does not publish has the value found
      unpublished : (e : Entry) → look σ s c ≡ some e → publishes e ≡ false → e.current ≡ e.snapshot
      unpublished e p w = test e.dirty (λ d. unpublished_found e d w) (λ d. run.clean c e p d)

      -- a cell in the log: its present value
      pub reads_entry : (e : Entry) → look σ s c ≡ some e → e.current ≡ overlay (T.mine s) (latest start T.commits) c
      reads_entry e p =
          test (publishes e)
          (λ w. let q : is_published (look σ s c) ≡ true = ap is_published p ∙ w in rw (run.wrote c ∙ q) (sym (run.value c (published_marked (look σ s c) q) ∙ ap current_of p)))
          (λ w. rw (run.wrote c ∙ ap is_published p ∙ w) (unpublished e p w ∙ (I.valued c lc).fresh s e.snapshot (running_role σ s c e ph p)))

      -- the value with which a held cell counts is what is read of it
      pub holds_value : (f : ℕ) → f ≡ latest start T.commits c
          → cond ((T.mine s).dirtied c) ((T.mine s).value c) f ≡ overlay (T.mine s) (latest start T.commits) c
      holds_value f found =
          which (look σ s c)
          (λ p. rw (run.dirtied c, run.wrote c, p) found)
          (λ e p.
          test e.dirty
          (λ d. rw (run.dirtied c ∙ ap is_dirty p ∙ d) (run.value c (rw (p, d)) ∙ ap current_of p ∙ reads_entry e p))
          (λ d. rw (run.dirtied c ∙ ap is_dirty p ∙ d) (found ∙ sym ((I.valued c lc).fresh s e.snapshot (running_role σ s c e ph p)) ∙ sym (run.clean c e p d) ∙ reads_entry e p)))
