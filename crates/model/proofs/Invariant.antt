-- The invariant of a run, and how it is put together after a call of session s.
use Prim.Native.Nat.{ℕ, zero, suc, ◌≤◌, ◌<◌}
use native.Mathlib.Omega.{arith}
use mathlib.Core.Path.{◌≡◌, refl, sym, ◌∙◌}
use mathlib.Core.Bool.{Bool, true, false, cond, ◌||◌}
use mathlib.Core.Option.{Option, none, some}
use mathlib.Core.List.{List, [], ◌∷◌, ◌++◌}
use lib.Dec.{leb}
use lib.ListN.{length, get_or}
use borrow.Author.Tests.{lt-ltb, le-ltb}
use Rattle.records.specs.declared.Session.{Session}
use Rattle.model.specs.Buffers.{Store, Entry, is_dirty, publishes, is_published, current_of, lock_at}
use Rattle.model.specs.Load.{with_caps}
use Rattle.model.specs.Isolation.{All, Holds}
use Rattle.model.specs.Search.{tally}
use Rattle.model.specs.Effects.{record_of}
use Rattle.model.specs.Told.{ReadOf}
use Rattle.model.proofs.Laws.{Long}
use Rattle.model.proofs.Ledger.{Txn, Commit, Ledger, tick, calm, value_before, Fair, Lawful}
use Rattle.model.proofs.Roles.{Role, out, reading, wanting, owning, pending, published, Locked, Valued}
use Rattle.model.proofs.Tools.{same, clash, upd, upd_same, upd_other}
use Rattle.model.proofs.View.{is_held, look}

-- ---- what session s is to a cell

unfoldable pub role_in : ℕ → Bool → Bool → ℕ → ℕ → Role
role_in zero w b f v = out
role_in (suc zero) w b f v = reading f
role_in (suc (suc zero)) w b f v = cond w (cond b wanting (owning v)) out
role_in (suc (suc (suc zero))) w b f v = cond w (cond b (pending v) published) out
role_in (suc (suc (suc (suc zero)))) w b f v = cond w (cond b published out) out
role_in (suc (suc (suc (suc (suc k))))) w b f v = out

unfoldable pub role_of : Session → ℕ → Option Entry → Role
role_of x c none = out
role_of x c (some e) = role_in x.phase (publishes e) (leb x.next c) e.snapshot e.current

unfoldable pub role : Store → ℕ → ℕ → Role
role σ c s = role_of (record_of σ s) c (look σ s c)

-- ---- the last committed value

unfoldable pub latest : List ℕ → List Commit → ℕ → ℕ
latest start [] c = get_or start c 0
latest start (k ∷ ks) c = cond (k.wrote c) (k.value c) (latest start ks c)

pub before_latest : (start : List ℕ) (p c : ℕ) (ks : List Commit) → All (λ (k : Commit). k.place < p) ks → value_before p start ks c ≡ latest start ks c
unfolding value_before latest
before_latest start p c [] h = refl
before_latest start p c (k ∷ ks) h = rw (lt-ltb k.place p h.0, before_latest start p c ks h.1)

pub before_later : (start : List ℕ) (p c : ℕ) (k : Commit) (ks : List Commit) → p ≤ k.place → value_before p start (k ∷ ks) c ≡ value_before p start ks c
unfolding value_before
before_later start p c k ks h = rw (le-ltb k.place p h)

pub all_map {ℓ} : {A : Type ℓ} {P Q : A → Type 0} (f : (a : A) → P a → Q a) (l : List A) → All P l → All Q l
all_map f [] h = tt
all_map f (x ∷ xs) h = (f x h.0, all_map f xs h.1)

pub all_append {ℓ} : {A : Type ℓ} (P : A → Type 0) (k l : List A) → All P k → All P l → All P (k ++ l)
all_append P [] l g h = h
all_append P (x ∷ xs) l g h = (g.0, all_append P xs l g.1 h)

-- ---- a session and its transaction

pub record Running (look : ℕ → Option Entry) (t : Txn) : Type 0 where
  pub live : t.live ≡ true
  pub open' : t.done ≡ false
  pub moved : t.moved ≡ 0
  pub unsealed : t.snap ≡ 0
  pub dirtied : (c : ℕ) → t.dirtied c ≡ is_dirty (look c)
  pub held : (c : ℕ) → t.held c ≡ is_held (look c)
  pub wrote : (c : ℕ) → t.wrote c ≡ is_published (look c)
  pub value : (c : ℕ) → (is_dirty (look c) || is_held (look c)) ≡ true → t.value c ≡ current_of (look c)
  pub reads : All (λ (r : ReadOf). (e : Entry) × (look r.cell ≡ some e) × (e.snapshot ≡ r.value)) t.reads
  pub clean : (c : ℕ) (e : Entry) → look c ≡ some e → e.dirty ≡ false → e.current ≡ e.snapshot

pub record Promoting (start : List ℕ) (ks : List Commit) (place next : ℕ) (look : ℕ → Option Entry) (t : Txn) : Type 0 where
  pub live : t.live ≡ true
  pub open' : t.done ≡ false
  pub moved : t.moved ≡ tally t.wrote next
  pub wrote : (c : ℕ) → t.wrote c ≡ is_published (look c)
  pub value : (c : ℕ) → is_published (look c) ≡ true → t.value c ≡ current_of (look c)
  pub sealed : (0 < t.snap) × (t.snap < place)
  pub reads : All (λ (r : ReadOf). r.value ≡ value_before t.snap start ks r.cell) t.reads
  pub apart : All (λ (j : Commit). (c : ℕ) → j.wrote c ≡ true → t.wrote c ≡ true → j.place < t.snap) ks
  pub left : (c : ℕ) × (t.wrote c ≡ true) × (next ≤ c) × (c < length start)

pub record Finishing (t : Txn) : Type 0 where
  pub live : t.live ≡ true
  pub done : t.done ≡ true

abbrev pub Link : List ℕ → List Commit → ℕ → ℕ → (ℕ → Option Entry) → Txn → ℕ → Type 0
Link start ks place next look t zero = t.live ≡ false
Link start ks place next look t (suc zero) = Running look t
Link start ks place next look t (suc (suc zero)) = Promoting start ks place next look t
Link start ks place next look t (suc (suc (suc zero))) = Finishing t
Link start ks place next look t (suc (suc (suc (suc zero)))) = Finishing t
Link start ks place next look t (suc (suc (suc (suc (suc k))))) = ⊥

-- more commits and a later place concern only those that promote
pub link_grow : {start : List ℕ} {ks ls : List Commit} {p q next : ℕ} {f : ℕ → Option Entry} {t : Txn} (ph : ℕ)
    → (ph ≡ 2 → Promoting start ks p next f t → Promoting start ls q next f t) → Link start ks p next f t ph → Link start ls q next f t ph
link_grow zero h l = l
link_grow (suc zero) h l = l
link_grow (suc (suc zero)) h l = h refl l
link_grow (suc (suc (suc zero))) h l = l
link_grow (suc (suc (suc (suc zero)))) h l = l
link_grow (suc (suc (suc (suc (suc k))))) h l = l

-- ---- the whole

pub record Shape (n : ℕ) (σ : Store) : Type 0 where
  pub values : length σ.lent.values ≡ n
  pub records : length σ.sessions.records ≡ 16
  pub long : Long n σ.lent.locks
  pub logs : length σ.lent.logs ≡ 2048
  pub counts : (s : ℕ) → (record_of σ s).count ≤ 32

-- if the newest commit was made by the last call, its session holds all the cells that it wrote
abbrev pub Just : Store → Bool → List Commit → Type 0
Just σ new [] = Unit
Just σ new (k ∷ ks) = new ≡ true → (c : ℕ) → k.wrote c ≡ true → Holds σ k.who c

pub just_off : (σ : Store) (b : Bool) (ks : List Commit) → b ≡ false → Just σ b ks
just_off σ b [] h = tt
just_off σ b (k ∷ ks) h = λ e. absurd (clash b e h)

pub just_map : (σ τ : Store) (b : Bool) (ks : List Commit) → ((s c : ℕ) → Holds σ s c → Holds τ s c) → Just σ b ks → Just τ b ks
just_map σ τ b [] f h = tt
just_map σ τ b (k ∷ ks) f h = λ e c w. f k.who c (h e c w)

pub record Inv (start : List ℕ) (σ : Store) (T : Ledger) : Type 0 where
  pub shape : Shape (length start) σ
  pub locked : (c : ℕ) → c < length start → Locked (role σ c) (lock_at σ.lent.locks c)
  pub valued : (c : ℕ) → c < length start → Valued (role σ c) (get_or σ.lent.values c 0) (latest start T.commits c)
  pub link : (s : ℕ) → Link start T.commits T.place (record_of σ s).next (look σ s) (T.mine s) (record_of σ s).phase
  pub lawful : Lawful start T.commits
  pub begun : 0 < T.place
  pub old : All (λ (k : Commit). k.place < T.place) T.commits
  pub just : Just σ T.new T.commits

-- session s acts: the other sessions' records and logs stay
pub record Frame (s : ℕ) (σ τ : Store) : Type 0 where
  pub ses : (t : ℕ) → (t ≡ s → ⊥) → record_of τ t ≡ record_of σ t
  pub notes : (t : ℕ) → (t ≡ s → ⊥) → look τ t ≡ look σ t

pub role_other : {s : ℕ} {σ τ : Store} → Frame s σ τ → (c t : ℕ) → (t ≡ s → ⊥) → role τ c t ≡ role σ c t
unfolding role
role_other f c t n = rw (f.ses t n, f.notes t n)

module _ {start : List ℕ} {σ : Store} {T : Ledger} (s : ℕ) (I : Inv start σ T) where
  pub assemble : {τ : Store} → Frame s σ τ → Shape (length start) τ → (U : Ledger) → ((t : ℕ) → (t ≡ s → ⊥) → U.mine t ≡ T.mine t)
      → ((t : ℕ) → (t ≡ s → ⊥) → (record_of σ t).phase ≡ 2 → Promoting start T.commits T.place (record_of σ t).next (look σ t) (T.mine t)
      → Promoting start U.commits U.place (record_of σ t).next (look σ t) (T.mine t))
      → ((c : ℕ) → c < length start → Locked (role τ c) (lock_at τ.lent.locks c))
      → ((c : ℕ) → c < length start → Valued (role τ c) (get_or τ.lent.values c 0) (latest start U.commits c))
      → Link start U.commits U.place (record_of τ s).next (look τ s) (U.mine s) (record_of τ s).phase
      → Lawful start U.commits → T.place ≤ U.place → All (λ (k : Commit). k.place < U.place) U.commits → Just τ U.new U.commits → Inv start τ U
  assemble {τ} f sh U mn gr lo va li la pl ol ju =
      record {
        shape = sh;
        locked = lo;
        valued = va;
        link = λ t. same t s (λ e. rw e li) (λ n. rw (f.ses t n, f.notes t n, mn t n) (link_grow (record_of σ t).phase (gr t n) (I.link t)));
        lawful = la;
        begun = omega (arith, I.begun);
        old = ol;
        just = ju;
      }

  -- no new commit
  later : {q next : ℕ} {f : ℕ → Option Entry} {t : Txn} → T.place ≤ q
      → Promoting start T.commits T.place next f t → Promoting start T.commits q next f t
  later h p =
      record {
        live = p.live;
        open' = p.open';
        moved = p.moved;
        wrote = p.wrote;
        value = p.value;
        sealed = (p.sealed.0, omega (arith, p.sealed.1));
        reads = p.reads;
        apart = p.apart;
        left = p.left;
      }

  pub quiet : {τ : Store} → Frame s σ τ → Shape (length start) τ → (u : Txn) (q : ℕ) → T.place ≤ q
      → ((c : ℕ) → c < length start → Locked (role τ c) (lock_at τ.lent.locks c))
      → ((c : ℕ) → c < length start → Valued (role τ c) (get_or τ.lent.values c 0) (latest start T.commits c))
      → Link start T.commits q (record_of τ s).next (look τ s) u (record_of τ s).phase
      → Inv start τ (record { place = q; mine = upd T.mine s u; commits = T.commits; new = false })
  quiet {τ} f sh u q le lo va li =
      assemble f sh (record { place = q; mine = upd T.mine s u; commits = T.commits; new = false })
      (λ t n. upd_other T.mine s u t n) (λ t n e p. later le p) lo va (rw (upd_same T.mine s u) li) I.lawful le
      (all_map (λ k h. omega arith) T.commits I.old) (just_off τ false T.commits refl)

  -- a new commit, of session s at this place
  pub committing : {τ : Store} → Frame s σ τ → Shape (length start) τ → (u : Txn) (k : Commit) → k.place ≡ T.place
      → ((t c : ℕ) → (t ≡ s → ⊥) → (record_of σ t).phase ≡ 2 → k.wrote c ≡ true → is_published (look σ t c) ≡ true → ⊥)
      → Fair start k T.commits
      → ((c : ℕ) → c < length start → Locked (role τ c) (lock_at τ.lent.locks c))
      → ((c : ℕ) → c < length start → Valued (role τ c) (get_or τ.lent.values c 0) (latest start (k ∷ T.commits) c))
      → Link start (k ∷ T.commits) (suc T.place) (record_of τ s).next (look τ s) u (record_of τ s).phase
      → ((c : ℕ) → k.wrote c ≡ true → Holds τ k.who c)
      → Inv start τ (record { place = suc T.place; mine = upd T.mine s u; commits = k ∷ T.commits; new = true })
  committing f sh u k e non fa lo va li ho =
      assemble f sh (record { place = suc T.place; mine = upd T.mine s u; commits = k ∷ T.commits; new = true })
      (λ t n. upd_other T.mine s u t n)
      (λ t n ph p.
      record {
        live = p.live;
        open' = p.open';
        moved = p.moved;
        wrote = p.wrote;
        value = p.value;
        sealed = (p.sealed.0, omega (arith, p.sealed.1));
        reads = all_map (λ r h. h ∙ sym (before_later start (T.mine t).snap r.cell k T.commits (omega (arith, p.sealed.1)))) (T.mine t).reads p.reads;
        apart = (λ c a b. absurd (non t c n ph a (sym (p.wrote c) ∙ b)), p.apart);
        left = p.left;
      })
      lo va (rw (upd_same T.mine s u) li) (fa, I.lawful) (omega arith)
      (omega arith, all_map (λ k h. omega arith) T.commits I.old) (λ e. ho)

-- no commit by the last call
pub calms : {start : List ℕ} {σ : Store} {T : Ledger} → Inv start σ T → Inv start σ (calm T)
calms {σ} {T} I =
    record {
      shape = I.shape;
      locked = I.locked;
      valued = I.valued;
      link = I.link;
      lawful = I.lawful;
      begun = I.begun;
      old = I.old;
      just = just_off σ false T.commits refl;
    }

-- another table of caps in force
pub recaps : {start : List ℕ} {σ : Store} {T : Ledger} (caps : List ℕ) → Inv start σ T → Inv start (with_caps caps σ) T
unfolding role look
recaps {σ} {T} caps I =
    record {
      shape = record { values = I.shape.values; records = I.shape.records; long = I.shape.long; logs = I.shape.logs; counts = I.shape.counts };
      locked = I.locked;
      valued = I.valued;
      link = I.link;
      lawful = I.lawful;
      begun = I.begun;
      old = I.old;
      just = just_map σ (with_caps caps σ) T.new T.commits (λ s c h. h) I.just;
    }

-- the next place
pub ticks : {start : List ℕ} {σ : Store} {T : Ledger} → Inv start σ T → Inv start σ (tick T)
ticks {σ} {T} I =
    record {
      shape = I.shape;
      locked = I.locked;
      valued = I.valued;
      link = λ t. link_grow (record_of σ t).phase (λ e p. later 0 I (omega arith) p) (I.link t);
      lawful = I.lawful;
      begun = omega (arith, I.begun);
      old = all_map (λ k h. omega arith) T.commits I.old;
      just = I.just;
    }
