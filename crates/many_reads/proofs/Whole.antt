-- The call is the model's: refused by its list or target, by the tests that a first read makes, or as its reads come to.
use Prim.Native.Nat.{ℕ, ◌+◌, ◌%◌, ◌<◌, ◌≤◌}
use native.Mathlib.Omega.{arith}
use mathlib.Core.Path.{◌≡◌, refl, sym, ap, subst, ◌∙◌}
use mathlib.Core.Bool.{Bool, true, false, ◌&&◌}
use mathlib.Core.List.{List, [], ◌∷◌, ◌++◌}
use borrow.Author.Tests.{lt-ltb, ne_eqb, eqb-true, eqb-false, ltb-true, ltb-false, leb-true}
use lib.Dec.{leb, ltb, eqb}
use lib.ListN.{length, drop, get_or-eq_default}
use lib.Seq.{sets-eq}
use Rattle.model.specs.Buffers.{Limits, Locks, Buffers, Store, size, idle, with_entries, session_at, with_session, log_in, on_log}
use Rattle.model.specs.Effects.{answer, after, rolled_back}
use Rattle.model.specs.ManyReads.{reads, list_refusal, read_many, read_many_effect, TakesReads}
use Rattle.model.specs.Plans.{record_fits, read_plan, plan}
use Rattle.model.specs.Step.{plan_of, step, answer_of}
use Rattle.records.specs.declared.Session.{Session}
use Rattle.records.specs.declared.Sessions.{Sessions}
use Rattle.records.specs.declared.Answer.TheVariants.{Done}
use Rattle.records.specs.declared.Call.TheVariants.{Read}
use Rattle.records.specs.declared.Plan.TheVariants.{Refuse}
use Rattle.records.specs.declared.ReadManyReply.{ReadManyReply}
use Rattle.records.specs.declared.Refusal.{Refusal}
use Rattle.records.specs.Records.{refusal_number}
use Rattle.records.proofs.Refusals.{nonzero}
use Rattle.model.proofs.Carried.{same_log, same_record}
use Rattle.model.proofs.Laws.{log_length}
use Rattle.model.proofs.Tools.{test, both_l, both_r}
use Rattle.model.proofs.Passing.{record_entries}
use Rattle.contracts.specs.Lent.{locks_of}
use Rattle.session_log.proofs.Logs.{cut, puts, cut_is, puts_is}
use Rattle.sweeps.specs.Sweeps.{Swept}
use Rattle.refusals.specs.declared.Lengths as the
use Rattle.refusals.specs.Pieces.{match_of, admission, tested}
use Rattle.refusals.proofs.Admission.{Admitted, lengths_in, admitted, plan_refused}
use Rattle.refusals.proofs.Ways as tests
use Rattle.cell_reads.specs.Cells.{Fits, CellsRead, cells_read, read_cells, number_of}
use Rattle.cell_reads.specs.declared.CellsReply.{CellsReply}
use Rattle.cell_reads.proofs.Ways.{not_read, reads_fit, reads_few}
use Rattle.many_reads.specs.Tests.{first_refusal}
use Rattle.many_reads.proofs.AsModel.{left_by, Same, same_reads}
use Rattle.many_reads.proofs.OneRead.{store_with}

-- ---- the list and the target

module _ (s : ℕ) (cs T : List ℕ) where
  -- they do not fit
  pub refused_list : (B : Buffers) (x : Session) (n : ℕ) → n ≡ list_refusal (length cs) (length T) → (n ≡ 0 → ⊥)
      → (r : ReadManyReply) → r ≡ record { number = n; count = 0; session = x } → TakesReads s cs B x T r B T
  unfolding read_many_effect read_many
  refused_list B x n e h r i G ss o = rw (← e, ne_eqb n 0 h, i, ← o, same_record ss (s % 16)) refl

  -- they do
  pub record ListFits : Type 0 where
    pub some : 0 < length cs
    pub few : length cs ≤ 32
    pub room : length cs ≤ length T
    pub reads : (σ : Store) → read_many s cs (length T) σ ≡ reads s Done cs σ

  pub list_fits : list_refusal (length cs) (length T) ≡ 0 → ListFits
  unfolding list_refusal read_many
  list_fits e =
      test (ltb 0 (length cs) && leb (length cs) 32)
      (λ a.
      test (leb (length cs) (length T))
      (λ b.
      record {
        some = ltb-true 0 (length cs) (both_l (ltb 0 (length cs)) (leb (length cs) 32) a);
        few = leb-true (length cs) 32 (both_r (ltb 0 (length cs)) (leb (length cs) 32) a);
        room = leb-true (length cs) (length T) b;
        reads = λ σ. rw (a, b);
      })
      (λ b. absurd (let w : 13 ≡ 0 = rw (a, b) at e in omega arith)))
      (λ a. absurd (let w : 15 ≡ 0 = rw a at e in omega arith))

-- ---- the first read is refused, with all as it was

module _ (B : Buffers) (s : ℕ) (x : Session) (T : List ℕ) (r : Refusal) (p : ReadManyReply) (i : p ≡ record { number = refusal_number r; count = 0; session = x }) where
  first_refused : (c : ℕ) (cs : List ℕ) → ListFits s (c ∷ cs) T
      → ((G : Limits) (ss : Sessions) → session_at ss (s % 16) ≡ x → plan_of (Read s c) (record { lent = B; limits = G; sessions = ss }) ≡ Refuse (refusal_number r))
      → TakesReads s (c ∷ cs) B x T p B T
  unfolding read_many_effect reads step answer_of answer after
  first_refused c cs f e G ss o =
      rw (f.reads (record { lent = B; limits = G; sessions = ss }), e G ss o, ne_eqb (refusal_number r) 101 (not_read r), i, ← o, same_record ss (s % 16)) refl

  some_refused : (cs : List ℕ) → ListFits s cs T
      → ((c : ℕ) (G : Limits) (ss : Sessions) → session_at ss (s % 16) ≡ x → plan_of (Read s c) (record { lent = B; limits = G; sessions = ss }) ≡ Refuse (refusal_number r))
      → TakesReads s cs B x T p B T
  some_refused [] f e = absurd (let w = f.some in omega arith)
  some_refused (c ∷ cs) f e = first_refused c cs f (e c)

-- ---- the tests, of lent buffers of these lengths

-- past them
pub record Passed (B : Buffers) (s : ℕ) (x : Session) (cs T : List ℕ) : Type 0 where
  pub list : ListFits s cs T
  pub admitted : Admitted B s
  pub runs : 0 ≡ tested (record_fits (length B.values) (log_in B.logs s) x) (eqb x.phase 1)

module _ (B : Buffers) (s : ℕ) (x : Session) (cs T : List ℕ) (l : the.Lengths) (f : l ≡ lengths_in B) where
  abbrev listed : ℕ
  listed = list_refusal (length cs) (length T)

  abbrev admits : ℕ
  admits = admission (match_of (lengths_in B)) s

  -- of the session's record
  not_running : Admitted B s → (r : Refusal) → refusal_number r ≡ tested (record_fits (length B.values) (log_in B.logs s) x) (eqb x.phase 1)
      → (c : ℕ) (G : Limits) (ss : Sessions) → session_at ss (s % 16) ≡ x → plan_of (Read s c) (record { lent = B; limits = G; sessions = ss }) ≡ Refuse (refusal_number r)
  unfolding plan_of plan read_plan size
  not_running z r e c G ss o =
      let own : s % 16 ≡ s = let w = z.low in omega arith in
      let mine : session_at ss s ≡ x = rw own at o in
      rw (z.fit, lt-ltb s 16 z.low, mine) (sym (tests.run_refused (length B.values) (log_in B.logs s) x r e _))

  pub refused_many : (r : Refusal) → refusal_number r ≡ first_refusal x l B.logs s (length cs) (length T)
      → (p : ReadManyReply) → p ≡ record { number = refusal_number r; count = 0; session = x } → TakesReads s cs B x T p B T
  unfolding first_refusal
  refused_many r e p i =
      let w = rw f at e in
      test (eqb listed 0)
      (λ a.
      let t = list_fits s cs T (eqb-true listed 0 a) in
      some_refused B s x T r p i cs t
      (λ c G ss o.
      test (eqb admits 0)
      (λ b. not_running (admitted B s (sym (eqb-true admits 0 b))) r (rw (a, b) at w) c G ss o)
      (λ b. sym (plan_refused B s r (rw (a, b) at w) (Read s c) refl (record { lent = B; limits = G; sessions = ss }) refl refl))))
      (λ a. let n : refusal_number r ≡ listed = rw a at w in refused_list s cs T B x (refusal_number r) n (nonzero r) p i)

  pub passed : 0 ≡ first_refusal x l B.logs s (length cs) (length T) → Passed B s x cs T
  unfolding first_refusal
  passed e =
      let w = rw f at e in
      test (eqb listed 0)
      (λ a.
      test (eqb admits 0)
      (λ b. record { list = list_fits s cs T (eqb-true listed 0 a); admitted = admitted B s (sym (eqb-true admits 0 b)); runs = rw (a, b) at w })
      (λ b. absurd (eqb-false admits 0 b (sym (rw (a, b) at w)))))
      (λ a. absurd (eqb-false listed 0 a (sym (rw a at w))))

-- ---- past the tests

module _ (B : Buffers) (s : ℕ) (x : Session) (cs T : List ℕ) (p : Passed B s x cs T) where
  abbrev n : ℕ
  n = length B.values

  abbrev log : List ℕ
  log = log_in B.logs s

  abbrev z : Admitted B s
  z = p.admitted

  running : x.phase ≡ 1
  running = eqb-true x.phase 1 (tests.in_phase_1 n log x p.runs)

  fits : Fits s n (length B.locks.readers) (length B.locks.claimants) log x.count
  fits =
      let f = record_entries n log x (tests.whole n log x p.runs) (let r = running in λ w. omega arith) in
      record {
        session = z.low;
        few = z.lengths.few;
        readers = z.lengths.readers;
        claimants = z.lengths.claimants;
        words = log_length B.logs s z.low z.lengths.logs;
        count = f.count;
        cells = f.cells;
      }

  -- what the reads ask of the session's log, as a part of the logs
  pub can_read : Fits s n (length B.locks.readers) (length B.locks.claimants) (cut B.logs s) x.count × (length cs ≤ 32) × (length cs ≤ length T)
  can_read = (subst (λ (W : List ℕ). Fits s n (length B.locks.readers) (length B.locks.claimants) W x.count) (sym (cut_is B.logs s)) fits, p.list.few, p.list.room)

  abbrev o : CellsRead
  o = read_cells B.values B.locks.claimants s 0 cs T B.locks.readers log x.count

  -- of sixteen records of which x is the session's
  module _ (G : Limits) (ss : Sessions) (m : session_at ss (s % 16) ≡ x) where
    abbrev given : Store
    given = record { lent = B; limits = G; sessions = ss }

    own : s % 16 ≡ s
    own = let w = z.low in omega arith

    mine : session_at ss s ≡ x
    mine = rw own at m

    -- it is one of them, since it runs
    here : s < length ss.records
    unfolding session_at
    here =
        test (ltb s (length ss.records)) (λ a. ltb-true s _ a)
        (λ a.
        let past : session_at ss s ≡ idle = get_or-eq_default ss.records idle {n = s} (ltb-false s _ a) in
        absurd (let w : 0 ≡ 1 = sym (ap (λ (y : Session). y.phase) past) ∙ ap (λ (y : Session). y.phase) mine ∙ running in omega arith))

    start : store_with B s z G ss x.next here B.locks.readers log x.count ≡ given
    start =
        let y : x ≡ record { phase = 1; count = x.count; next = x.next } = ap (λ (p : ℕ). record { phase = p; count = x.count; next = x.next }) running in
        rw (same_log s B.logs, ← y, ← mine, same_record ss s) refl

    same : Same B s z G ss x.next here 0 cs T (reads s Done cs given) o
    same =
        subst (λ (σ : Store). Same B s z G ss x.next here 0 cs T (reads s Done cs σ) o) start
        (same_reads B s z G ss x.next here cs Done 0 T B.locks.readers log x.count fits
        (λ c. absurd (let w = p.list.some in let v : length cs ≡ 0 = ap length c in omega arith)))

    effect_is : (C : Buffers) (y : Session) → record { lent = C; limits = G; sessions = with_session ss (s % 16) y } ≡ left_by B s z G ss x.next here o
        → record { number = o.number; count = o.count; target = o.target; store = record { lent = C; limits = G; sessions = with_session ss (s % 16) y } }
        ≡ read_many_effect s cs T given
    unfolding read_many_effect
    effect_is C y v =
        let r = reads s Done cs given in
        let t : o.target ≡ r.values ++ drop (length r.values) T = sym same.target ∙ sets-eq r.values T 0 (let w = same.few in let u = p.list.room in omega arith)
        ∙ ap (λ (i : ℕ). r.values ++ drop i T) (let e : 0 + length r.values ≡ length r.values = omega arith in e) in
        let c : o.count ≡ length r.values = let w = same.count in omega arith in
        rw (p.list.reads given, v, ← same.store, ← same.last, c, t) refl

  abbrev left : Locks → Buffers
  left L = record { values = B.values; classes = B.classes; locks = L; logs = on_log s (λ log. o.log) B.logs }

  -- the session goes on, with the locks that it has joined
  goes_on_lem : eqb o.number 6 ≡ false
      → TakesReads s cs B x T (record { number = o.number; count = o.count; session = with_entries o.entries x })
      (left (locks_of o.readers B.locks.claimants B.locks.exclusives)) o.target
  goes_on_lem h G ss m =
      effect_is G ss m _ _ (rw (h, own G ss m) (ap (λ (p : ℕ). record {
        lent = left (locks_of o.readers B.locks.claimants B.locks.exclusives);
        limits = G;
        sessions = with_session ss s (record { phase = p; count = o.entries; next = x.next });
      }) running))

  -- it is rolled back
  gives_up : eqb o.number 6 ≡ true → (L : Locks) → L ≡ rolled_back o.log o.entries s (locks_of o.readers B.locks.claimants B.locks.exclusives)
      → TakesReads s cs B x T (record { number = o.number; count = o.count; session = idle }) (left L) o.target
  gives_up h L e G ss m = effect_is G ss m _ _ (rw (h, own G ss m, e) refl)

  -- ---- as the code has it: q is what the reads came to, and T', R' and W are the target, the reader sets and the session's log afterwards
  module _ (q : CellsReply) (T' R' W : List ℕ)
      (t : cells_read (number_of q.ended) q.count T' R' W q.entries ≡ read_cells B.values B.locks.claimants s 0 cs T B.locks.readers (cut B.logs s) x.count) where
    is_o : cells_read (number_of q.ended) q.count T' R' W q.entries ≡ o
    is_o = t ∙ ap (λ (l : List ℕ). read_cells B.values B.locks.claimants s 0 cs T B.locks.readers l x.count) (cut_is B.logs s)

    known : Fits s n (length R') (length B.locks.claimants) W q.entries
    known = subst (λ (r : CellsRead). Fits s n (length r.readers) (length B.locks.claimants) r.log r.entries) (sym is_o) (reads_fit B.values B.locks.claimants s 0 cs T B.locks.readers log x.count fits)

    pub few_values : q.count ≤ 32
    few_values =
        let a = ap (λ (r : CellsRead). r.count) is_o in
        let i = reads_few B.values B.locks.claimants s 0 cs T B.locks.readers log x.count in
        let f = p.list.few in
        omega arith

    pub few_entries : q.entries ≤ 32
    few_entries = known.count

    abbrev logs : List ℕ
    logs = puts B.logs s W

    logs_are : on_log s (λ log. o.log) B.logs ≡ logs
    logs_are = ap (λ (r : CellsRead). on_log s (λ log. r.log) B.logs) (sym is_o) ∙ sym (puts_is B.logs s W)

    -- so it replies the number m and the record y
    module _ (m : ℕ) (e : m ≡ number_of q.ended) (b : Bool) (w : b ≡ eqb (number_of q.ended) 6) (y : Session) where
      at_claim : eqb o.number 6 ≡ b
      at_claim = sym (ap (λ (r : CellsRead). eqb r.number 6) is_o) ∙ sym w

      pub runs_on : b ≡ false → y ≡ with_entries q.entries x
          → TakesReads s cs B x T (record { number = m; count = q.count; session = y })
          (record { values = B.values; classes = B.classes; locks = locks_of R' B.locks.claimants B.locks.exclusives; logs = logs }) T'
      runs_on h i =
          rw (e, i, ← logs_are)
          (subst (λ (r : CellsRead). TakesReads s cs B x T (record { number = r.number; count = r.count; session = with_entries r.entries x })
          (left (locks_of r.readers B.locks.claimants B.locks.exclusives)) r.target) (sym is_o) (goes_on_lem (at_claim ∙ h)))

      pub rolls_back : b ≡ true → (L : Locks) → L ≡ rolled_back W q.entries s (locks_of R' B.locks.claimants B.locks.exclusives) → y ≡ idle
          → TakesReads s cs B x T (record { number = m; count = q.count; session = y }) (record { values = B.values; classes = B.classes; locks = L; logs = logs }) T'
      rolls_back h L v i =
          rw (e, i, v, ← logs_are)
          (subst (λ (r : CellsRead). TakesReads s cs B x T (record { number = r.number; count = r.count; session = idle })
          (left (rolled_back r.log r.entries s (locks_of r.readers B.locks.claimants B.locks.exclusives))) r.target) (sym is_o) (gives_up (at_claim ∙ h) _ refl))

    -- what rolling back asks
    pub each : (length B.locks.claimants ≡ length R') × (length B.locks.exclusives ≡ length R')
    each = let r = known.readers in (z.lengths.claimants ∙ sym r, z.lengths.exclusives ∙ sym r)

    pub can_roll : Swept s W q.entries (length R')
    can_roll =
        let f = known in
        record { session = f.session; count = (let a = f.count in let b = f.words in omega arith); cells = rw f.readers f.cells }
