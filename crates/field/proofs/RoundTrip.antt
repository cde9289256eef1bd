-- Reader and writer are inverse to each other: what was written reads back (`reads_back`), and what was read is written again byte for byte
-- (`written_again`).
-- Assumes nothing.
use Prim.Native.Nat.{ℕ, zero, suc, ◌+◌, ◌-◌, ◌≤◌, ◌<◌}
use native.Mathlib.Omega.{arith}
use mathlib.Core.Path.{◌≡◌, refl, sym, ◌∙◌, ap, subst}
use mathlib.Core.Bool.{Bool, true, false, cond, not}
use mathlib.Core.List.{List, [], ◌∷◌, ◌++◌, append_assoc}
use lib.ListN.{length, take, drop, get_or, length-append}
use lib.Seq.{get_or-append_seam, drop-cons}
use lib.Dec.{leb, ltb, eqb}
use borrow.Author.Tests.{ltb-true, ltb-false, eqb-true, ne_eqb}
use Rattle.field.specs.declared.Kind.{Kind}
use Rattle.field.specs.declared.Layout.{Layout}
use Rattle.std.specs.Prelude.{Option, Some, None}
use Rattle.field.specs.declared.Call.{Call}
use Rattle.field.specs.LittleEndian.{number, number_at, bytes_of}
use Rattle.little_endian.specs.LittleEndian.{Whole}
use Rattle.field.specs.Table.{Proper, layout_of}
use Rattle.field.specs.declared.Refusal.{Refusal}
use Rattle.field.specs.declared.Refusal.TheVariants.{CutShort, UnknownTag, WrongLength}
use Rattle.field.specs.Answer.{done, short_target}
use Rattle.field.specs.Field.{field, end, refused, call_at, reading_of, reading_at, body_of, field_of, WriteReply, write_reply, writing}
use Rattle.field.specs.RoundTrip.{Bytes, Fitting, kept, carried}
use Rattle.field.proofs.Rows.{proper}
use Rattle.field.proofs.Readings.{accepted, same_field}
use Rattle.field.proofs.Writings.{length-bytes_of, small, length-field, short, written}
use Rattle.little_endian.proofs.Numbers.{all_of}
use Rattle.field.proofs.Inverse.{limit, back, there, runs}

-- ---- what was written reads back

-- A number that was put after `pre` is read there, and as 0 where it takes no bytes.
carried_at : (all : ℕ) (bytes pre post : List ℕ) (i w x : ℕ) → Whole all w → x < limit all → bytes ≡ pre ++ (bytes_of w x ++ post) → length pre ≡ i
    → number_at bytes i w ≡ kept w x
unfolding number_at number
carried_at all bytes pre post i zero x whole h e n = refl
carried_at all bytes pre post i (suc w) x whole h e n =
    let same : suc w ≡ all = all_of all (suc w) whole (λ z. omega arith) in
    there bytes pre post i (suc w) x e n (subst (λ (k : ℕ). x < limit k) (sym same) h) ∙ simp (ne_eqb (suc w) 0 (λ z. omega arith))

length-around : (c : Call) (l : Layout) (before after : List ℕ) → Proper l → length (before ++ (field_of l c ++ after)) ≡ length before + (3 + l.length + length after)
length-around c l before after p = simp (length-append, length-field l c p)

-- A field and what follows it, number by number.
shape : (c : Call) (l : Layout) (after : List ℕ)
    → field_of l c ++ after
    ≡ c.tag ∷ (bytes_of 2 l.length ++ (bytes_of l.session c.session ++ (bytes_of l.class c.class ++ (bytes_of l.cell c.cell ++ (bytes_of l.value c.value ++ after)))))
unfolding field_of body_of
shape c l after =
    ap (λ (r : List ℕ). c.tag ∷ r) (append_assoc (bytes_of 2 l.length) (body_of l c) after ∙ ap (λ (r : List ℕ). bytes_of 2 l.length ++ r) (simp append_assoc))

-- A field that stands anywhere among bytes is read there, with the numbers that the tag does not carry as 0.
pub read_anywhere : (c : Call) (l : Layout) (before after : List ℕ) → Fitting c → layout_of c.tag ≡ Some l
    → reading_at (before ++ (field_of l c ++ after)) (length before) ≡ field l.kind (carried l c) (3 + l.length)
unfolding call_at carried
read_anywhere c l before after fits known =
    let p : Proper l = proper c.tag l known in
    let file : List ℕ = before ++ (field_of l c ++ after) in
    let at : ℕ = length before in
    let n : List ℕ = bytes_of 2 l.length in
    let s : List ℕ = bytes_of l.session c.session in
    let k : List ℕ = bytes_of l.class c.class in
    let e : List ℕ = bytes_of l.cell c.cell in
    let v : List ℕ = bytes_of l.value c.value in
    let from-v : List ℕ = v ++ after in
    let from-e : List ℕ = e ++ from-v in
    let from-k : List ℕ = k ++ from-e in
    let from-s : List ℕ = s ++ from-k in
    let to-n : List ℕ = before ++ (c.tag ∷ []) in
    let to-s : List ℕ = before ++ (c.tag ∷ n) in
    let to-k : List ℕ = to-s ++ s in
    let to-e : List ℕ = to-k ++ k in
    let to-v : List ℕ = to-e ++ e in
    let parts : file ≡ before ++ (c.tag ∷ (n ++ from-s)) = ap (λ (r : List ℕ). before ++ r) (shape c l after) in
    let at_n : file ≡ to-n ++ (n ++ from-s) = parts ∙ sym (append_assoc before (c.tag ∷ []) (n ++ from-s)) in
    let at-s : file ≡ to-s ++ from-s = parts ∙ sym (append_assoc before (c.tag ∷ n) from-s) in
    let at-k : file ≡ to-k ++ from-k = at-s ∙ sym (append_assoc to-s s from-k) in
    let at-e : file ≡ to-e ++ from-e = at-k ∙ sym (append_assoc to-k k from-e) in
    let at-v : file ≡ to-v ++ from-v = at-e ∙ sym (append_assoc to-e e from-v) in
    let n-long : length to-n ≡ at + 1 = length-append before (c.tag ∷ []) in
    let s-long : length to-s ≡ at + 3 = length-append before (c.tag ∷ n) ∙ ap (λ (j : ℕ). at + suc j) (length-bytes_of 2 l.length) in
    let k-long : length to-k ≡ at + 3 + l.session = omega (arith, s-long, length-append to-s s, length-bytes_of l.session c.session) in
    let e-long : length to-e ≡ at + 3 + l.session + l.class = omega (arith, k-long, length-append to-k k, length-bytes_of l.class c.class) in
    let v-long : length to-v ≡ at + 3 + l.session + l.class + l.cell = omega (arith, e-long, length-append to-e e, length-bytes_of l.cell c.cell) in
    let tag : get_or file at 0 ≡ c.tag = ap (λ (b : List ℕ). get_or b at 0) parts ∙ get_or-append_seam before c.tag (n ++ from-s) 0 in
    let own : number_at file (at + 1) 2 ≡ l.length = there file to-n from-s (at + 1) 2 l.length at_n n-long (omega (arith, small l p)) in
    let s-at = carried_at 1 file to-s from-k (at + 3) _ _ p.session fits.session at-s s-long in
    let k-at = carried_at 1 file to-k from-e (at + 3 + l.session) _ _ p.class fits.class at-k k-long in
    let e-at = carried_at 2 file to-e from-v (at + 3 + l.session + l.class) _ _ p.cell fits.cell at-e e-long in
    let v-at = carried_at 4 file to-v after (at + 3 + l.session + l.class + l.cell) _ _ p.value fits.value at-v v-long in
    let long = length-around c l before after p in
    sym (accepted file at l (omega (arith, long)) (omega (arith, long)) (ap layout_of tag ∙ known) own (omega (arith, long)))
    ∙ rw (tag, s-at, k-at, e-at, v-at)

-- A test, with what it came to.
test {ℓ} : {P : Type ℓ} (b : Bool) → (b ≡ true → P) → (b ≡ false → P) → P
test true f g = f refl
test false f g = g refl

-- What the writer put into a target is read from it as the same call, with the numbers that the tag does not carry as 0 and the length that
-- the writer answered, whatever stands after it.
pub reads_back : (target : List ℕ) (c : Call) (l : Layout) → Fitting c → layout_of c.tag ≡ Some l → (writing target c).number ≡ done
    → reading_at (writing target c).target 0 ≡ field l.kind (carried l c) (writing target c).length
reads_back target c l fits known h =
    test (ltb (length target) (3 + l.length))
    (λ over. absurd (let e : short_target ≡ done = ap (λ (w : WriteReply). w.number) (short target c l known (ltb-true _ _ over)) ∙ h in omega arith))
    (λ room. rw (← written target c l known (ltb-false _ _ room)) (read_anywhere c l [] (drop (3 + l.length) target) fits known))

-- ---- what was read is written again

-- What the reader found where it gave a field.
pub record Found (bytes : List ℕ) (place : ℕ) (k : Kind) (c : Call) (n : ℕ) : Type 0 where
  pub layout : Layout
  pub known : layout_of (get_or bytes place 0) ≡ Some layout
  pub own : number_at bytes (place + 1) 2 ≡ layout.length
  pub inside : place + (3 + layout.length) ≤ length bytes
  pub kind : k ≡ layout.kind
  pub read : c ≡ call_at bytes (place + 3) (get_or bytes place 0) layout
  pub long : n ≡ 3 + layout.length

module _ (bytes : List ℕ) (place : ℕ) (k : Kind) (c : Call) (n : ℕ) where
  end_is_none : end ≡ field k c n → Found bytes place k c n
  end_is_none e = absurd cc

  refused_is_none : (r : Refusal) → refused r place ≡ field k c n → Found bytes place k c n
  refused_is_none r e = absurd cc

  in_body : (l : Layout) (b d : Bool) → layout_of (get_or bytes place 0) ≡ Some l → eqb (number_at bytes (place + 1) 2) l.length ≡ b → ltb (length bytes - place) (3 + l.length) ≡ d
      → cond (not b) (refused WrongLength place) (cond d (refused CutShort place) (field l.kind (call_at bytes (place + 3) (get_or bytes place 0) l) (3 + l.length))) ≡ field k c n
      → Found bytes place k c n
  in_body l true false known e f h =
      let same = same_field h in
      record {
        layout = l;
        known = known;
        own = eqb-true _ _ e;
        inside = omega (arith, ltb-false (length bytes - place) (3 + l.length) f);
        kind = sym same.0;
        read = sym same.1;
        long = sym same.2;
      }
  in_body l true true known e f h = refused_is_none CutShort h
  in_body l false d known e f h = refused_is_none WrongLength h

  in_field : (t : Option Layout) → layout_of (get_or bytes place 0) ≡ t → reading_of t bytes place ≡ field k c n → Found bytes place k c n
  unfolding reading_of
  in_field None known h = refused_is_none UnknownTag h
  in_field (Some l) known h = in_body l _ _ known refl refl h

  in_head : (b d : Bool) → cond b end (cond d (refused CutShort place) (reading_of (layout_of (get_or bytes place 0)) bytes place)) ≡ field k c n → Found bytes place k c n
  in_head true d h = end_is_none h
  in_head false true h = refused_is_none CutShort h
  in_head false false h = in_field _ refl h

  pub found : reading_at bytes place ≡ field k c n → Found bytes place k c n
  unfolding reading_at
  found h = in_head (leb (length bytes) place) (ltb (length bytes - place) 3) h

-- The body, and the field, of what was read are the bytes that were read.
same_body : (bytes : List ℕ) (i t : ℕ) (l : Layout) → Bytes bytes → Proper l → i + l.length ≤ length bytes
    → body_of l (call_at bytes i t l) ≡ take l.length (drop i bytes)
unfolding body_of call_at
same_body bytes i t l ok p inside =
    let sum = p.length in
    let in-s : i + l.session ≤ length bytes = omega arith in
    let in-k : i + l.session + l.class ≤ length bytes = omega arith in
    let in_e : i + l.session + l.class + l.cell ≤ length bytes = omega arith in
    let in-v : i + l.session + l.class + l.cell + l.value ≤ length bytes = omega arith in
    let to-e : i + l.session + l.class ≡ i + (l.session + l.class) = omega arith in
    let to-v : i + l.session + l.class + l.cell ≡ i + (l.session + l.class + l.cell) = omega arith in
    rw (
      back bytes i l.session ok in-s,
      back bytes (i + l.session) l.class ok in-k,
      back bytes (i + l.session + l.class) l.cell ok in_e,
      back bytes (i + l.session + l.class + l.cell) l.value ok in-v,
      runs bytes i (i + l.session) l.session l.class refl,
      runs bytes i (i + l.session + l.class) (l.session + l.class) l.cell to-e,
      runs bytes i (i + l.session + l.class + l.cell) (l.session + l.class + l.cell) l.value to-v,
    )
    (ap (λ (n : ℕ). take n (drop i bytes)) (sym sum))

pub same_bytes : (bytes : List ℕ) (place : ℕ) (l : Layout) → Bytes bytes → Proper l → number_at bytes (place + 1) 2 ≡ l.length → place + (3 + l.length) ≤ length bytes
    → field_of l (call_at bytes (place + 3) (get_or bytes place 0) l) ≡ take (3 + l.length) (drop place bytes)
unfolding field_of call_at
same_bytes bytes place l ok p own inside =
    let t : ℕ = get_or bytes place 0 in
    let in_head : place < length bytes = omega arith in
    let in-own : place + 1 + 2 ≤ length bytes = omega arith in
    let in_body : place + 3 + l.length ≤ length bytes = omega arith in
    let b-tag : t ∷ [] ≡ take 1 (drop place bytes) = rw (drop-cons bytes place 0 in_head) in
    let b-own : bytes_of 2 l.length ≡ take 2 (drop (place + 1) bytes) = ap (bytes_of 2) (sym own) ∙ back bytes (place + 1) 2 ok in-own in
    let b-head : t ∷ bytes_of 2 l.length ≡ take 3 (drop place bytes) =
    ap (λ (r : List ℕ). t ∷ r) b-own ∙ ap (λ (r : List ℕ). r ++ take 2 (drop (place + 1) bytes)) b-tag ∙ runs bytes place (place + 1) 1 2 refl in
    ap (λ (r : List ℕ). r ++ body_of l (call_at bytes (place + 3) t l)) b-head
    ∙ ap (λ (r : List ℕ). take 3 (drop place bytes) ++ r) (same_body bytes (place + 3) t l ok p in_body)
    ∙ runs bytes place (place + 3) 3 l.length refl

-- Every field that is read is byte for byte what the writer gives for the call that was read: in any target that is long enough it writes
-- the bytes from the place on, as many as the reader said.
pub written_again : (bytes : List ℕ) (place : ℕ) (k : Kind) (c : Call) (n : ℕ) → Bytes bytes → reading_at bytes place ≡ field k c n
    → (target : List ℕ) → n ≤ length target → writing target c ≡ write_reply done n (take n (drop place bytes) ++ drop n target)
unfolding call_at
written_again bytes place k c n ok h target room =
    let f = found bytes place k c n h in
    let l : Layout = f.layout in
    let t : ℕ = get_or bytes place 0 in
    let p : Proper l = proper t l f.known in
    let again = written target (call_at bytes (place + 3) t l) l f.known (omega (arith, f.long)) in
    ap (writing target) f.read
    ∙ sym again
    ∙ ap (λ (b : List ℕ). write_reply done (3 + l.length) (b ++ drop (3 + l.length) target)) (same_bytes bytes place l ok p f.own f.inside)
    ∙ ap (λ (m : ℕ). write_reply done m (take m (drop place bytes) ++ drop m target)) (sym f.long)
