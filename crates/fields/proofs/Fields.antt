-- Facts about fields: what a reader of one answers, and that a field at the front of bytes is read as it was written.
-- Assumes nothing.
use mathlib.Core.Path.{◌≡◌, refl, ap, ◌∙◌}
use Rattle.std.proofs.Common.{Some, None}
use mathlib.Core.Bool.{Bool, true, false, cond, ◌&&◌, and-false, and-eq-true_iff}
use mathlib.Core.List.{List, [], ◌∷◌, ◌++◌, append_assoc}
use Prim.Native.Nat.{ℕ, suc, ◌+◌, ◌-◌, ◌≤◌, ◌<◌}
use native.Mathlib.Omega.{arith}
use lib.Dec.{leb, eqb, ltb}
use lib.ListN.{length, get_or, set, take, drop, length-append, length-drop}
use lib.Seq.{take_at, take-add, length-take-le}
use borrow.Author.Tests.{lt-ltb, le-ltb, le-leb, lt-leb, eq-eqb, ne_eqb, leb-true, eqb-true}
use Rattle.fields.specs.declared.Next.TheVariants.{End, Torn, Record}
use borrow.Rule.Slice.PartMut.{put_mid}
use Rattle.fields.specs.Bytes.{be}
use Rattle.fields.specs.Fields.{field, claimed, head_of, over, next_of}
use Rattle.fields.proofs.Bytes.{Below, below-take, length-be, value-be-fits, be-value}

-- ---- the reader's cases

pub head-short : (tag : ℕ) (bs : List ℕ) → length bs < 3 → head_of tag bs ≡ None
unfolding head_of
head-short tag bs h = rw (lt-leb 3 (length bs) h)

pub head-other : (tag : ℕ) (bs : List ℕ) → (get_or bs 0 0 ≡ tag → ⊥) → head_of tag bs ≡ None
unfolding head_of
head-other tag bs h = rw (ne_eqb (get_or bs 0 0) tag h, and-false (leb 3 (length bs)))

pub head-torn : (tag : ℕ) (bs : List ℕ) → length bs - 3 < claimed bs → head_of tag bs ≡ None
unfolding head_of
head-torn tag bs h = rw (lt-leb (claimed bs) (length bs - 3) h, and-false (eqb (get_or bs 0 0) tag), and-false (leb 3 (length bs)))

pub head-holds : (tag : ℕ) (bs : List ℕ) → get_or bs 0 0 ≡ tag → 3 + claimed bs ≤ length bs → head_of tag bs ≡ Some (claimed bs)
unfolding head_of
head-holds tag bs same room = rw (le-leb 3 (length bs) (omega arith), eq-eqb (get_or bs 0 0) tag same, le-leb (claimed bs) (length bs - 3) (omega arith))

pub next_end : (bs : List ℕ) → length bs ≡ 0 → next_of bs ≡ End
unfolding next_of
next_end bs h = rw (eq-eqb (length bs) 0 h)

-- a record of which bytes are missing is torn, whichever they are
pub next-torn : (bs : List ℕ) → 0 < length bs → length bs < 3 + claimed bs → next_of bs ≡ Torn
unfolding next_of
next-torn bs some h = rw (ne_eqb (length bs) 0 (omega arith), lt-ltb (length bs) (3 + claimed bs) h) (either (ltb (length bs) 3))
  where
    either : (b : Bool) → cond b Torn Torn ≡ Torn
    either true = refl
    either false = refl

pub next-whole : (bs : List ℕ) → 3 + claimed bs ≤ length bs → next_of bs ≡ Record (3 + claimed bs)
unfolding next_of
next-whole bs h = rw (ne_eqb (length bs) 0 (omega arith), le-ltb (length bs) 3 (omega arith), le-ltb (length bs) (3 + claimed bs) h)

-- ---- reading undoes writing

pub length-field : (tag : ℕ) (v : List ℕ) → length (field tag v) ≡ 3 + length v
length-field tag v = omega (arith, length-append (be 2 (length v)) v, length-be 2 (length v))

module _ (tag : ℕ) (v rest : List ℕ) (short : length v < 65536) where
  pub claimed-field : claimed (field tag v ++ rest) ≡ length v
  claimed-field = rw (append_assoc, take_at (be 2 (length v)) (v ++ rest) 2 (length-be 2 (length v))) (value-be-fits 2 (length v) short)

  whole : 3 + claimed (field tag v ++ rest) ≤ length (field tag v ++ rest)
  whole = rw claimed-field (omega (arith, length-append (field tag v) rest, length-field tag v))

  pub head-field : head_of tag (field tag v ++ rest) ≡ Some (length v)
  head-field = head-holds tag (field tag v ++ rest) refl whole ∙ ap Some claimed-field

  pub next_field : next_of (field tag v ++ rest) ≡ Record (3 + length v)
  next_field = next-whole (field tag v ++ rest) whole ∙ ap (λ (n : ℕ). Record (3 + n)) claimed-field

-- ---- and writing undoes reading

-- the test that a head was read behind held
held : (t : Bool) (m n : ℕ) → cond t (Some m) None ≡ Some n → (t ≡ true) × (m ≡ n)
held true m n h = (refl, (cc))
held false m n h = ((cc), (cc))

-- so its tag is there, and as many bytes as it claims
pub head_read : (tag n : ℕ) (bs : List ℕ) → head_of tag bs ≡ Some n → (get_or bs 0 0 ≡ tag) × (claimed bs ≡ n) × (3 + n ≤ length bs)
unfolding head_of
head_read tag n bs h =
    let here = leb 3 (length bs) in
    let same = eqb (get_or bs 0 0) tag in
    let whole = leb (claimed bs) (length bs - 3) in
    let r = held (here && (same && whole)) (claimed bs) n h in
    let t = (and-eq-true_iff here (same && whole)).0 r.0 in
    let u = (and-eq-true_iff same whole).0 t.1 in
    (eqb-true (get_or bs 0 0) tag u.0, r.1, omega (arith, leb-true 3 (length bs) t.0, leb-true (claimed bs) (length bs - 3) u.1, r.1))

-- the bytes at the front are those of the field that was read
pub field-head : (tag n : ℕ) (bs : List ℕ) → Below 256 bs → head_of tag bs ≡ Some n → take (3 + n) bs ≡ field tag (take n (drop 3 bs))
field-head tag n [] h read = absurd (omega (arith, head_read tag n [] read))
field-head tag n (b ∷ bs) h read =
    let r = head_read tag n (b ∷ bs) read in
    let front : be 2 n ≡ take 2 bs = rw (length-take-le 2 bs (omega arith), r.1) at (be-value (take 2 bs) (below-take 256 2 bs (λ i. h (suc i)))) in
    rw (take-add 3 n (b ∷ bs), length-take-le n (drop 2 bs) (omega (arith, length-drop 2 bs)), r.0, front)

-- ---- a head laid over what stands there

pub over-head : (tag n : ℕ) (out m : List ℕ) → 3 ≤ length out → m ≡ be 2 n → put_mid 1 2 (set out 0 tag) m ≡ over (tag ∷ be 2 n) out
over-head tag n [] m h e = absurd (omega arith)
over-head tag n (a ∷ []) m h e = absurd (omega arith)
over-head tag n (a ∷ b ∷ []) m h e = absurd (omega arith)
over-head tag n (a ∷ b ∷ c ∷ out) m h e = rw (e, length-be 2 n)
