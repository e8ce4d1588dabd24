-- Facts about the bytes of fields: their lengths, and pieces written one behind the other.
-- Assumes nothing.
use Rattle.std.proofs.Common.{Ok, Err}
use Rattle.fields.specs.declared.WriteError.TheVariants.{Full}
use mathlib.Core.Path.{◌≡◌, refl, sym, ap, ◌∙◌}
use mathlib.Core.Bool.{Bool, true, false}
use mathlib.Core.List.{List, [], ◌∷◌, ◌++◌, append_assoc, append-nil}
use Prim.Native.Nat.{ℕ, suc, ◌+◌, ◌-◌, ◌*◌, ◌≤◌, ◌<◌}
use native.Mathlib.Omega.{arith}
use lib.Dec.{eqb}
use lib.ListN.{length, take, drop, length-append, length-drop, drop_of_length-le}
use lib.Seq.{take_at, drop_at, drop-drop, length-take-le}
use borrow.Author.Tests.{lt-ltb, le-ltb, eq-eqb, ne_eqb, leb-true, eqb-true, eqb-false}
use Rattle.fields.specs.Bytes.{be, words}
use Rattle.fields.specs.Fields.{field, over}
use Rattle.fields.proofs.Bytes.{length-be, length-words}
use Rattle.fields.proofs.Fields.{length-field}
use Rattle.rules.specs.Limits.{limits}
use Rattle.records.specs.declared.Field.{Field}
use Rattle.records.specs.Format.{is_narrow, content, bytes_of}
use Rattle.records.specs.Writing.{writing}

-- ---- a field's value

pub content-list : (l : List ℕ) (f : Field) → f.width ≡ 0 → content l f ≡ words l
content-list l f e = rw (eq-eqb f.width 0 e)

pub content-number : (l : List ℕ) (f : Field) → (f.width ≡ 0 → ⊥) → content l f ≡ be f.width f.number
content-number l f e = rw (ne_eqb f.width 0 e)

pub length-list : (l : List ℕ) (f : Field) → f.width ≡ 0 → length (content l f) ≡ 8 * length l
length-list l f e = ap length (content-list l f e) ∙ length-words l

pub length-number : (l : List ℕ) (f : Field) → (f.width ≡ 0 → ⊥) → length (content l f) ≡ f.width
length-number l f e = ap length (content-number l f e) ∙ length-be f.width f.number

-- ---- pieces written one behind the other

-- a second piece over what stands behind the first
pub behind : (a k : ℕ) (x v out : List ℕ) → length x ≡ a → length v ≡ k → a + k ≤ length out
    → take a (over x out) ++ (v ++ drop k (drop a (over x out))) ≡ over (x ++ v) out
behind a k x v out long longer room =
    let whole : length (x ++ v) ≡ a + k = omega (arith, length-append x v) in
    rw (take_at x (drop (length x) out) a long, drop_at x (drop (length x) out) a long, whole, long, drop-drop, append_assoc)

-- bytes over as many
pub over-all : (x out : List ℕ) → length x ≡ length out → over x out ≡ x
over-all x out e = rw (drop_of_length-le out {i = length x} (omega arith), append-nil)

pub length-head : (tag n : ℕ) → length (tag ∷ be 2 n) ≡ 3
length-head tag n = ap suc (length-be 2 n)

-- what stands before the end of a part that was written
pub take_part : (a e : ℕ) (x out rest : List ℕ) → a + length x ≡ e → a ≤ length out → take e (take a out ++ (x ++ rest)) ≡ take a out ++ x
take_part a e x out rest end room =
    rw (← append_assoc (take a out) x rest) (take_at (take a out ++ x) rest e (omega (arith, length-append (take a out) x, length-take-le a out room)))

pub length_over : (x out : List ℕ) → length x ≤ length out → length (over x out) ≡ length out
length_over x out h = omega (arith, length-append x (drop (length x) out), length-drop (length x) out)

-- a head that says the value's length, and the value behind it
pub field_put : (tag n : ℕ) (v out o : List ℕ) → n ≡ length v → 3 + n ≤ length out → o ≡ over (tag ∷ be 2 n) out
    → take 3 o ++ (v ++ drop n (drop 3 o)) ≡ over (field tag v) out
field_put tag n v out o e room p =
    rw p (behind 3 n (tag ∷ be 2 n) v out (length-head tag n) (sym e) room) ∙ ap (λ (k : ℕ). over (tag ∷ be 2 k ++ v) out) e

-- where the value fills the rest
pub filled : (tag : ℕ) (v out o : List ℕ) → 3 + length v ≡ length out → o ≡ over (tag ∷ be 2 (length out - 3)) out
    → take 3 o ++ (v ++ drop (length o - 3) (drop 3 o)) ≡ field tag v
filled tag v out o room p =
    let long = ap length p ∙ length_over (tag ∷ be 2 (length out - 3)) out (omega (arith, length-head tag (length out - 3))) in
    let rest : length o - 3 ≡ length out - 3 = omega arith in
    rw rest (field_put tag (length out - 3) v out o (omega arith) (omega arith) p) ∙ over-all (field tag v) out (length-field tag v ∙ room)

-- ---- fields one behind the other

module _ (l : List ℕ) where
  pub bytes_cons : (f : Field) (fs : List Field) → bytes_of (f ∷ fs) l ≡ field f.tag (content l f) ++ bytes_of fs l
  unfolding bytes_of
  bytes_cons f fs = refl

  pub bytes-none : bytes_of [] l ≡ []
  unfolding bytes_of
  bytes-none = refl

  pub length_cons : (f : Field) (fs : List Field) → length (bytes_of (f ∷ fs) l) ≡ 3 + length (content l f) + length (bytes_of fs l)
  length_cons f fs = ap length (bytes_cons f fs) ∙ length-append (field f.tag (content l f)) (bytes_of fs l) ∙ ap (λ (n : ℕ). n + length (bytes_of fs l)) (length-field f.tag (content l f))

  -- a narrow field beside a list that is not too long
  pub content-short : (f : Field) → is_narrow f ≡ true → length l ≤ limits.places → length (content l f) ≤ 8 * limits.places
  content-short f narrow h = by (eqb f.width 0) refl
    where
      by : (b : Bool) → eqb f.width 0 ≡ b → length (content l f) ≤ 8 * limits.places
      by true e = omega (arith, length-list l f (eqb-true f.width 0 e))
      by false e = omega (arith, length-number l f (eqb-false f.width 0 e), leb-true f.width 8 narrow)

-- ---- a record at the start of a buffer

pub record_full : (tag : ℕ) (v out : List ℕ) → length out < 3 + length v → writing true (field tag v) out ≡ record { answer = Err Full; buffer = out }
record_full tag v out h = rw (lt-ltb (length out) (length (field tag v)) (omega (arith, length-field tag v)))

pub record_put : (tag n : ℕ) (v out o w : List ℕ) → n ≡ length v → 3 + n ≤ length out → o ≡ over (tag ∷ be 2 n) out → w ≡ v
    → writing true (field tag v) out ≡ record { answer = Ok (3 + n); buffer = take 3 o ++ (w ++ drop (3 + n - 3) (drop 3 o)) }
record_put tag n v out o w e room p q =
    let rest : 3 + n - 3 ≡ n = omega arith in
    let long : length (field tag v) ≡ 3 + n = omega (arith, length-field tag v) in
    let put : over (field tag v) out ≡ take 3 o ++ (w ++ drop (3 + n - 3) (drop 3 o)) = rw (rest, q) (sym (field_put tag n v out o e room p)) in
    rw (le-ltb (length out) (length (field tag v)) (omega arith)) (λ i. record { answer = Ok (long i); buffer = put i })
