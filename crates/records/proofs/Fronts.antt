-- Facts about what stands at the front of bytes: a whole record, and the field that a walk comes to.
-- Assumes nothing.
use Rattle.std.proofs.Common.{Option, Some, None, IfSome}
use mathlib.Core.Path.{◌≡◌, refl, ◌∙◌, subst}
use mathlib.Core.Bool.{Bool, true, false, cond, ◌&&◌}
use mathlib.Core.List.{List, ◌∷◌}
use Prim.Native.Nat.{ℕ, ◌+◌, ◌-◌, ◌/◌, ◌%◌, ◌≤◌}
use native.Mathlib.Omega.{arith}
use lib.Dec.{leb, eqb}
use lib.ListN.{length, take, drop}
use borrow.Author.Tests.{le-leb, eq-eqb, ne_eqb, leb-true, leb-false, eqb-true, eqb-false}
use Rattle.fields.specs.declared.Next.{Next}
use Rattle.fields.specs.declared.Next.TheVariants.{End, Torn, Record}
use Rattle.fields.specs.Bytes.{value_of, kept64, words_of}
use Rattle.fields.specs.Fields.{claimed, head_of, next_of}
use Rattle.fields.proofs.Fields.{next_end, next-torn, next-whole, head_read}
use Rattle.rules.proofs.Lists.{and_left, and_right, and_both, bool_ext}
use Rattle.records.specs.declared.Field.{Field}
use Rattle.records.specs.declared.Held.{Held}
use Rattle.records.specs.Walk.{Walked, Found, Broken, list_then, number_then, head_then, walk}
use Rattle.records.specs.Found.{is_whole, present, held_as, held}

-- ---- a whole record

-- what the reader of a trace says of bytes of that length that are one record
abbrev pub whole_next : ℕ → Next → Bool
whole_next len End = false
whole_next len Torn = false
whole_next len (Record n) = eqb n len

sum_test : (k n : ℕ) → (leb 3 n && eqb k (n - 3)) ≡ eqb (3 + k) n
sum_test k n = bool_ext (leb 3 n && eqb k (n - 3)) (eqb (3 + k) n) there back
  where
    there : (leb 3 n && eqb k (n - 3)) ≡ true → eqb (3 + k) n ≡ true
    there e = eq-eqb (3 + k) n (omega (arith, leb-true 3 n (and_left (leb 3 n) (eqb k (n - 3)) e), eqb-true k (n - 3) (and_right (leb 3 n) (eqb k (n - 3)) e)))

    back : eqb (3 + k) n ≡ true → (leb 3 n && eqb k (n - 3)) ≡ true
    back e = and_both (leb 3 n) (eqb k (n - 3)) (le-leb 3 n (omega (arith, eqb-true (3 + k) n e))) (eq-eqb k (n - 3) (omega (arith, eqb-true (3 + k) n e)))

pub whole_next_lem : (bs : List ℕ) → is_whole bs ≡ whole_next (length bs) (next_of bs)
whole_next_lem bs = sum_test (claimed bs) (length bs) ∙ by (leb (3 + claimed bs) (length bs)) (eqb (length bs) 0) refl refl
  where
    by : (fits empty : Bool) → leb (3 + claimed bs) (length bs) ≡ fits → eqb (length bs) 0 ≡ empty → eqb (3 + claimed bs) (length bs) ≡ whole_next (length bs) (next_of bs)
    by true empty e z = rw (next-whole bs (leb-true (3 + claimed bs) (length bs) e))
    by false true e z = rw (next_end bs (eqb-true (length bs) 0 z)) (ne_eqb (3 + claimed bs) (length bs) (omega (arith, eqb-true (length bs) 0 z)))
    by false false e z =
        let short = leb-false (3 + claimed bs) (length bs) e in
        rw (next-torn bs (omega (arith, eqb-false (length bs) 0 z)) short) (ne_eqb (3 + claimed bs) (length bs) (omega arith))

-- ---- the field that a walk comes to

-- a number, and then what was found behind it; a list stands before one that was found behind it
unfoldable pub push : Bool → ℕ → List ℕ → Walked → Walked
push list n l Broken = Broken
push list n l (Found v rest) = Found (n ∷ v) (cond list l rest)

push-list : (l : List ℕ) (w : Walked) → list_then l w ≡ push true 0 l w
unfolding push
push-list l Broken = refl
push-list l (Found v rest) = refl

push-number : (n : ℕ) (l : List ℕ) (w : Walked) → number_then n w ≡ push false n l w
unfolding push
push-number n l Broken = refl
push-number n l (Found v rest) = refl

module _ (f : Field) (s : List ℕ) where
  abbrev held_by : Bool → Bool → Bool → ℕ → Option Held
  held_by list even same n = cond list (cond even (present n 0) None) (cond same (present n (kept64 (value_of (take n (drop 3 s))))) None)

  -- all of it is there
  abbrev HasRoom : Option Held → Type 0
  HasRoom o = IfSome o (λ h. 3 + h.len ≤ length s)

  room_by : (list even same : Bool) (n : ℕ) → 3 + n ≤ length s → HasRoom (held_by list even same n)
  room_by true true same n h = h
  room_by true false same n h = tt
  room_by false even true n h = h
  room_by false even false n h = tt

  pub held-room : (h : Held) → held f s ≡ Some h → 3 + h.len ≤ length s
  unfolding held
  held-room h e = subst HasRoom e (by (head_of f.tag s) refl)
    where
      by : (d : Option ℕ) → head_of f.tag s ≡ d → HasRoom (held_as f s d)
      by None e = tt
      by (Some n) e = room_by (eqb f.width 0) (eqb (n % 8) 0) (eqb n f.width) n (head_read f.tag n s e).2

  module _ (fs : List Field) where
    abbrev pub after : Bool → Option Held → Walked
    after list None = Broken
    after list (Some h) = push list h.number (words_of (h.len / 8) (drop 3 s)) (walk fs (drop (3 + h.len) s))

    after-by : (list even same : Bool) (n : ℕ)
        → cond list (cond even (list_then (words_of (n / 8) (drop 3 s)) (walk fs (drop (3 + n) s))) Broken)
        (cond same (number_then (kept64 (value_of (take n (drop 3 s)))) (walk fs (drop (3 + n) s))) Broken)
        ≡ after list (held_by list even same n)
    after-by true true same n = push-list _ _
    after-by true false same n = refl
    after-by false even true n = push-number _ _ _
    after-by false even false n = refl

    pub walk-held : walk (f ∷ fs) s ≡ after (eqb f.width 0) (held f s)
    unfolding walk held
    walk-held = by (head_of f.tag s) refl
      where
        by : (d : Option ℕ) → head_of f.tag s ≡ d → head_then f s d (walk fs (drop (3 + claimed s) s)) ≡ after (eqb f.width 0) (held_as f s d)
        by None e = refl
        by (Some n) e = rw (head_read f.tag n s e).1 (after-by (eqb f.width 0) (eqb (n % 8) 0) (eqb n f.width) n)
