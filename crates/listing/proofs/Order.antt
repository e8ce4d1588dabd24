-- What is written of names has their order: digits of equal length are ordered as their numbers, and `manifest/` stands below `wal/`.
-- Assumes nothing.
use mathlib.Core.Path.{◌≡◌, refl, sym, ◌∙◌}
use mathlib.Core.Bool.{Bool, true, false, not, ◌&&◌, ◌||◌, and-true, and-false, and_assoc, or-false}
use mathlib.Core.List.{List, [], ◌∷◌, ◌++◌}
use Prim.Native.Nat.{ℕ, zero, suc, ◌+◌, ◌^◌, ◌/◌, ◌%◌, ◌<◌}
use native.Mathlib.Nat.{pow-suc, div-lt_iff_lt-mul}
use native.Mathlib.Omega.{arith}
use lib.Dec.{eqb, leb, ltb, lit<}
use lib.ListN.{length}
use borrow.Author.Tests.{lt-ltb, le-ltb, ltb-true, ltb-false, leb-true, eq-eqb, ne_eqb, eqb-true, eqb-false}
use Rattle.std.specs.Prelude.{bytes_eq}
use Rattle.rules.proofs.Lists.{and_right}
use Rattle.store_names.specs.declared.Name.{Name}
use Rattle.store_names.specs.declared.Name.TheVariants.{Manifest, Object}
use Rattle.store_names.specs.Decimal.{largest, digits}
use Rattle.store_names.specs.Names.{name_digits, manifest_suffix, object_suffix, encode, is_taken}
use Rattle.store_names.proofs.Digits.{length_digits}
use Rattle.listing.specs.Lines.{below}
use Rattle.listing.specs.Whole.{is_before}

-- ---- bytes in two parts, of which the first are equally long

parts : (p q r u v : Bool) → (p || (q && (r || (u && v)))) ≡ ((p || (q && r)) || ((q && u) && v))
parts true q r u v = refl
parts false true r u v = refl
parts false false r u v = refl

-- the order is that of the first part, or the first is the same and it is that of the second
below_parts : (x y s t : List ℕ) → length x ≡ length y → below (x ++ s) (y ++ t) ≡ (below x y || (bytes_eq x y && below s t))
unfolding below
below_parts [] [] s t long = refl
below_parts [] (b ∷ y) s t long = absurd (omega arith)
below_parts (a ∷ x) [] s t long = absurd (omega arith)
below_parts (a ∷ x) (b ∷ y) s t long = rw (below_parts x y s t (omega arith)) (parts (ltb a b) (eqb a b) (below x y) (bytes_eq x y) (below s t))

same_parts : (x y s t : List ℕ) → length x ≡ length y → bytes_eq (x ++ s) (y ++ t) ≡ (bytes_eq x y && bytes_eq s t)
same_parts [] [] s t long = refl
same_parts [] (b ∷ y) s t long = absurd (omega arith)
same_parts (a ∷ x) [] s t long = absurd (omega arith)
same_parts (a ∷ x) (b ∷ y) s t long = rw (same_parts x y s t (omega arith)) (sym (and_assoc (eqb a b) (bytes_eq x y) (bytes_eq s t)))

-- ---- a number is its tens and its last digit

tens_below : (m n : ℕ) → (ltb (m / 10) (n / 10) || (eqb (m / 10) (n / 10) && ltb (48 + m % 10) (48 + n % 10))) ≡ ltb m n
tens_below m n = by (ltb (m / 10) (n / 10)) refl (eqb (m / 10) (n / 10)) refl (ltb (48 + m % 10) (48 + n % 10)) refl
  where
    by : (a : Bool) → ltb (m / 10) (n / 10) ≡ a → (b : Bool) → eqb (m / 10) (n / 10) ≡ b → (c : Bool) → ltb (48 + m % 10) (48 + n % 10) ≡ c → (a || (b && c)) ≡ ltb m n
    by true h b i c j = rw (lt-ltb m n (omega (arith, ltb-true (m / 10) (n / 10) h)))
    by false h true i true j = rw (lt-ltb m n (omega (arith, eqb-true (m / 10) (n / 10) i, ltb-true (48 + m % 10) (48 + n % 10) j)))
    by false h true i false j = rw (le-ltb m n (omega (arith, eqb-true (m / 10) (n / 10) i, ltb-false (48 + m % 10) (48 + n % 10) j)))
    by false h false i c j = rw (le-ltb m n (omega (arith, ltb-false (m / 10) (n / 10) h, eqb-false (m / 10) (n / 10) i)))

tens_same : (m n : ℕ) → (eqb (m / 10) (n / 10) && eqb (48 + m % 10) (48 + n % 10)) ≡ eqb m n
tens_same m n = by (eqb (m / 10) (n / 10)) refl (eqb (48 + m % 10) (48 + n % 10)) refl
  where
    by : (a : Bool) → eqb (m / 10) (n / 10) ≡ a → (b : Bool) → eqb (48 + m % 10) (48 + n % 10) ≡ b → (a && b) ≡ eqb m n
    by true h true i = rw (eq-eqb m n (omega (arith, eqb-true (m / 10) (n / 10) h, eqb-true (48 + m % 10) (48 + n % 10) i)))
    by true h false i = rw (ne_eqb m n (omega (arith, eqb-false (48 + m % 10) (48 + n % 10) i)))
    by false h b i = rw (ne_eqb m n (omega (arith, eqb-false (m / 10) (n / 10) h)))

-- ---- the digits of two numbers, as many of each

same_long : (k m n : ℕ) → length (digits k m) ≡ length (digits k n)
same_long k m n = length_digits k m ∙ sym (length_digits k n)

tenth : (k n : ℕ) → n < 10 ^ suc k → n / 10 < 10 ^ k
tenth k n h = (div-lt_iff_lt-mul (lit< tt)).1 (rw pow-suc at h)

-- they are the same where the numbers are
digits_same : (k m n : ℕ) → m < 10 ^ k → n < 10 ^ k → bytes_eq (digits k m) (digits k n) ≡ eqb m n
unfolding digits
digits_same zero m n h i = sym (eq-eqb m n (omega arith))
digits_same (suc k) m n h i =
    rw (
      same_parts (digits k (m / 10)) (digits k (n / 10)) ((48 + m % 10) ∷ []) ((48 + n % 10) ∷ []) (same_long k (m / 10) (n / 10)),
      digits_same k (m / 10) (n / 10) (tenth k m h) (tenth k n i),
      and-true (eqb (48 + m % 10) (48 + n % 10)),
    ) (tens_same m n)

-- and below where the number is below
digits-below : (k m n : ℕ) → m < 10 ^ k → n < 10 ^ k → below (digits k m) (digits k n) ≡ ltb m n
unfolding digits below
digits-below zero m n h i = sym (le-ltb m n (omega arith))
digits-below (suc k) m n h i =
    rw (
      below_parts (digits k (m / 10)) (digits k (n / 10)) ((48 + m % 10) ∷ []) ((48 + n % 10) ∷ []) (same_long k (m / 10) (n / 10)),
      digits-below k (m / 10) (n / 10) (tenth k m h) (tenth k n i),
      digits_same k (m / 10) (n / 10) (tenth k m h) (tenth k n i),
      and-false (eqb (48 + m % 10) (48 + n % 10)),
      or-false (ltb (48 + m % 10) (48 + n % 10)),
    ) (tens_below m n)

-- with one suffix behind both
suffixed_below : (k m n : ℕ) (suffix : List ℕ) → m < 10 ^ k → n < 10 ^ k → below suffix suffix ≡ false → below (digits k m ++ suffix) (digits k n ++ suffix) ≡ ltb m n
suffixed_below k m n suffix h i same =
    rw (below_parts (digits k m) (digits k n) suffix suffix (same_long k m n), digits-below k m n h i, same, and-false (bytes_eq (digits k m) (digits k n))) (or-false (ltb m n))

-- ---- names

small : (n : ℕ) → leb n largest ≡ true → n < 10 ^ name_digits
small n t = omega (arith, leb-true n largest t)

-- the folders' bytes are compared by computing: 109 is below 119
pub order : (v w : Name) → is_taken v ≡ true → is_taken w ≡ true → below (encode v) (encode w) ≡ is_before v w
unfolding below
order (Manifest m) (Manifest n) t u = suffixed_below name_digits m n manifest_suffix (small m t) (small n u) refl
order (Manifest m) (Object n) t u = refl
order (Object m) (Manifest n) t u = refl
order (Object m) (Object n) t u =
    suffixed_below name_digits m n object_suffix (small m (and_right (not (eqb m 0)) (leb m largest) t)) (small n (and_right (not (eqb n 0)) (leb n largest) u)) refl
