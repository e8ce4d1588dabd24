-- Laws of tests on lists: filtering, searching, and looking up by a key.
-- Assumes nothing.
use mathlib.Core.Path.{◌≡◌, refl, sym, ap, ◌∙◌}
use mathlib.Core.Logic.{◌⊎◌, inl, inr}
use mathlib.Core.Bool.{Bool, true, false, cond, ◌&&◌, ◌||◌, true≢false, false≢true}
use mathlib.Core.List.Memᴰ
use mathlib.Core.List.{List, [], ◌∷◌}
use Prim.Native.Nat.{ℕ}
use lib.Dec.{eqb}
use borrow.Author.Tests.{eqb-true, eqb-false}
use Rattle.rules.specs.Lists.{◌∈◌, all, any, conj, keep, lookup}

-- Booleans

pub and_left : (a b : Bool) → (a && b) ≡ true → a ≡ true
and_left true b e = refl
and_left false b e = e

pub and_right : (a b : Bool) → (a && b) ≡ true → b ≡ true
and_right true b e = e
and_right false b e = absurd (false≢true e)

pub and_both : (a b : Bool) → a ≡ true → b ≡ true → (a && b) ≡ true
and_both true b p q = q
and_both false b p q = p

pub or_left : (a b : Bool) → a ≡ true → (a || b) ≡ true
or_left true b e = refl
or_left false b e = absurd (false≢true e)

pub or_right : (a b : Bool) → b ≡ true → (a || b) ≡ true
or_right true b e = refl
or_right false b e = e

pub or_cases : (a b : Bool) → (a || b) ≡ true → (a ≡ true) ⊎ (b ≡ true)
or_cases true b e = inl refl
or_cases false b e = inr e

pub or_false-left : (a b : Bool) → (a || b) ≡ false → a ≡ false
or_false-left true b e = e
or_false-left false b e = refl

pub or_false_right : (a b : Bool) → (a || b) ≡ false → b ≡ false
or_false_right true b e = absurd (false≢true (sym e))
or_false_right false b e = e

-- two tests that pass together are equal
pub bool_ext : (a b : Bool) → (a ≡ true → b ≡ true) → (b ≡ true → a ≡ true) → a ≡ b
bool_ext true true f g = refl
bool_ext true false f g = sym (f refl)
bool_ext false true f g = g refl
bool_ext false false f g = refl

-- a test passes or fails
pub decide : (b : Bool) → (b ≡ true) ⊎ (b ≡ false)
decide true = inl refl
decide false = inr refl

pub true-false : {C : Type 0} (b : Bool) → b ≡ true → b ≡ false → C
true-false b p q = absurd (true≢false (sym p ∙ q))

abbrev pub AllTrue : List Bool → Type 0
AllTrue [] = Unit {0}
AllTrue (b ∷ bs) = (b ≡ true) × AllTrue bs

pub conj-true : (bs : List Bool) → conj bs ≡ true → AllTrue bs
unfolding conj
conj-true [] e = tt
conj-true (b ∷ bs) e = (and_left b (conj bs) e, conj-true bs (and_right b (conj bs) e))

pub true-conj : (bs : List Bool) → AllTrue bs → conj bs ≡ true
unfolding conj
true-conj [] f = refl
true-conj (b ∷ bs) f = and_both b (conj bs) f.0 (true-conj bs f.1)

module _ {A : Type 0} where
  pub any_in : (p : A → Bool) (l : List A) → any p l ≡ true → (x : A) × (x ∈ l) × (p x ≡ true)
  unfolding any
  any_in p [] e = absurd (false≢true e)
  any_in p (x ∷ xs) e = step (or_cases (p x) (any p xs) e) (any_in p xs)
    where
      step : (p x ≡ true) ⊎ (any p xs ≡ true) → (any p xs ≡ true → (y : A) × (y ∈ xs) × (p y ≡ true)) → (y : A) × (y ∈ x ∷ xs) × (p y ≡ true)
      step (inl h) f = (x, Memᴰ.head refl, h)
      step (inr h) f = let r = f h in (r.0, Memᴰ.tail r.1, r.2)

  pub in_any : (p : A → Bool) {x : A} {l : List A} → x ∈ l → p x ≡ true → any p l ≡ true
  unfolding any
  in_any p {x} (Memᴰ.head {x = y} {xs = ys} e) h = or_left (p y) (any p ys) (sym (ap p e) ∙ h)
  in_any p (Memᴰ.tail {x = y} {xs = ys} m) h = or_right (p y) (any p ys) (in_any p m h)

  keep_cases : (p : A → Bool) (y : A) (b : Bool) → p y ≡ b → {x : A} (l k : List A) → x ∈ cond b (y ∷ k) k → (x ∈ k → (x ∈ l) × (p x ≡ true)) → (x ∈ y ∷ l) × (p x ≡ true)
  keep_cases p y true q l k m f = step (Memᴰ.cases_cons m) f
    where
      step : {x : A} → (x ≡ y) ⊎ (x ∈ k) → (x ∈ k → (x ∈ l) × (p x ≡ true)) → (x ∈ y ∷ l) × (p x ≡ true)
      step (inl e) f = (Memᴰ.head e, ap p e ∙ q)
      step (inr n) f = (Memᴰ.tail (f n).0, (f n).1)
  keep_cases p y false q l k m f = (Memᴰ.tail (f m).0, (f m).1)

  pub keep_in : (p : A → Bool) {x : A} (l : List A) → x ∈ keep p l → (x ∈ l) × (p x ≡ true)
  unfolding keep
  keep_in p [] m = absurd (Memᴰ.not-nil m)
  keep_in p (y ∷ ys) m = keep_cases p y (p y) refl ys (keep p ys) m (keep_in p ys)

  pub in_keep : (p : A → Bool) {x : A} {l : List A} → x ∈ l → p x ≡ true → x ∈ keep p l
  unfolding keep
  in_keep p {x} (Memᴰ.head {x = y} {xs = ys} e) h = rw (sym (ap p e) ∙ h) (Memᴰ.head e)
  in_keep p {x} (Memᴰ.tail {x = y} {xs = ys} m) h = step (p y) (in_keep p m h)
    where
      step : (b : Bool) → x ∈ keep p ys → x ∈ cond b (y ∷ keep p ys) (keep p ys)
      step true r = Memᴰ.tail r
      step false r = r

  -- what is kept depends only on the test's value at the elements
  pub keep_same : (p q : A → Bool) (l : List A) → ((x : A) → x ∈ l → p x ≡ q x) → keep p l ≡ keep q l
  unfolding keep
  keep_same p q [] f = refl
  keep_same p q (x ∷ xs) f = rw (f x (Memᴰ.head refl), keep_same p q xs (λ y m. f y (Memᴰ.tail m)))

  pub any_same : (p q : A → Bool) (l : List A) → ((x : A) → x ∈ l → p x ≡ q x) → any p l ≡ any q l
  unfolding any
  any_same p q [] f = refl
  any_same p q (x ∷ xs) f = rw (f x (Memᴰ.head refl), any_same p q xs (λ y m. f y (Memᴰ.tail m)))

module _ {A : Type 0} where
  pub all_in : (p : A → Bool) {x : A} {l : List A} → all p l ≡ true → x ∈ l → p x ≡ true
  unfolding all
  all_in p e (Memᴰ.head {x = y} {xs = ys} q) = ap p q ∙ and_left (p y) (all p ys) e
  all_in p e (Memᴰ.tail {x = y} {xs = ys} m) = all_in p (and_right (p y) (all p ys) e) m

  pub in_all : (p : A → Bool) (l : List A) → ((x : A) → x ∈ l → p x ≡ true) → all p l ≡ true
  unfolding all
  in_all p [] f = refl
  in_all p (x ∷ xs) f = and_both (p x) (all p xs) (f x (Memᴰ.head refl)) (in_all p xs (λ y m. f y (Memᴰ.tail m)))

module _ {A B : Type 0} (key : A → ℕ) (value : A → B) (default : B) where
  lookup_cases : (n : ℕ) (y : A) (ys : List A) (b : Bool) → eqb n (key y) ≡ b → {x : A} → x ∈ y ∷ ys → key x ≡ n
      → (x ∈ ys → (z : A) × (z ∈ ys) × (key z ≡ n) × (lookup key value default n ys ≡ value z))
      → (z : A) × (z ∈ y ∷ ys) × (key z ≡ n) × (cond b (value y) (lookup key value default n ys) ≡ value z)
  lookup_cases n y ys true q m e f = (y, Memᴰ.head refl, sym (eqb-true n (key y) q), refl)
  lookup_cases n y ys false q {x} m e f = step (Memᴰ.cases_cons m)
    where
      step : (x ≡ y) ⊎ (x ∈ ys) → (z : A) × (z ∈ y ∷ ys) × (key z ≡ n) × (lookup key value default n ys ≡ value z)
      step (inl i) = absurd (eqb-false n (key y) q (sym e ∙ ap key i))
      step (inr i) = let r = f i in (r.0, Memᴰ.tail r.1, r.2, r.3)

  -- where some element has the key, the value is that of an element that has it
  pub lookup_in : (n : ℕ) {x : A} (l : List A) → x ∈ l → key x ≡ n → (z : A) × (z ∈ l) × (key z ≡ n) × (lookup key value default n l ≡ value z)
  unfolding lookup
  lookup_in n [] m e = absurd (Memᴰ.not-nil m)
  lookup_in n (y ∷ ys) m e = lookup_cases n y ys (eqb n (key y)) refl m e (λ i. lookup_in n ys i e)
