-- An array of n places that begins with a list and is filled up.
-- Assumes nothing.
use denote.Param.Members.{Shared}
use denote.Ref.{Bor}
use Rattle.std.specs.Prelude.{◌≡◌, Bool, true, cond, ◌&&◌, List, [], ◌∷◌, ◌++◌, ℕ, ◌-◌, length, replicate}

-- the list, and z in the places behind it
unfoldable pub pad : {A : Type 0} → ℕ → A → List A → List A
pad n z xs = xs ++ replicate (n - length xs) z

module _ {A : Type 0} where
  -- each element stands in the relation to the one before it, the first to a
  unfoldable pub chain : (A → A → Bool) → A → List A → Bool
  chain r a [] = true
  chain r a (x ∷ xs) = r a x && chain r x xs

module _ {A : Type 0} (lt : A → A → Bool) where
  -- an element is put into a rising list at its place: of two the smaller stands here, and the other goes on
  unfoldable pub inserted_by : A → List A → List A
  inserted_by x [] = x ∷ []
  inserted_by x (y ∷ ys) = cond (lt x y) x y ∷ inserted_by (cond (lt x y) y x) ys

-- a closure at a reference answers what the test says of the value there
abbrev pub Tests : {F X : Type 0} → Shared F (Bor X × Unit {0}) Bool → (X → Bool) → F → Type 0
Tests {F} {X} g p f = (x : Bor X) (r : Bool) → g.post f (x, tt) r → r ≡ p x.now

-- and at two
abbrev pub TestsPair : {F X : Type 0} → Shared F (Bor X × (Bor X × Unit {0})) Bool → (X → X → Bool) → F → Type 0
TestsPair {F} {X} g p f = (x y : Bor X) (r : Bool) → g.post f (x, (y, tt)) r → r ≡ p x.now y.now
