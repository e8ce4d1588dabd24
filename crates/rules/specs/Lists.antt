-- Lists searched and filtered by Boolean tests, and rising lists of numbers: the words that the rules and the history are written in.
-- Their laws are in proofs/Lists.antt. Assumes nothing.
use Rattle.std.specs.Prelude.{Bool, true, false, not, cond, ◌&&◌, ◌||◌, ℕ, max, ltb, eqb}
use mathlib.Core.List.{List, [], ◌∷◌, Memᴰ}

-- x is an element of the list
infix 40 ◌∈◌
abbrev pub ◌∈◌ : {A : Type 0} → A → List A → Type 0
x ∈ l = Memᴰ x l

-- every test of the list passes
unfoldable pub conj : List Bool → Bool
conj [] = true
conj (b ∷ bs) = b && conj bs

module _ {A : Type 0} where
  -- the elements that pass the test
  unfoldable pub keep : (A → Bool) → List A → List A
  keep p [] = []
  keep p (x ∷ xs) = cond (p x) (x ∷ keep p xs) (keep p xs)

  -- some element passes the test
  unfoldable pub any : (A → Bool) → List A → Bool
  any p [] = false
  any p (x ∷ xs) = p x || any p xs

  -- every element passes the test
  unfoldable pub all : (A → Bool) → List A → Bool
  all p [] = true
  all p (x ∷ xs) = p x && all p xs

  -- the list has no element
  unfoldable pub none : List A → Bool
  none [] = true
  none (x ∷ xs) = false

-- the value of the first element whose key is n, or the default
module _ {A B : Type 0} (key : A → ℕ) (value : A → B) (default : B) where
  unfoldable pub lookup : ℕ → List A → B
  lookup n [] = default
  lookup n (x ∷ xs) = cond (eqb n (key x)) (value x) (lookup n xs)

-- n stands in the list
unfoldable pub has : ℕ → List ℕ → Bool
has n l = any (eqb n) l

-- strictly rising, each number above the floor
unfoldable pub rising_above : ℕ → List ℕ → Bool
rising_above floor [] = true
rising_above floor (n ∷ ns) = ltb floor n && rising_above n ns

-- no number twice
unfoldable pub distinct : List ℕ → Bool
distinct [] = true
distinct (n ∷ ns) = not (has n ns) && distinct ns

-- n put into a strictly rising list, where it is not there already
unfoldable pub insert : ℕ → List ℕ → List ℕ
insert n [] = n ∷ []
insert n (m ∷ ms) = cond (ltb n m) (n ∷ m ∷ ms) (cond (eqb n m) (m ∷ ms) (m ∷ insert n ms))

-- the numbers of a list, rising, each once
unfoldable pub sorted : List ℕ → List ℕ
sorted [] = []
sorted (n ∷ ns) = insert n (sorted ns)

-- the highest number of a list, or 0
unfoldable pub maximum : List ℕ → ℕ
maximum [] = 0
maximum (n ∷ ns) = max n (maximum ns)
