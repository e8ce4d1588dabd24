-- A rising list searched by halves (document 02, request 3: "lists are rising; use it").
-- Assumes nothing.
use Rattle.std.specs.Prelude.{◌≡◌, Bool, true, false, cond, List, [], ◌∷◌, ◌++◌, map, ℕ, zero, suc, ◌/◌, ◌^◌, ◌≤◌, ◌<◌, ltb, eqb, length, take, drop, get_or}
use Rattle.rules.specs.Lists.{has, rising_above, maximum}

-- whether the number was found, and how many names of the list were read
pub record Search : Type 0 where
  pub found : Bool
  pub reads : ℕ

-- nothing more is read; or a name is read, and then this
abbrev pub over : Bool → Search
over b = record { found = b; reads = 0 }

abbrev pub after_read : Search → Search
after_read s = record { found = s.found; reads = suc s.reads }

-- the place in the middle, the name there, and the names behind it or those before it
abbrev pub half : List ℕ → ℕ
half l = length l / 2

abbrev pub middle : List ℕ → ℕ
middle l = get_or l (half l) 0

abbrev pub part : Bool → List ℕ → List ℕ
part is_behind l = cond is_behind (drop (suc (half l)) l) (take (half l) l)

-- The name in the middle is read. Where it is another, the search goes on behind it if it is below n, else before it.
-- The first number is how often the list may be halved: its length is always enough.
unfoldable pub search_in : ℕ → ℕ → List ℕ → Search
search_in zero n l = over false
search_in (suc k) n [] = over false
search_in (suc k) n (x ∷ xs) =
    let l = x ∷ xs in
    after_read (cond (eqb n (middle l)) (over true) (search_in k n (part (ltb (middle l) n) l)))

unfoldable pub search : ℕ → List ℕ → Search
search n l = search_in (length l) n l

-- the numbers 1 to n, and the most that a search reads of them, for whatever number up to n + 1
unfoldable pub up_to : ℕ → List ℕ
up_to zero = []
up_to (suc n) = up_to n ++ (suc n ∷ [])

abbrev pub most_reads : ℕ → ℕ
most_reads n = maximum (map (λ k. (search k (up_to n)).reads) (0 ∷ up_to (suc n)))

pub record SearchByHalves : Type 0 where
  -- "Rising lists keep the answer"
  pub keeps : (floor n : ℕ) (l : List ℕ) → rising_above floor l ≡ true → (search n l).found ≡ has n l
  -- "shall read at most r of them, r the least whole number with 2^r above n": no more than any such r, so than the least
  pub few : (n : ℕ) (l : List ℕ) (r : ℕ) → length l < 2 ^ r → (search n l).reads ≤ r
  -- and no smaller number would do: the least whole numbers with 2^r above 0, 1, 2, 3, 4, 15, 16, 17, 64
  pub met : map most_reads (0 ∷ 1 ∷ 2 ∷ 3 ∷ 4 ∷ 15 ∷ 16 ∷ 17 ∷ 64 ∷ []) ≡ 0 ∷ 1 ∷ 2 ∷ 2 ∷ 3 ∷ 4 ∷ 5 ∷ 5 ∷ 7 ∷ []
