-- The collector's reach test: whether some list names an object, and what was read to tell (document 02, request 3).
-- Assumes nothing.
use Rattle.std.specs.Prelude.{◌≡◌, Bool, true, cond, List, [], ◌∷◌, map, ℕ, ◌^◌, ◌≤◌, ◌<◌, leb, eqb, length, take, get_or}
use Rattle.rules.specs.Lists.{any, all, has, rising_above}
use Rattle.rules.specs.Limits.{limits, manifest_limit}
use Rattle.arrays.specs.Arrays.{pad}
use Rattle.manifests.specs.declared.KeptManifest.{KeptManifest}
use Rattle.manifests.specs.declared.Reach.{Reach}
use Rattle.manifests.specs.Search.{search}

-- some list has the object, each searched by halves
unfoldable pub reached : List (List ℕ) → ℕ → Bool
reached ls n = any (λ l. (search n l).found) ls

-- how many names of each list are read; those behind one that has the object are not searched
unfoldable pub reads_of : List (List ℕ) → ℕ → List ℕ
reads_of [] n = []
reads_of (l ∷ ls) n = (search n l).reads ∷ cond (search n l).found [] (reads_of ls n)

-- the test's answer: a count for each place of a kept manifest
abbrev pub reach_of : List (List ℕ) → ℕ → Reach
reach_of ls n = record { found = reached ls n; reads = pad (manifest_limit limits) 0 (reads_of ls n) }

pub record ReachByHalves : Type 0 where
  -- "Rising lists keep the answer": the test says whether some list has the object
  pub keeps : (ls : List (List ℕ)) (n : ℕ) → all (rising_above 0) ls ≡ true → (reach_of ls n).found ≡ any (has n) ls
  -- "Testing one object against a list of n names shall read at most r of them, r the least whole number with 2^r above n": of the list in
  -- each place, by that list's own length
  pub few : (ls : List (List ℕ)) (n i r : ℕ) → length (get_or ls i []) < 2 ^ r → get_or (reach_of ls n).reads i 0 ≤ r

-- The lists in their places, as they are lent to the test: each is the first names of an array, as many as are counted

abbrev pub names_at : List KeptManifest → List (List ℕ)
names_at ms = map (λ m. m.names) ms

abbrev pub counts_at : List KeptManifest → List ℕ
counts_at ms = map (λ m. m.count) ms

unfoldable pub lists_in : List (List ℕ) → List ℕ → List (List ℕ)
lists_in [] counts = []
lists_in (a ∷ rest) [] = []
lists_in (a ∷ rest) (n ∷ counts) = take n a ∷ lists_in rest counts

-- there is an array for each count, a place of the answer too, no list is longer than its array, and every array has its size
pub record Searchable (names : List (List ℕ)) (counts : List ℕ) : Type 0 where
  pub arrays : length counts ≤ length names
  pub places : length counts ≤ manifest_limit limits
  pub lists : all (λ n. leb n limits.names) counts ≡ true
  pub whole : all (λ a. eqb (length a) limits.names) names ≡ true
