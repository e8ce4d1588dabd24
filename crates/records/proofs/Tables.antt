-- Facts about the table of the kinds: numbers in their places say what they say.
-- Assumes nothing.
use Rattle.std.proofs.Common.{◌≡◌, ◌++◌, ◌-◌, ℕ, List, Option, Some, None, length, replicate, refl}
use Rattle.rules.specs.declared.Kind.{Kind}
use Rattle.records.specs.Format.{most_fields}
use Rattle.records.specs.Found.{in_numbers, placed_all}
use Rattle.records.specs.Walk.{Walked, Found as FieldsFound, Broken}
use Rattle.records.specs.Steps.{kind_from, request_from, request_of_walk}
use Rattle.records.proofs.Places.{padded_get}

kind_placed : (tag : ℕ) (v : List ℕ) (k : ℕ) → kind_from tag (v ++ replicate k 0) ≡ kind_from tag v
unfolding kind_from
kind_placed tag v k = simp padded_get

pub request_placed : (tag : ℕ) (w : Walked) → request_of_walk tag (placed_all w) ≡ request_of_walk tag w
request_placed tag Broken = refl
request_placed tag (FieldsFound v l) = rw (kind_placed tag v (most_fields - length v)) (by (kind_from tag v))
  where
    by : (k : Option Kind) → request_from (in_numbers v) l k ≡ request_from v l k
    by None = refl
    by (Some k) = rw (padded_get v (most_fields - length v) 0)
