-- Our words for tests on lists beside the library's, which its iterators answer with.
-- Assumes nothing.
use mathlib.Core.Path.{◌≡◌, refl, ap}
use mathlib.Core.Bool.{Bool, ◌&&◌, ◌||◌, cond}
use mathlib.Core.List.{List, [], ◌∷◌}
use Rattle.std.specs.List.{list_any, list_all, filter}
use Rattle.rules.specs.Lists.{any, all, keep}

module _ {A : Type 0} (p : A → Bool) where
  pub any_listed : (xs : List A) → list_any p xs ≡ any p xs
  unfolding any
  any_listed [] = refl
  any_listed (x ∷ xs) = ap (λ (b : Bool). p x || b) (any_listed xs)

  pub all_listed : (xs : List A) → list_all p xs ≡ all p xs
  unfolding all
  all_listed [] = refl
  all_listed (x ∷ xs) = ap (λ (b : Bool). p x && b) (all_listed xs)

  pub keep_listed : (xs : List A) → filter p xs ≡ keep p xs
  unfolding keep
  keep_listed [] = refl
  keep_listed (x ∷ xs) = ap (λ (ys : List A). cond (p x) (x ∷ ys) ys) (keep_listed xs)
