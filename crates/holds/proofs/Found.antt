-- What the library's `find` answers, in our word for looking up.
-- Assumes nothing.
use mathlib.Core.Path.{◌≡◌}
use mathlib.Core.Bool.{Bool, true, false, cond}
use mathlib.Core.List.{List, [], ◌∷◌}
use Prim.Native.Nat.{ℕ}
use lib.Dec.{eqb}
use Rattle.std.specs.List.{find}
use Rattle.std.specs.Option.{MatchOption, option_map}
use Rattle.std.proofs.Common.{Option, Some, None}
use Rattle.rules.specs.Lists.{lookup}

module _ {A B : Type 0} (key : A → ℕ) (value : A → B) (default : B) (n : ℕ) where
  -- b is the value of what is found, or the default
  pub lookup-find : (b : B) (xs : List A) → MatchOption (find (λ a. eqb n (key a)) xs) (b ≡ default) (λ a. b ≡ value a) → b ≡ lookup key value default n xs
  unfolding lookup
  lookup-find b [] h = h
  lookup-find b (x ∷ xs) h = step (eqb n (key x)) (lookup-find b xs) h
    where
      step : (t : Bool) → (MatchOption (find (λ a. eqb n (key a)) xs) (b ≡ default) (λ a. b ≡ value a) → b ≡ lookup key value default n xs)
          → MatchOption (cond t (Some x) (find (λ a. eqb n (key a)) xs)) (b ≡ default) (λ a. b ≡ value a) → b ≡ cond t (value x) (lookup key value default n xs)
      step true f h = h
      step false f h = f h

  -- the same where v reads what is found
  pub lookup-found : {X : Type 0} (v : X → A) (r : Option X) (b : B) (xs : List A) → option_map v r ≡ find (λ a. eqb n (key a)) xs
      → MatchOption r (b ≡ default) (λ x. b ≡ value (v x)) → b ≡ lookup key value default n xs
  lookup-found v None b xs e h = lookup-find b xs (rw (← e) h)
  lookup-found v (Some x) b xs e h = lookup-find b xs (rw (← e) h)
