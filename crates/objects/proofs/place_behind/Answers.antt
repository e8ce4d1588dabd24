-- `place_behind` meets its contract.
-- Assumes nothing.
use mathlib.Core.Path.{◌≡◌, refl, ap, ◌∙◌}
use mathlib.Core.Bool.{Bool, true, false, not, cond, ◌||◌}
use mathlib.Core.List.{List, [], ◌∷◌}
use Prim.Native.Nat.{ℕ, suc, ◌+◌}
use native.Mathlib.Omega.{arith}
use lib.Dec.{eqb, ltb}
use lib.ListN.{length, drop, length-drop}
use lib.Seq.{take_all}
use Rattle.std.proofs.Common.{rules, tests, is_some, Some, None}
use Rattle.std.proofs.lemmas.Bool.Decides.{nat_tests}
use Rattle.std.proofs.lemmas.Iterator.{YieldsList-from_slice}
use Rattle.std.proofs.lemmas.Iterator.Search.{position_from_yields_List}
use Rattle.std.specs.List.{position_or_len}
use Rattle.rules.specs.Lists.{any, has}
use Rattle.objects.proofs.place_behind.Goals as goal

-- there is a first element that passes where one passes
position-any : (p : ℕ → Bool) (xs : List ℕ) → ltb (position_or_len p xs) (length xs) ≡ any p xs
unfolding any
position-any p [] = refl
position-any p (x ∷ xs) = step (p x) (position-any p xs)
  where
    step : (b : Bool) → ltb (position_or_len p xs) (length xs) ≡ any p xs → ltb (cond (not b) (1 + position_or_len p xs) 0) (suc (length xs)) ≡ (b || any p xs)
    step true e = grind (arith, nat_tests)
    step false e = grind (arith, nat_tests, e)

chosen : (b : Bool) (i : ℕ) → is_some (cond b (Some i) None) ≡ b
chosen true i = refl
chosen false i = refl

pub returns-clause-found : goal.returns-clause-found
unfolding has
returns-clause-found c =
    let behind = drop c.args.from c.args.numbers.now in
    let rest : c.iter.result.rest.now ≡ behind = c.iter.ensures.rest ∙ take_all _ _ (omega (arith, length-drop c.args.from c.args.numbers.now)) in
    c.map.ensures.variant
    ∙ ap is_some (position_from_yields_List (eqb c.args.number) _ _ c.position.result c.position.ensures.ran (YieldsList-from_slice behind rest) (λ x b q k. search (rules, tests)))
    ∙ chosen _ _ ∙ position-any (eqb c.args.number) behind
