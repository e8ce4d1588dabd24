-- When bytes start with others.
-- Assumes nothing.
use mathlib.Core.Path.{◌≡◌, refl, ap₂}
use mathlib.Core.Bool.{Bool, true, false, ◌&&◌, false≢true}
use mathlib.Core.List.{List, [], ◌∷◌, ◌++◌}
use Prim.Native.Nat.{ℕ}
use lib.Dec.{eqb}
use lib.ListN.{length, drop}
use borrow.Author.Tests.{eqb-true, eq-eqb}
use Rattle.rules.proofs.Lists.{and_both, and_left, and_right}
use Rattle.log_check.specs.Check.{is_prefix}

-- what starts with v is v and the rest
pub prefix_split : (v bs : List ℕ) → is_prefix v bs ≡ true → v ++ drop (length v) bs ≡ bs
unfolding is_prefix
prefix_split [] bs e = refl
prefix_split (v ∷ vs) [] e = absurd (false≢true e)
prefix_split (v ∷ vs) (b ∷ bs) e = ap₂ ◌∷◌ (eqb-true v b (and_left (eqb v b) (is_prefix vs bs) e)) (prefix_split vs bs (and_right (eqb v b) (is_prefix vs bs) e))

pub prefix_append : (v rest : List ℕ) → is_prefix v (v ++ rest) ≡ true
unfolding is_prefix
prefix_append [] rest = refl
prefix_append (v ∷ vs) rest = and_both (eqb v v) _ (eq-eqb v v refl) (prefix_append vs rest)

-- one part behind another
pub prefix_behind : (v w bs : List ℕ) → is_prefix (v ++ w) bs ≡ (is_prefix v bs && is_prefix w (drop (length v) bs))
unfolding is_prefix
prefix_behind [] w bs = refl
prefix_behind (v ∷ vs) w [] = refl
prefix_behind (v ∷ vs) w (b ∷ bs) = by (eqb v b) (prefix_behind vs w bs)
  where
    by : (c : Bool) → is_prefix (vs ++ w) bs ≡ (is_prefix vs bs && is_prefix w (drop (length vs) bs)) → (c && is_prefix (vs ++ w) bs) ≡ ((c && is_prefix vs bs) && is_prefix w (drop (length vs) bs))
    by true e = e
    by false e = refl
