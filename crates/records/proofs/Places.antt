-- Facts about the first places of a list: what is left behind some of them, a test that all pass, and numbers with zeros behind them.
-- Assumes nothing.
use mathlib.Core.Path.{◌≡◌, refl, sym, ◌∙◌}
use mathlib.Core.Bool.{Bool, true, false}
use mathlib.Core.List.{List, [], ◌∷◌, ◌++◌}
use Prim.Native.Nat.{ℕ, zero, suc, ◌<◌}
use native.Mathlib.Omega.{arith}
use lib.ListN.{length, get_or, replicate}
use borrow.Author.Tests.{ne_eqb}
use Rattle.rules.specs.Lists.{all, none}
use Rattle.rules.proofs.Lists.{and_left, and_right}
use Rattle.rules.proofs.Typed.{length_none}

module _ {A : Type 0} (p : A → Bool) where
  pub all-at : (l : List A) (i : ℕ) (d : A) → all p l ≡ true → i < length l → p (get_or l i d) ≡ true
  unfolding all
  all-at [] i d e h = absurd (omega arith)
  all-at (x ∷ xs) zero d e h = and_left (p x) (all p xs) e
  all-at (x ∷ xs) (suc i) d e h = all-at xs i d (and_right (p x) (all p xs) e) (omega arith)

-- past the zeros there are zeros too
pub zeros_get : (k i : ℕ) → ◌≡◌ {A = ℕ} (get_or (replicate k 0) i 0) 0
zeros_get zero i = refl
zeros_get (suc k) zero = refl
zeros_get (suc k) (suc i) = zeros_get k i

pub padded_get : (v : List ℕ) (k i : ℕ) → get_or (v ++ replicate k 0) i 0 ≡ get_or v i 0
padded_get [] k i = zeros_get k i
padded_get (n ∷ v) k zero = refl
padded_get (n ∷ v) k (suc i) = padded_get v k i

pub some-list : (l : List ℕ) → 0 < length l → none l ≡ false
some-list l h = sym (length_none l) ∙ ne_eqb (length l) 0 (omega arith)
