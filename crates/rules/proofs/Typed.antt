-- Facts about the places of a list, which a test walks from the first to the last.
-- Assumes nothing.
use mathlib.Core.Path.{◌≡◌, refl, sym, ap, ◌∙◌}
use mathlib.Core.Bool.{true}
use mathlib.Core.List.{List, [], ◌∷◌, ◌++◌}
use Prim.Native.Nat.{ℕ, zero, suc, ◌+◌, ◌-◌, ◌≤◌}
use native.Mathlib.Nat.{add_comm}
use native.Mathlib.Omega.{arith}
use lib.Dec.{leb, eqb}
use lib.ListN.{length, take, drop, replicate, length-append, length-replicate, replicate-append-replicate}
use lib.Seq.{take_at, drop_at, take-append-add, take-append_seam, drop-append_seam}
use borrow.Author.Tests.{le-leb, leb-true, ne_eqb}
use Rattle.rules.specs.declared.Kind.{Kind}
use Rattle.rules.specs.Limits.{limits}
use Rattle.rules.specs.Request.{Asked}
use Rattle.rules.specs.Lists.{all, none}
use Rattle.rules.specs.Typed.{padded, is_padded, name_list, request_of}
use Rattle.rules.proofs.Lists.{and_left, and_both}

-- ---- a list that is tested from the front: one element more, or none left

pub length_none : (l : List ℕ) → eqb (length l) 0 ≡ none l
unfolding none
length_none [] = refl
length_none (n ∷ l) = ne_eqb (length (n ∷ l)) 0 (omega arith)

-- ---- a list in its places

pub padded-from : (count : ℕ) (l : List ℕ) → count ≤ length l → is_padded count l ≡ all (eqb 0) (drop count l)
unfolding is_padded
padded-from count l h = rw (le-leb count (length l) h)

pub padded-room : (count : ℕ) (l : List ℕ) → is_padded count l ≡ true → count ≤ length l
unfolding is_padded
padded-room count l h = leb-true count (length l) (and_left (leb count (length l)) (all (eqb 0) (drop count l)) h)

-- ---- zeros

take_zeros : (m k : ℕ) → take {A = ℕ} m (replicate (k + m) 0) ≡ replicate m 0
take_zeros m k = rw (add_comm k m, ← replicate-append-replicate {A = ℕ} m k 0) (take_at (replicate m 0) (replicate k 0) m (length-replicate m 0))

drop_zeros : (k m : ℕ) → drop {A = ℕ} k (replicate (k + m) 0) ≡ replicate m 0
drop_zeros k m = rw (← replicate-append-replicate {A = ℕ} k m 0) (drop_at (replicate k 0) (replicate m 0) k (length-replicate k 0))

all_zeros : (m : ℕ) → all (eqb 0) (replicate m 0) ≡ true
unfolding all
all_zeros zero = refl
all_zeros (suc m) = all_zeros m

-- ---- a list in n places

padded_sum : (l : List ℕ) (m : ℕ) → padded (length l + m) l ≡ l ++ replicate m 0
padded_sum l m = take-append-add l (replicate (length l + m) 0) m ∙ ap (λ (z : List ℕ). l ++ z) (take_zeros m (length l))

module _ (n : ℕ) (l : List ℕ) (short : length l ≤ n) where
  sum : n ≡ length l + (n - length l)
  sum = omega arith

  pub padded_is : padded n l ≡ l ++ replicate (n - length l) 0
  padded_is = ap (λ (k : ℕ). padded k l) sum ∙ padded_sum l (n - length l)

  -- as a list laid over zeros stands there
  pub padded-over : l ++ drop (length l) (replicate n 0) ≡ padded n l
  padded-over =
      ap (λ (k : ℕ). l ++ drop (length l) (replicate k 0)) sum ∙ ap (λ (z : List ℕ). l ++ z) (drop_zeros (length l) (n - length l)) ∙ sym padded_is

  pub padded-take : take (length l) (padded n l) ≡ l
  padded-take = rw padded_is (take-append_seam l (replicate (n - length l) 0))

  pub padded-said : is_padded (length l) (padded n l) ≡ true
  unfolding is_padded
  padded-said =
      rw padded_is
      (and_both (leb (length l) (length (l ++ replicate (n - length l) 0))) (all (eqb 0) (drop (length l) (l ++ replicate (n - length l) 0)))
      (le-leb (length l) (length (l ++ replicate (n - length l) 0)) (omega (arith, length-append l (replicate (n - length l) 0))))
      (rw drop-append_seam (all_zeros (n - length l))))

-- a step with a list in its places asks what it was made from
pub list-asks : (t : ℕ) (k : Kind) (l : List ℕ) → length l ≤ limits.names → request_of (record { time = t; kind = k; list = name_list l }) ≡ Asked t k l
list-asks t k l h = rw (padded-said limits.names l h, padded-take limits.names l h)
