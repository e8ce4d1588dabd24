-- Distinct numbers that all stand in a list are no more than it has.
-- Assumes nothing.
use mathlib.Core.Path.{◌≡◌, refl, sym, ap, ◌∙◌}
use mathlib.Core.Logic.{◌⊎◌, inl, inr}
use mathlib.Core.Bool.{Bool, true, false, not, cond}
use mathlib.Core.List.Memᴰ
use mathlib.Core.List.{List, [], ◌∷◌}
use Prim.Native.Nat.{ℕ, suc, ◌≤◌}
use native.Mathlib.Omega.{arith}
use lib.Dec.{eqb}
use lib.ListN.{length}
use borrow.Author.Tests.{eqb-true, eqb-false, not-true}
use Rattle.rules.specs.Lists.{◌∈◌, distinct, has}
use Rattle.rules.proofs.Lists.{and_left, and_right, true-false}
use Rattle.rules.proofs.Numbers.{in_has}

remove : ℕ → List ℕ → List ℕ
remove n [] = []
remove n (k ∷ ks) = cond (eqb n k) ks (k ∷ remove n ks)

remove_length : (n : ℕ) (ks : List ℕ) → n ∈ ks → length ks ≡ suc (length (remove n ks))
unfolding remove
remove_length n [] i = absurd (Memᴰ.not-nil i)
remove_length n (k ∷ ks) i = step (eqb n k) refl (Memᴰ.cases_cons i) (remove_length n ks)
  where
    step : (b : Bool) → eqb n k ≡ b → (n ≡ k) ⊎ (n ∈ ks) → (n ∈ ks → length ks ≡ suc (length (remove n ks))) → suc (length ks) ≡ suc (length (cond b ks (k ∷ remove n ks)))
    step true q w f = refl
    step false q (inl e) f = absurd (eqb-false n k q e)
    step false q (inr j) f = ap suc (f j)

in_remove : (n x : ℕ) (ks : List ℕ) → x ∈ ks → (x ≡ n → ⊥) → x ∈ remove n ks
unfolding remove
in_remove n x [] i ne = absurd (Memᴰ.not-nil i)
in_remove n x (k ∷ ks) i ne = step (eqb n k) refl (Memᴰ.cases_cons i) (λ j. in_remove n x ks j ne)
  where
    step : (b : Bool) → eqb n k ≡ b → (x ≡ k) ⊎ (x ∈ ks) → (x ∈ ks → x ∈ remove n ks) → x ∈ cond b ks (k ∷ remove n ks)
    step true q (inl e) f = absurd (ne (e ∙ sym (eqb-true n k q)))
    step true q (inr j) f = j
    step false q (inl e) f = Memᴰ.head e
    step false q (inr j) f = Memᴰ.tail (f j)

pub pigeonhole : (ns ks : List ℕ) → distinct ns ≡ true → ((n : ℕ) → n ∈ ns → n ∈ ks) → length ns ≤ length ks
unfolding distinct
pigeonhole [] ks e f = omega arith
pigeonhole (n ∷ ns) ks e f =
    let absent = not-true (has n ns) (and_left (not (has n ns)) _ e) in
    let a = remove_length n ks (f n (Memᴰ.head refl)) in
    let b = pigeonhole ns (remove n ks) (and_right (not (has n ns)) _ e) (λ x i. in_remove n x ks (f x (Memᴰ.tail i)) (λ q. true-false (has n ns) (in_has (Memᴰ.cast (sym q) i)) absent)) in
    omega arith
