-- An array that a closure fills, each place from the element of a list at its index.
-- Assumes nothing.
use mathlib.Core.Path.{◌≡◌, sym, ap, ap₂, ◌∙◌, subst}
use mathlib.Core.List.{List, [], ◌∷◌, ◌++◌, map}
use Prim.Native.Nat.{ℕ, zero, suc, ◌+◌, ◌≤◌, ◌<◌}
use native.Mathlib.Numerals.{add-one}
use native.Mathlib.Omega.{arith}
use lib.ListN.{length, take, drop, get_or, set, length-map, drop_of_length-le}
use lib.Seq.{drop-cons, length-take-le, take-suc, set-append_seam, get_or-append_seam}
use denote.Param.Members.{Mut}
use Rattle.std.proofs.Common.{append_assoc}
use Rattle.std.proofs.lemmas.List.{map-append}
use Rattle.std.proofs.lemmas.Grind.{common_steps}
use Rattle.std.specs.Fn.{Called}
use Rattle.std.specs.Array.{IsFromFnResult, IsFromFnResultFrom}

module _ {F A B : Type 0} (g : Mut F (ℕ × Unit {0}) B) (v : A → B) (z : A) (f : F) (xs : List A) (ys : List B)
    (each : (i : ℕ) (y : B) (q : F) → Called g f (i, tt) y q → (q ≡ f) × (y ≡ v (get_or xs i z))) where
  filled-from : (i n : ℕ) → length xs ≡ i + n → length ys ≡ i + n → IsFromFnResultFrom g f ys i n → drop i ys ≡ map v (drop i xs)
  filled-from i zero a b c = rw (drop_of_length-le ys {i = i} (omega arith), drop_of_length-le xs {i = i} (omega arith))
  filled-from i (suc n) a b c =
      let is = each i c.1 c.0 c.3 in
      let here : get_or ys i c.1 ≡ v (get_or xs i z) = c.2.0 ∙ is.1 in
      let rest : drop (i + 1) ys ≡ map v (drop (i + 1) xs) = filled-from (i + 1) n (omega arith) (omega arith) (subst (λ (q : F). IsFromFnResultFrom g q ys (i + 1) n) is.0 c.4) in
      rw (drop-cons ys i c.1 (omega arith), drop-cons xs i z (omega arith)) (ap₂ ◌∷◌ here (rw add-one at rest))

  pub filled : (n : ℕ) → length xs ≡ n → IsFromFnResult g f ys n → ys ≡ map v xs
  filled n long made = filled-from 0 n (omega (arith, long)) (omega (arith, made.long)) made.each

-- A list that a loop changes in place: f of the elements passed, and then those that are left.
module _ {A : Type 0} (f : A → A) (xs : List A) where
  abbrev pub Changed : ℕ → List A → Type 0
  Changed i ys = ys ≡ map f (take i xs) ++ drop i xs

  module _ {i : ℕ} {ys : List A} (done : Changed i ys) (here : i < length xs) (z : A) where
    abbrev front : List A
    front = map f (take i xs)

    abbrev x : A
    x = get_or xs i z

    abbrev back : List A
    back = drop (i + 1) xs

    long : length front ≡ i
    long = length-map (take i xs) f ∙ length-take-le i xs (omega (arith, here))

    parts : ys ≡ front ++ x ∷ back
    parts = done ∙ ap (λ (l : List A). front ++ l) (rw add-one (drop-cons xs i z here))

    -- the element here is still the list's
    same : get_or ys i z ≡ x
    same = ap (λ (l : List A). get_or l i z) parts ∙ ap (λ (k : ℕ). get_or (front ++ x ∷ back) k z) (sym long) ∙ get_or-append_seam front x back z

    pub changed_next : (a : A) → a ≡ f (get_or ys i z) → Changed (i + 1) (set ys i a)
    changed_next a e =
        let more : map f (take (i + 1) xs) ≡ front ++ a ∷ [] = rw (add-one, take-suc xs i z here, map-append, e, same) in
        ap (λ (l : List A). set l i a) parts ∙ ap (λ (k : ℕ). set (front ++ x ∷ back) k a) (sym long) ∙ set-append_seam front x back a
        ∙ sym (ap (λ (l : List A). l ++ back) more ∙ append_assoc front (a ∷ []) back)

  pub changed_all : {i : ℕ} {ys : List A} → Changed i ys → length xs ≤ i → ys ≡ map f xs
  changed_all {i} {ys} done h = grind (arith, common_steps, done)
