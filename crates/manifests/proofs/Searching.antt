-- What a search by halves finds and reads.
-- Assumes nothing.
use mathlib.Core.Path.{◌≡◌, refl, sym, ap, ◌∙◌}
use mathlib.Core.Logic.{◌⊎◌, inl, inr}
use mathlib.Core.Bool.{Bool, true, false, cond}
use mathlib.Core.List.Memᴰ
use mathlib.Core.List.{List, [], ◌∷◌, ◌++◌}
use Prim.Native.Nat.{ℕ, zero, suc, ◌^◌, ◌≤◌, ◌<◌}
use native.Mathlib.Nat.{le_refl, two-pow-succ}
use native.Mathlib.Omega.{arith}
use borrow.Author.Tests.{ltb-true, ltb-false, eqb-true, eqb-false}
use lib.Dec.{ltb, eqb}
use lib.ListN.{length, take, drop, length-take, length-drop}
use lib.Seq.{split_at}
use Rattle.rules.specs.Lists.{◌∈◌, any, has, rising_above, maximum}
use Rattle.rules.proofs.Lists.{and_left, and_right, and_both, bool_ext}
use Rattle.rules.proofs.Numbers.{has_in, in_has, rising_above_lem}
use Rattle.manifests.specs.Search.{Search, over, after_read, half, middle, part, search_in, search, up_to, SearchByHalves}

-- neither part is longer than half of the list
part_length : (b : Bool) (l : List ℕ) → length (part b l) ≤ half l
part_length true l = omega (arith, length-drop (suc (half l)) l)
part_length false l = omega (arith, length-take (half l) l)

pub search-none : (n : ℕ) → search n [] ≡ over false
unfolding search search_in
search-none n = refl

-- more halvings than the list is long change nothing
enough : (j k n : ℕ) (l : List ℕ) → length l ≤ j → length l ≤ k → search_in j n l ≡ search_in k n l
unfolding search_in
enough zero zero n [] h i = refl
enough zero (suc k) n [] h i = refl
enough (suc j) zero n [] h i = refl
enough (suc j) (suc k) n [] h i = refl
enough zero k n (x ∷ xs) h i = absurd (omega arith)
enough (suc j) zero n (x ∷ xs) h i = absurd (omega arith)
enough (suc j) (suc k) n (x ∷ xs) h i =
    let l = x ∷ xs in
    let b = ltb (middle l) n in
    let short = part_length b l in
    ap (λ (s : Search). after_read (cond (eqb n (middle l)) (over true) s)) (enough j k n (part b l) (omega arith) (omega arith))

-- the next read of a list that is not empty
pub search-next : (n : ℕ) (l : List ℕ) → 0 < length l
    → search n l ≡ after_read (cond (eqb n (middle l)) (over true) (search n (part (ltb (middle l) n) l)))
unfolding search search_in
search-next n [] h = absurd (omega arith)
search-next n (x ∷ xs) h =
    let l = x ∷ xs in
    let b = ltb (middle l) n in
    ap (λ (s : Search). after_read (cond (eqb n (middle l)) (over true) s))
    (enough (length xs) (length (part b l)) n (part b l) (omega (arith, part_length b l)) (le_refl _))

-- by induction on r: a list shorter than 2 ^ suc r has halves shorter than 2 ^ r
few : (r n : ℕ) (l : List ℕ) → length l < 2 ^ r → (search n l).reads ≤ r
few zero n [] h = rw (search-none n) (omega arith)
few zero n (x ∷ xs) h = absurd (omega arith)
few (suc r) n [] h = rw (search-none n) (omega arith)
few (suc r) n (x ∷ xs) h =
    let l = x ∷ xs in
    let b = ltb (middle l) n in
    rw (search-next n l (omega arith))
    (step (eqb n (middle l)) (search n (part b l)) (few r n (part b l) (omega (arith, part_length b l, two-pow-succ r))))
  where
    step : (b : Bool) (s : Search) → s.reads ≤ r → (after_read (cond b (over true) s)).reads ≤ suc r
    step true s h = omega arith
    step false s h = omega arith

-- a number of a rising list is above those before it and below those behind it
rising-split : (floor m : ℕ) (a b : List ℕ) → rising_above floor (a ++ m ∷ b) ≡ true
    → (rising_above floor a ≡ true) × ((n : ℕ) → n ∈ a → n < m) × (rising_above m b ≡ true)
unfolding rising_above
rising-split floor m [] b e = (refl, (λ n i. absurd (Memᴰ.not-nil i)), and_right (ltb floor m) _ e)
rising-split floor m (y ∷ ys) b e =
    let r = rising-split y m ys b rest in
    (and_both (ltb floor y) _ (and_left (ltb floor y) _ e) r.0, (λ n i. below n (Memᴰ.cases_cons i) (r.1 n)), r.2)
  where
    rest : rising_above y (ys ++ m ∷ b) ≡ true
    rest = and_right (ltb floor y) _ e

    below : (n : ℕ) → (n ≡ y) ⊎ (n ∈ ys) → (n ∈ ys → n < m) → n < m
    below n (inl q) f = omega (arith, rising_above_lem y m (ys ++ m ∷ b) rest (Memᴰ.append_right ys (Memᴰ.head refl)))
    below n (inr i) f = f i

-- where a number of a rising list stands, beside one of its places
data Stands (n m : ℕ) (a b : List ℕ) : Type 0 where
  before : n ∈ a → n < m → Stands n m a b
  there : n ≡ m → Stands n m a b
  behind : n ∈ b → m < n → Stands n m a b

-- so the half that is searched has the number where the list has it, and is rising too
module _ (floor n m : ℕ) (a b : List ℕ) (rising : rising_above floor (a ++ m ∷ b) ≡ true) where
  stands : n ∈ a ++ m ∷ b → Stands n m a b
  stands i = front (Memᴰ.append_cases a i)
    where
      back : (n ≡ m) ⊎ (n ∈ b) → Stands n m a b
      back (inl q) = there q
      back (inr j) = behind j (rising_above_lem m n b (rising-split floor m a b rising).2 j)

      front : (n ∈ a) ⊎ (n ∈ m ∷ b) → Stands n m a b
      front (inl j) = before j ((rising-split floor m a b rising).1 n j)
      front (inr j) = back (Memᴰ.cases_cons j)

  taken-rising : (q : Bool) → rising_above (cond q m floor) (cond q b a) ≡ true
  taken-rising true = (rising-split floor m a b rising).2
  taken-rising false = (rising-split floor m a b rising).0

  taken-has : (p q : Bool) → eqb n m ≡ p → ltb m n ≡ q → (s : Search)
      → s.found ≡ has n (cond q b a) → (cond p (over true) s).found ≡ has n (a ++ m ∷ b)
  taken-has true q e g s h = sym (in_has (Memᴰ.append_right a (Memᴰ.head (eqb-true n m e))))
  taken-has false true e g s h =
      h ∙ bool_ext _ _ (λ t. in_has (Memᴰ.append_right a (Memᴰ.tail (has_in n b t)))) (λ t. in_has (keep (stands (has_in n _ t))))
    where
      keep : Stands n m a b → n ∈ b
      keep (before i l) = absurd (omega (arith, ltb-true m n g))
      keep (there i) = absurd (eqb-false n m e i)
      keep (behind i l) = i
  taken-has false false e g s h =
      h ∙ bool_ext _ _ (λ t. in_has (Memᴰ.append_left (m ∷ b) (has_in n a t))) (λ t. in_has (keep (stands (has_in n _ t))))
    where
      keep : Stands n m a b → n ∈ a
      keep (before i l) = i
      keep (there i) = absurd (eqb-false n m e i)
      keep (behind i l) = absurd (omega (arith, ltb-false m n g))

-- by induction on a number k that the list is not longer than
member : (k floor n : ℕ) (l : List ℕ) → length l ≤ k → rising_above floor l ≡ true → (search n l).found ≡ has n l
unfolding has any
member zero floor n [] h e = ap (λ (s : Search). s.found) (search-none n)
member zero floor n (x ∷ xs) h e = absurd (omega arith)
member (suc k) floor n [] h e = ap (λ (s : Search). s.found) (search-none n)
member (suc k) floor n (x ∷ xs) h e =
    let l = x ∷ xs in
    let m = middle l in
    let a = take (half l) l in
    let b = drop (suc (half l)) l in
    let whole : l ≡ a ++ m ∷ b = split_at l (half l) 0 (omega arith) in
    let rising : rising_above floor (a ++ m ∷ b) ≡ true = ap (rising_above floor) (sym whole) ∙ e in
    let q = ltb m n in
    ap (λ (s : Search). s.found) (search-next n l (omega arith))
    ∙ taken-has floor n m a b rising (eqb n m) q refl refl (search n (part q l))
    (member k (cond q m floor) n (part q l) (omega (arith, part_length q l)) (taken-rising floor n m a b rising q))
    ∙ ap (has n) (sym whole)

pub search-by_halves : SearchByHalves
unfolding search search_in up_to maximum
search-by_halves = record { keeps = λ floor n l. member (length l) floor n l (le_refl _); few = λ n l r. few r n l; met = refl }
