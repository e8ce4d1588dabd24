-- Laws of the occupancy words, for any number of words of any number of bits.
-- Assumes nothing.
use mathlib.Core.Path.{◌≡◌, refl, sym, ap, ap₂, ◌∙◌}
use mathlib.Core.Bool.{Bool, true, false, cond}
use mathlib.Core.List.{List, [], ◌∷◌, ◌++◌}
use Prim.Native.Nat.{ℕ, zero, suc, ◌+◌, ◌-◌, ◌*◌, ◌/◌, ◌%◌, ◌^◌, ◌≤◌, ◌<◌}
use native.Mathlib.Nat.{pow-suc, mod-eq_of_lt, mod-lt, div-add-mod, div-lt_iff_lt-mul, zero-mul, suc-mul, mul-zero, mul-suc}
use native.Mathlib.Numerals.{add-one}
use native.Mathlib.Omega.{arith}
use lib.Dec.{eqb}
use lib.Pow.{pow_pos, pow-lt}
use lib.Bits.{bit_and, bit_or, and_step, or_step, or_zero_r, and_mask}
use lib.Count.{ones, ones_step, count_trailing_zeros}
use lib.ListN.{length, take, drop, get_or, set, length-drop, take-append-drop, drop_of_length-le}
use lib.Seq.{length-take-le, take-set-lt, take-set-le, drop-cons, drop-set-lt, drop-set-add}
use Rattle.std.specs.List.{sum_by}
use Rattle.std.proofs.lemmas.List.Sums.{sum_by-cons}
use Rattle.objects.specs.Occupancy.{word, flags, words_of, flags_of, lowest_free, used, with_flag, OccupancyByWords}

-- a flag as a digit
abbrev digit : Bool → ℕ
digit b = cond b 1 0

pub digit_le : (b : Bool) → digit b ≤ 1
digit_le true = omega arith
digit_le false = omega arith

digit-eqb : (b : Bool) → eqb (digit b) 1 ≡ b
digit-eqb true = refl
digit-eqb false = refl

low : (b : Bool) (w : ℕ) → (w * 2 + digit b) % 2 ≡ digit b
low b w = omega (arith, digit_le b)

high : (b : Bool) (w : ℕ) → (w * 2 + digit b) / 2 ≡ w
high b w = omega (arith, digit_le b)

pub word_lt : (bs : List Bool) → word bs < 2 ^ length bs
unfolding word
word_lt [] = omega arith
word_lt (b ∷ bs) = rw pow-suc (omega (arith, digit_le b, word_lt bs))

-- ---- word and flags undo one another
pub flags-word : (bs : List Bool) → flags (length bs) (word bs) ≡ bs
unfolding word flags
flags-word [] = refl
flags-word (b ∷ bs) = rw (low b (word bs), high b (word bs), digit-eqb b) (ap (λ (r : List Bool). b ∷ r) (flags-word bs))

flag-digit : (n : ℕ) → n < 2 → digit (eqb n 1) ≡ n
flag-digit zero h = refl
flag-digit (suc zero) h = refl
flag-digit (suc (suc n)) h = omega arith

pub word_flags : (k w : ℕ) → w < 2 ^ k → word (flags k w) ≡ w
unfolding word flags
word_flags zero w h = omega arith
word_flags (suc k) w h =
    let h' : w < 2 ^ k * 2 = rw pow-suc at h in
    rw (word_flags k (w / 2) (omega arith), flag-digit (w % 2) (omega arith)) (omega arith)

pub length-flags : (k w : ℕ) → length (flags k w) ≡ k
unfolding flags
length-flags zero w = refl
length-flags (suc k) w = ap suc (length-flags k (w / 2))

-- ---- the count of ones is the number of used places
pub ones-word : (bs : List Bool) → ones (word bs) ≡ used bs
unfolding word used ones
ones-word [] = refl
ones-word (b ∷ bs) =
    ones_step (word bs * 2 + digit b) ∙ ap₂ (λ (x y : ℕ). x + ones y) (low b (word bs)) (high b (word bs)) ∙ omega (arith, ones-word bs)

-- ---- the trailing zeros of the inverted word are the lowest free place
pub lowest-word : (bs : List Bool) → count_trailing_zeros (length bs) ((2 ^ length bs - 1) - word bs) ≡ lowest_free bs
unfolding word lowest_free count_trailing_zeros
lowest-word [] = refl
lowest-word (true ∷ bs) =
    let d : (2 ^ suc (length bs) - 1 - (word bs * 2 + 1)) % 2 ≡ 0 = omega (arith, pow-suc 2 (length bs), word_lt bs) in
    let q : (2 ^ suc (length bs) - 1 - (word bs * 2 + 1)) / 2 ≡ 2 ^ length bs - 1 - word bs = omega (arith, pow-suc 2 (length bs), word_lt bs) in
    rw (d, q) (ap suc (lowest-word bs))
lowest-word (false ∷ bs) =
    let d : (2 ^ suc (length bs) - 1 - (word bs * 2 + 0)) % 2 ≡ 1 = omega (arith, pow-suc 2 (length bs), word_lt bs) in
    rw d

-- ---- a bit is set by `or`, and cleared by `and` with its inverse
half : (i : ℕ) → 2 ^ suc i / 2 ≡ 2 ^ i
half i = omega (arith, pow-suc 2 i)

even : (i : ℕ) → 2 ^ suc i % 2 ≡ 0
even i = omega (arith, pow-suc 2 i)

pub or_bit : (bs : List Bool) (i : ℕ) → i < length bs → bit_or (word bs) (2 ^ i) ≡ word (set bs i true)
unfolding word
or_bit [] i h = omega arith
or_bit (b ∷ bs) zero h =
    or_step (word bs * 2 + digit b) 1 ∙ rw (high b (word bs), low b (word bs), or_zero_r (word bs)) (omega (arith, digit_le b))
or_bit (b ∷ bs) (suc i) h =
    or_step (word bs * 2 + digit b) (2 ^ suc i)
    ∙ rw (high b (word bs), low b (word bs), half i, even i, or_bit bs i (omega arith)) (omega arith)

pub and_bit : (bs : List Bool) (i : ℕ) → i < length bs → bit_and (word bs) ((2 ^ length bs - 1) - 2 ^ i) ≡ word (set bs i false)
unfolding word
and_bit [] i h = omega arith
and_bit (b ∷ bs) zero h =
    let m : ℕ = 2 ^ suc (length bs) - 1 - 1 in
    let q : m / 2 ≡ 2 ^ length bs - 1 = omega (arith, pow-suc 2 (length bs), pow_pos (length bs)) in
    let d : m % 2 ≡ 0 = omega (arith, pow-suc 2 (length bs), pow_pos (length bs)) in
    let w : bit_and (word bs) (2 ^ length bs - 1) ≡ word bs = and_mask (word bs) (length bs) ∙ mod-eq_of_lt (word_lt bs) in
    and_step (word bs * 2 + digit b) m ∙ rw (high b (word bs), low b (word bs), q, d, w) (omega arith)
and_bit (b ∷ bs) (suc i) h =
    let m : ℕ = 2 ^ suc (length bs) - 1 - 2 ^ suc i in
    let lt : 2 ^ i < 2 ^ length bs = pow-lt (omega arith) in
    let q : m / 2 ≡ 2 ^ length bs - 1 - 2 ^ i = omega (arith, pow-suc 2 (length bs), pow-suc 2 i) in
    let d : m % 2 ≡ 1 = omega (arith, pow-suc 2 (length bs), pow-suc 2 i) in
    and_step (word bs * 2 + digit b) m
    ∙ rw (high b (word bs), low b (word bs), q, d, and_bit bs i (omega arith)) (omega (arith, digit_le b))

-- ---- the same of a word of k bits and its flags, as the code has them
module _ (k w : ℕ) (h : w < 2 ^ k) where
  pub ones_flags : ones w ≡ used (flags k w)
  ones_flags = ap ones (sym (word_flags k w h)) ∙ ones-word (flags k w)

  pub lowest_flags : count_trailing_zeros k ((2 ^ k - 1) - w) ≡ lowest_free (flags k w)
  lowest_flags =
      ap₂ (λ (j x : ℕ). count_trailing_zeros j ((2 ^ j - 1) - x)) (sym (length-flags k w)) (sym (word_flags k w h)) ∙ lowest-word (flags k w)

  -- 1 << i
  shifted : (i : ℕ) → i < k → 1 * 2 ^ i % 2 ^ k ≡ 2 ^ i
  shifted i l = let lt : 1 * 2 ^ i < 2 ^ k = omega (arith, pow-lt l) in mod-eq_of_lt lt ∙ omega arith

  pub or_flags : (i : ℕ) → i < k → bit_or w (1 * 2 ^ i % 2 ^ k) ≡ word (set (flags k w) i true)
  or_flags i l =
      ap₂ bit_or (sym (word_flags k w h)) (shifted i l) ∙ or_bit (flags k w) i (omega (arith, length-flags k w))

  pub and_flags : (i : ℕ) → i < k → bit_and w ((2 ^ k - 1) - 1 * 2 ^ i % 2 ^ k) ≡ word (set (flags k w) i false)
  and_flags i l =
      ap₂ (λ (x y : ℕ). bit_and x ((2 ^ k - 1) - y)) (sym (word_flags k w h)) (shifted i l)
      ∙ ap (λ (j : ℕ). bit_and (word (flags k w)) ((2 ^ j - 1) - 2 ^ i)) (sym (length-flags k w))
      ∙ and_bit (flags k w) i (omega (arith, length-flags k w))

-- ---- a store that is not full has a free place
pub free-place : (bs : List Bool) → used bs < length bs → lowest_free bs < length bs
unfolding used lowest_free
free-place [] h = omega arith
free-place (true ∷ bs) h = omega (arith, free-place bs (omega arith))
free-place (false ∷ bs) h = omega arith

-- ---- several words: the flags of one behind those of the words before it

no_places : (k : ℕ) (bs : List Bool) → length bs ≡ zero * k → [] ≡ bs
no_places k [] e = refl
no_places k (b ∷ bs) e = absurd (omega (arith, e, zero-mul k))

module _ (k n : ℕ) (bs : List Bool) (e : length bs ≡ suc n * k) where
  -- the first word's places, and those of the others
  pub first_long : length (take k bs) ≡ k
  first_long = length-take-le k bs (omega (arith, e, suc-mul n k))

  pub rest_long : length (drop k bs) ≡ n * k
  rest_long = length-drop k bs ∙ omega (arith, e, suc-mul n k)

  first-flags : flags k (word (take k bs)) ≡ take k bs
  first-flags = ap (λ (j : ℕ). flags j (word (take k bs))) (sym first_long) ∙ flags-word (take k bs)

pub flags-words : (k n : ℕ) (bs : List Bool) → length bs ≡ n * k → flags_of k (words_of k n bs) ≡ bs
unfolding flags_of words_of
flags-words k zero bs e = no_places k bs e
flags-words k (suc n) bs e =
    ap₂ (λ (x y : List Bool). x ++ y) (first-flags k n bs e) (flags-words k n (drop k bs) (rest_long k n bs e)) ∙ take-append-drop k bs

pub length-words : (k n : ℕ) (bs : List Bool) → length (words_of k n bs) ≡ n
unfolding words_of
length-words k zero bs = refl
length-words k (suc n) bs = ap suc (length-words k n (drop k bs))

-- place j of word i
flag_at : (k n : ℕ) (bs : List Bool) → length bs ≡ n * k → (b : Bool) (i j : ℕ) → i < n → j < k
    → set (words_of k n bs) i (word (set (flags k (get_or (words_of k n bs) i 0)) j b)) ≡ words_of k n (set bs (k * i + j) b)
unfolding words_of
flag_at k zero bs e b i j h l = absurd (omega arith)
flag_at k (suc n) bs e b zero j h l =
    let at : k * zero + j ≡ j = omega (arith, mul-zero k) in
    rw (at, first-flags k n bs e, take-set-lt k bs j b l, drop-set-lt k bs j b l)
flag_at k (suc n) bs e b (suc i) j h l =
    let at : k * suc i + j ≡ k + (k * i + j) = omega (arith, mul-suc k i) in
    rw (at, take-set-le k bs (k + (k * i + j)) b (omega arith), drop-set-add k bs (k * i + j) b)
    (ap (λ (ws : List ℕ). word (take k bs) ∷ ws) (flag_at k n (drop k bs) (rest_long k n bs e) b i j (omega arith) l))

pub occupancy-by_words : OccupancyByWords
unfolding with_flag
occupancy-by_words k n bs some e = record {
  flags = flags-words k n bs e;
  lowest = ap lowest_free (flags-words k n bs e);
  count = ap used (flags-words k n bs e);
  change = λ b at h.
      flag_at k n bs e b (at / k) (at % k) ((div-lt_iff_lt-mul some).1 (omega (arith, e))) (mod-lt at some)
      ∙ ap (λ (p : ℕ). words_of k n (set bs p b)) (div-add-mod at k);
}

-- as the code goes from word to word
used-append : (xs ys : List Bool) → used (xs ++ ys) ≡ used xs + used ys
unfolding used
used-append [] ys = omega arith
used-append (x ∷ xs) ys = omega (arith, used-append xs ys)

-- the used places of words are those of each
pub used_by_words : (k : ℕ) (ws : List ℕ) → used (flags_of k ws) ≡ sum_by (λ w. used (flags k w)) ws
unfolding used flags_of
used_by_words k [] = refl
used_by_words k (w ∷ ws) = used-append (flags k w) (flags_of k ws) ∙ rw (used_by_words k ws) (sym (sum_by-cons (λ w. used (flags k w)) w ws))

lowest-here : (xs ys : List Bool) → lowest_free xs < length xs → lowest_free (xs ++ ys) ≡ lowest_free xs
unfolding lowest_free
lowest-here [] ys h = omega arith
lowest-here (true ∷ xs) ys h = ap suc (lowest-here xs ys (omega arith))
lowest-here (false ∷ xs) ys h = refl

lowest-past : (xs ys : List Bool) → length xs ≤ lowest_free xs → lowest_free (xs ++ ys) ≡ length xs + lowest_free ys
unfolding lowest_free
lowest-past [] ys h = omega arith
lowest-past (true ∷ xs) ys h = omega (arith, lowest-past xs ys (omega arith))
lowest-past (false ∷ xs) ys h = omega arith

-- a loop over words of k bits, at word i
module _ (k : ℕ) (ws : List ℕ) (i : ℕ) (here : i < length ws) where
  abbrev at : List Bool
  at = flags k (get_or ws i 0)

  next : flags_of k (drop i ws) ≡ at ++ flags_of k (drop (i + 1) ws)
  unfolding flags_of
  next = rw (add-one, drop-cons ws i 0 here)

  -- the word has a free place
  pub lowest_found : lowest_free at < k → lowest_free (flags_of k (drop i ws)) ≡ lowest_free at
  lowest_found h = ap lowest_free next ∙ lowest-here at _ (omega (arith, length-flags k (get_or ws i 0)))

  -- it has none
  pub lowest_full : k ≤ lowest_free at → lowest_free (flags_of k (drop i ws)) ≡ k + lowest_free (flags_of k (drop (i + 1) ws))
  lowest_full h = ap lowest_free next ∙ lowest-past at _ (omega (arith, length-flags k (get_or ws i 0))) ∙ ap (λ (n : ℕ). n + lowest_free (flags_of k (drop (i + 1) ws))) (length-flags k (get_or ws i 0))

-- behind the last word there is no place
pub lowest_none : (k : ℕ) (ws : List ℕ) (i : ℕ) → length ws ≤ i → lowest_free (flags_of k (drop i ws)) ≡ 0
unfolding flags_of lowest_free
lowest_none k ws i h = rw (drop_of_length-le ws {i = i} h)
