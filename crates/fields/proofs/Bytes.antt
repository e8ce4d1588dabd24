-- Facts about big-endian numbers, each stated over how many bytes there are or over their list, and about lists of eight-byte numbers.
-- Assumes nothing.
use mathlib.Core.Path.{◌≡◌, refl, sym, ap, ◌∙◌}
use mathlib.Core.List.{List, [], ◌∷◌, ◌++◌, append_assoc, append-nil}
use Prim.Native.Nat.{ℕ, zero, suc, ◌+◌, ◌-◌, ◌*◌, ◌^◌, ◌/◌, ◌%◌, ◌≤◌, ◌<◌}
use native.Mathlib.Nat.{add-zero, zero-add, zero-mul, add-mul, mul_assoc, mul_comm, pow-suc, pow-le-pow_right, lt_of_lt_of_le, mod-lt, mod-one, mod-eq_of_lt, div-div-eq-div-mul}
use native.Mathlib.Numerals.{add-one}
use native.Mathlib.Omega.{arith}
use lib.Arith.{digits_div, digits_mod, mod-mul}
use lib.Dec.{lit<}
use lib.ListN.{length, get_or, take, drop, drop_of_length-le, length-append, length-drop}
use lib.Seq.{take-suc, drop-cons, drop-drop, take_at, drop_at, take-add, get_or-drop, length-take-le}
use Rattle.std.specs.Int.{byte_at, bytes_high_first}
use Rattle.fields.specs.Bytes.{be, value_from, value_of, kept64, words, words_of}

-- ---- numbers that are all below a bound: bytes below 256, words below 2 ^ 64

abbrev pub Below : ℕ → List ℕ → Type 0
Below m l = (i : ℕ) → get_or l i 0 < m

pub below-drop : (m k : ℕ) (l : List ℕ) → Below m l → Below m (drop k l)
below-drop m k l h i = rw get_or-drop (h (k + i))

pub below-take : (m k : ℕ) (l : List ℕ) → Below m l → Below m (take k l)
below-take m zero l h i = omega (arith, h i)
below-take m (suc k) [] h i = h i
below-take m (suc k) (b ∷ l) h zero = h zero
below-take m (suc k) (b ∷ l) h (suc i) = below-take m k l (λ j. h (suc j)) i

pub below-append : (m : ℕ) (l r : List ℕ) → Below m l → Below m r → Below m (l ++ r)
below-append m [] r h k i = k i
below-append m (b ∷ l) r h k zero = h zero
below-append m (b ∷ l) r h k (suc i) = below-append m l r (λ j. h (suc j)) k i

-- ---- the bytes of a number

pub length-be : (w n : ℕ) → length (be w n) ≡ w
unfolding be
length-be zero n = refl
length-be (suc w) n = length-append (be w (n / 256)) (n % 256 ∷ []) ∙ ap (λ (k : ℕ). k + 1) (length-be w (n / 256)) ∙ add-one w

-- where there are any, the last is what remains by 256
pub be-last : (w n : ℕ) → 0 < w → be w n ≡ be (w - 1) (n / 256) ++ n % 256 ∷ []
unfolding be
be-last zero n h = absurd (omega arith)
be-last (suc w) n h =
    let e : suc w - 1 ≡ w = omega arith in
    rw e refl

-- the library's bytes of a number, the highest first, are these
byte_next : (w n : ℕ) → byte_at (suc w) n ≡ byte_at w (n / 256)
byte_next zero n = refl
byte_next (suc w) n = rw (pow-suc 256 (suc w), mul_comm (256 ^ suc w) 256, div-div-eq-div-mul)

byte_last : (w n : ℕ) → bytes_high_first (suc w) n ≡ bytes_high_first w (n / 256) ++ n % 256 ∷ []
byte_last zero n = refl
byte_last (suc w) n = rw (byte_next w n) (ap (λ (l : List ℕ). byte_at w (n / 256) ∷ l) (byte_last w n))

pub high_first : (w n : ℕ) → bytes_high_first w n ≡ be w n
unfolding be
high_first zero n = refl
high_first (suc w) n = byte_last w n ∙ ap (λ (l : List ℕ). l ++ n % 256 ∷ []) (high_first w (n / 256))

one_byte : (b : ℕ) → b < 256 → Below 256 (b ∷ [])
one_byte b h zero = h
one_byte b h (suc i) = lit< tt

pub be-below : (w n : ℕ) → Below 256 (be w n)
unfolding be
be-below zero n = λ i. lit< tt
be-below (suc w) n = below-append 256 (be w (n / 256)) (n % 256 ∷ []) (be-below w (n / 256)) (one_byte (n % 256) (omega arith))

-- ---- reading undoes writing

pub value-append : (n : ℕ) (l r : List ℕ) → value_from n (l ++ r) ≡ value_from (value_from n l) r
unfolding value_from
value-append n [] r = refl
value-append n (b ∷ l) r = value-append (n * 256 + b) l r

-- ---- bytes from a place on, in two halves

value_shift : (n : ℕ) (l : List ℕ) → value_from n l ≡ n * 256 ^ length l + value_of l
unfolding value_from
value_shift n [] = omega arith
value_shift n (b ∷ l) =
    let p = 256 ^ length l in
    let more : 256 ^ suc (length l) ≡ p * 256 = pow-suc 256 (length l) in
    let front : n * 256 * p ≡ n * (p * 256) = mul_assoc n 256 p ∙ ap (λ (k : ℕ). n * k) (mul_comm 256 p) in
    rw (value_shift (n * 256 + b) l, value_shift (0 * 256 + b) l, more, add-mul, zero-mul, zero-add) (omega (arith, front))

pub value-one : (at : ℕ) (s : List ℕ) → at < length s → value_of (take 1 (drop at s)) ≡ get_or s at 0
unfolding value_from
value-one at s h = rw (drop-cons s at 0 h) (zero-add (get_or s at 0))

module _ (at : ℕ) (s : List ℕ) where
  pub value_halves : (k m : ℕ) → at + k + m ≤ length s → value_of (take (k + m) (drop at s)) ≡ value_of (take k (drop at s)) * 256 ^ m + value_of (take m (drop (at + k) s))
  value_halves k m h =
      rw (take-add k m (drop at s), value-append, value_shift (value_of (take k (drop at s))), drop-drop k at s, length-take-le m (drop (at + k) s) (omega (arith, length-drop (at + k) s)))

  pub value_two : at + 2 ≤ length s → value_of (take 2 (drop at s)) ≡ get_or s at 0 * 256 + get_or s (at + 1) 0
  value_two h = value_halves 1 1 (omega arith) ∙ rw (value-one at s (omega arith), value-one (at + 1) s (omega arith))

pub value_four : (at : ℕ) (s : List ℕ) → at + 4 ≤ length s
    → value_of (take 4 (drop at s)) ≡ get_or s at 0 * 16777216 + get_or s (at + 1) 0 * 65536 + get_or s (at + 2) 0 * 256 + get_or s (at + 3) 0
value_four at s h =
    let next : at + 2 + 1 ≡ at + 3 = omega arith in
    omega (arith, value_halves at s 2 2 (omega arith), value_two at s (omega arith), value_two (at + 2) s (omega arith), ap (λ (i : ℕ). get_or s i 0) next)

power_pos : (w : ℕ) → 0 < 256 ^ w
power_pos w = pow-le-pow_right (lit< tt) {i = 0} {j = w} (omega arith)

-- the last w bytes of a number say what remains of it by 256 ^ w
pub value-be : (w n : ℕ) → value_of (be w n) ≡ n % 256 ^ w
unfolding be value_from
value-be zero n = sym (mod-one n)
value-be (suc w) n = rw (value-append, value-be w (n / 256), pow-suc) (sym (mod-mul n (power_pos w) (lit< tt)))

pub value-be-fits : (w n : ℕ) → n < 256 ^ w → value_of (be w n) ≡ n
value-be-fits w n h = value-be w n ∙ mod-eq_of_lt h

-- ---- and writing undoes reading

-- the bytes behind others that said n
be-value_from : (w n : ℕ) (l : List ℕ) → Below 256 l → be (w + length l) (value_from n l) ≡ be w n ++ l
unfolding be value_from
be-value_from w n [] h = rw (add-zero, append-nil)
be-value_from w n (b ∷ l) h =
    let turn : w + length (b ∷ l) ≡ suc w + length l = omega arith in
    rw (turn, be-value_from (suc w) (n * 256 + b) l (λ i. h (suc i)), digits_div n (h zero), digits_mod n (h zero), append_assoc)

pub be-value : (l : List ℕ) → Below 256 l → be (length l) (value_of l) ≡ l
unfolding be
be-value l h = rw zero-add at (be-value_from 0 0 l h)

pub value-below : (l : List ℕ) → Below 256 l → value_of l < 256 ^ length l
value-below l h =
    let same : value_of l ≡ value_of l % 256 ^ length l = ap value_of (sym (be-value l h)) ∙ value-be (length l) (value_of l) in
    rw same (mod-lt (value_of l) (power_pos (length l)))

-- ---- what a 64-bit register keeps

pub kept : (n : ℕ) → n < 2 ^ 64 → kept64 n ≡ n
kept n h = mod-eq_of_lt h

-- of at most eight bytes it keeps all
pub kept-value : (l : List ℕ) → Below 256 l → length l ≤ 8 → kept64 (value_of l) ≡ value_of l
kept-value l h few = kept (value_of l) (lt_of_lt_of_le (value-below l h) (pow-le-pow_right (lit< tt) few))

-- one byte more, behind what was kept of the bytes before it
pub kept_byte : (n b : ℕ) → b < 256 → kept64 n % 72057594037927936 * 256 + b ≡ kept64 (n * 256 + b)
kept_byte n b h = omega arith

pub value_more : (l : List ℕ) (i : ℕ) → i < length l → value_of (take (i + 1) l) ≡ value_of (take i l) * 256 + get_or l i 0
unfolding value_from
value_more l i h = rw (add-one, take-suc l i 0 h, value-append)

-- ---- numbers of eight bytes

-- a part that is put behind others ends where the next begins
pub take_next : (p x rest : List ℕ) (n : ℕ) → length p + length x ≡ n → take n (p ++ (x ++ rest)) ≡ p ++ x
take_next p x rest n e = rw (← append_assoc) (take_at (p ++ x) rest n (length-append p x ∙ e))

pub length-words : (l : List ℕ) → length (words l) ≡ 8 * length l
unfolding words
length-words [] = refl
length-words (n ∷ l) = omega (arith, length-append (be 8 n) (words l), length-be 8 n, length-words l)

-- the numbers from i on begin with the one at i
pub words-from : (l : List ℕ) (i : ℕ) → i < length l → words (drop i l) ≡ be 8 (get_or l i 0) ++ words (drop (i + 1) l)
unfolding words
words-from l i h = rw (add-one, drop-cons l i 0 h)

pub words_end : (l : List ℕ) (i : ℕ) → length l ≤ i → words (drop i l) ≡ []
unfolding words
words_end l i h = rw (drop_of_length-le l h)

pub words_of-from : (k i : ℕ) (bs : List ℕ) → i < k → words_of (k - i) (drop (8 * i) bs) ≡ kept64 (value_of (take 8 (drop (8 * i) bs))) ∷ words_of (k - (i + 1)) (drop (8 * (i + 1)) bs)
unfolding words_of
words_of-from k i bs h =
    let more : k - i ≡ suc (k - (i + 1)) = omega arith in
    let place : 8 * i + 8 ≡ 8 * (i + 1) = omega arith in
    rw (more, drop-drop 8 (8 * i) bs, place)

pub words_of_end : (k i : ℕ) (bs : List ℕ) → k ≤ i → words_of (k - i) bs ≡ []
unfolding words_of
words_of_end k i bs h =
    let none : k - i ≡ 0 = omega arith in
    rw none

pub length-words_of : (k : ℕ) (bs : List ℕ) → length (words_of k bs) ≡ k
unfolding words_of
length-words_of zero bs = refl
length-words_of (suc k) bs = ap suc (length-words_of k (drop 8 bs))

pub words_of-below : (k : ℕ) (bs : List ℕ) → Below (2 ^ 64) (words_of k bs)
unfolding words_of
words_of-below zero bs i = lit< tt
words_of-below (suc k) bs zero = mod-lt (value_of (take 8 bs)) (lit< tt)
words_of-below (suc k) bs (suc i) = words_of-below k (drop 8 bs) i

pub words_of-words : (l rest : List ℕ) → Below (2 ^ 64) l → words_of (length l) (words l ++ rest) ≡ l
unfolding words words_of
words_of-words [] rest h = refl
words_of-words (n ∷ l) rest h =
    let long = length-be 8 n in
    let first : kept64 (value_of (be 8 n)) ≡ n = rw (value-be-fits 8 n (h zero)) (kept n (h zero)) in
    rw (append_assoc, take_at (be 8 n) (words l ++ rest) 8 long, drop_at (be 8 n) (words l ++ rest) 8 long, first, words_of-words l rest (λ i. h (suc i)))

pub words-words_of : (k : ℕ) (bs : List ℕ) → Below 256 bs → 8 * k ≤ length bs → words (words_of k bs) ≡ take (8 * k) bs
unfolding words words_of
words-words_of zero bs h room = refl
words-words_of (suc k) bs h room =
    let long : length (take 8 bs) ≡ 8 = length-take-le 8 bs (omega arith) in
    let bytes = below-take 256 8 bs h in
    let first : be 8 (value_of (take 8 bs)) ≡ take 8 bs = rw long at (be-value (take 8 bs) bytes) in
    let turn : 8 * suc k ≡ 8 + 8 * k = omega arith in
    rw (turn, take-add 8 (8 * k) bs, kept-value (take 8 bs) bytes (omega arith), first, words-words_of k (drop 8 bs) (below-drop 256 8 bs h) (omega (arith, length-drop 8 bs)))
