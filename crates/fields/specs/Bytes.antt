-- Big-endian numbers in any number of bytes, and lists of them.
-- Assumes nothing.
use Rattle.std.specs.Prelude.{List, [], ◌∷◌, ◌++◌, ℕ, zero, suc, ◌+◌, ◌*◌, ◌/◌, ◌%◌, ◌^◌, take, drop}

-- the last w bytes of n, the most significant first
unfoldable pub be : ℕ → ℕ → List ℕ
be zero n = []
be (suc w) n = be w (n / 256) ++ (n % 256) ∷ []

-- the number that the bytes say behind others that said n
unfoldable pub value_from : ℕ → List ℕ → ℕ
value_from n [] = n
value_from n (b ∷ bs) = value_from (n * 256 + b) bs

abbrev pub value_of : List ℕ → ℕ
value_of bs = value_from 0 bs

-- what of a number a 64-bit register keeps; of eight bytes it is all
abbrev pub kept64 : ℕ → ℕ
kept64 n = n % 2 ^ 64

-- numbers of eight bytes, one behind the other
unfoldable pub words : List ℕ → List ℕ
words [] = []
words (n ∷ ns) = be 8 n ++ words ns

-- the first k numbers of eight bytes
unfoldable pub words_of : ℕ → List ℕ → List ℕ
words_of zero bs = []
words_of (suc k) bs = kept64 (value_of (take 8 bs)) ∷ words_of k (drop 8 bs)
