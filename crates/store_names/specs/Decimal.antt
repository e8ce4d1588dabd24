-- Numbers in a fixed number of decimal digits, in ASCII, the most significant first.
-- Assumes nothing.
use Rattle.std.specs.Prelude.{Bool, true, cond, ◌&&◌, List, [], ◌∷◌, ◌++◌, ℕ, zero, suc, ◌+◌, ◌-◌, ◌*◌, ◌/◌, ◌%◌, leb, Option, Some, None}

-- the largest number that a name may have
abbrev pub largest : ℕ
largest = 18446744073709551615

-- 0 is the byte 48, 9 the byte 57
abbrev pub is_digit : ℕ → Bool
is_digit b = leb 48 b && leb b 57

unfoldable pub all_digits : List ℕ → Bool
all_digits [] = true
all_digits (b ∷ bs) = is_digit b && all_digits bs

-- the number that the digits say behind others that said n
unfoldable pub value_from : ℕ → List ℕ → ℕ
value_from n [] = n
value_from n (b ∷ bs) = value_from (n * 10 + (b - 48)) bs

-- the last k digits of n, zeros in front
unfoldable pub digits : ℕ → ℕ → List ℕ
digits zero n = []
digits (suc k) n = digits k (n / 10) ++ (48 + n % 10) ∷ []

-- the number that the bytes say behind digits that said n: all of them are digits, and it isn't above the largest
unfoldable pub decimal_from : ℕ → List ℕ → Option ℕ
decimal_from n bs = cond (all_digits bs && leb (value_from n bs) largest) (Some (value_from n bs)) None

abbrev pub decimal : List ℕ → Option ℕ
decimal bs = decimal_from 0 bs
