-- Numbers that fit their widths, as the types have it: the claims of RoundTrip.antt speak of lists of the prover, which have no such bound of their own.
-- Assumes nothing.
use Rattle.std.specs.Prelude.{Bool, true, false, ◌&&◌, List, [], ◌∷◌, ℕ, ◌^◌, leb, ltb}
use Rattle.rules.specs.Lists.{all}

-- no width is above eight bytes
abbrev pub narrow : List ℕ → Bool
narrow ws = all (λ w. leb w 8) ws

-- as many numbers as widths, each in its own
unfoldable pub fits : List ℕ → List ℕ → Bool
fits [] [] = true
fits [] (n ∷ ns) = false
fits (w ∷ ws) [] = false
fits (w ∷ ws) (n ∷ ns) = ltb n (256 ^ w) && fits ws ns
