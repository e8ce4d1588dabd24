-- What a sale charges (document 02, request 2): "the smallest whole number that, times the denominator, is at least fare times numerator".
-- That it is the smallest is claimed here and proved in proofs/Rounding.antt. Assumes nothing.
use Rattle.std.specs.Prelude.{◌≡◌, ℕ, ◌+◌, ◌*◌, ◌-◌, ◌/◌, ◌≤◌, ◌<◌}

-- "a fare of 0 to 1,000,000 home units"
abbrev pub largest_fare : ℕ
largest_fare = 1000000

-- the fare times the rate, rounded up
unfoldable pub charge_of : ℕ → ℕ → ℕ → ℕ
charge_of fare numerator denominator = (fare * numerator + (denominator - 1)) / denominator

-- enough, and the smallest that is
pub record Smallest (fare numerator denominator charge : ℕ) : Type 0 where
  pub enough : fare * numerator ≤ charge * denominator
  pub least : (other : ℕ) → fare * numerator ≤ other * denominator → charge ≤ other

pub record ChargeIsSmallest : Type 0 where
  pub smallest : (fare numerator denominator : ℕ) → 0 < denominator → Smallest fare numerator denominator (charge_of fare numerator denominator)
  -- no other number is
  pub only : (fare numerator denominator charge : ℕ) → 0 < denominator → Smallest fare numerator denominator charge → charge ≡ charge_of fare numerator denominator
  -- "Fare 250 at 11/10 is 275; fare 100 at 1/3 is 34."
  pub first : charge_of 250 11 10 ≡ 275
  pub second : charge_of 100 1 3 ≡ 34
