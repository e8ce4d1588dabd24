-- The charge is the smallest whole number that is enough, and stays within 64 bits. Assumes nothing.
use mathlib.Core.Path.{◌≡◌, refl}
use mathlib.Core.Bool.{true}
use mathlib.Core.List.{[], ◌∷◌}
use Prim.Native.Nat.{ℕ, suc, ◌+◌, ◌*◌, ◌-◌, ◌≤◌, ◌<◌}
use native.Mathlib.Nat.{suc-mul, mul-le-mul, mul-le-mul_right, lt-div-mul-add, div-lt_iff_lt-mul}
use native.Mathlib.Omega.{arith}
use lib.Dec.{eqb, leb}
use mathlib.Core.Logic.{⊎_elim}
use Rattle.std.proofs.lemmas.Bool.{cases_lt}
use Rattle.std.proofs.lemmas.Grind.{div_ceil_times}
use Rattle.std.specs.Int.{div_ceil}
use borrow.Author.Tests.{leb-true, eqb-false, not-true}
use Rattle.rules.specs.Limits.{currency_limit}
use Rattle.rules.specs.Table.{nonzero}
use Rattle.rules.proofs.Lists.{and_left, and_right, conj-true}
use Rattle.sheets.specs.declared.Sheet.{Sheet}
use Rattle.sheets.specs.Sheets.{largest_rate, is_rate, sheet_formed}
use Rattle.desk.specs.Charge.{largest_fare, charge_of, Smallest, ChargeIsSmallest}

smallest : (fare numerator denominator : ℕ) → 0 < denominator → Smallest fare numerator denominator (charge_of fare numerator denominator)
unfolding charge_of
smallest fare n d some =
    let most = fare * n + (d - 1) in
    record {
      enough = omega (arith, lt-div-mul-add {a = most} {b = d} some);
      least = λ k h. let under = (div-lt_iff_lt-mul {k = d} {x = most} {y = suc k} some).1 (omega (arith, suc-mul k d)) in omega arith;
    }

pub charge-smallest : ChargeIsSmallest
unfolding charge_of
charge-smallest = record {
  smallest = smallest;
  only = λ fare n d charge some s.
      let t = smallest fare n d some in
      let up = s.least (charge_of fare n d) t.enough in
      let down = t.least charge s.enough in
      omega arith;
  first = refl;
  second = refl;
}

-- the library's division that rounds up
pub rounded_up : (fare numerator denominator : ℕ) → 0 < denominator → div_ceil (fare * numerator) denominator ≡ charge_of fare numerator denominator
rounded_up fare n d some =
    let up = div_ceil (fare * n) d in
    let times = div_ceil_times (fare * n) d some in
    charge-smallest.only fare n d up some (record {
      enough = times.0;
      least = λ k h. ⊎_elim (λ more. absurd (omega (arith, times.1, suc-mul k d, mul-le-mul_right d more))) (λ most. most) (cases_lt k up);
    })

-- ---- the bounds that a well-formed sheet has

rate_bound : (n : ℕ) → is_rate n ≡ true → (0 < n) × (n ≤ largest_rate)
rate_bound n h =
    let zero = eqb-false n 0 (not-true (eqb n 0) (and_left (nonzero n) (leb n largest_rate) h)) in
    (omega (arith, zero), leb-true n largest_rate (and_right (nonzero n) (leb n largest_rate) h))

pub rate_bounds : (s : Sheet) → sheet_formed s ≡ true → ((0 < s.numerator) × (s.numerator ≤ largest_rate)) × ((0 < s.denominator) × (s.denominator ≤ largest_rate))
unfolding sheet_formed
rate_bounds s h =
    let t = conj-true (nonzero s.object ∷ nonzero s.currency ∷ leb s.currency currency_limit ∷ is_rate s.numerator ∷ is_rate s.denominator ∷ []) h in
    (rate_bound s.numerator t.1.1.1.0, rate_bound s.denominator t.1.1.1.1.0)

pub product_bound : (fare : ℕ) (s : Sheet) → fare ≤ largest_fare → sheet_formed s ≡ true → fare * s.numerator ≤ 1000000000000000
product_bound fare s few h = mul-le-mul few (rate_bounds s h).0.1
