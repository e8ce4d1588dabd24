-- `desk::charge` meets its contract: the bounds of the fare and of the sheet keep the product within 64 bits. Assumes nothing.
use Rattle.std.proofs.Common.{arith, ◌∙◌}
use Rattle.desk.proofs.Rounding.{product_bound, rate_bounds, rounded_up}
use Rattle.desk.proofs.charge.Goals as goal

pub overflow_mul-fare : goal.overflow_mul-fare
overflow_mul-fare c = let a = c.args in record { fits = omega (arith, product_bound a.fare a.sheet c.requires.0 c.requires.1) }

pub div_ceil-requires : goal.div_ceil-requires
div_ceil-requires c = (rate_bounds c.args.sheet c.requires.1).1.0

pub returns : goal.returns
returns c =
    let a = c.args in
    c.div_ceil.ensures ∙ rounded_up a.fare a.sheet.numerator a.sheet.denominator (rate_bounds a.sheet c.requires.1).1.0
