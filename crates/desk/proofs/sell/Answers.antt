-- `desk::sell` meets its contract: a sheet that is read is well formed. Assumes nothing.
use Rattle.std.proofs.Common.{sym, arith, ◌∙◌}
use Rattle.sheets.proofs.Reading.{read-formed}
use Rattle.desk.proofs.sell.Goals as goal

pub sold-requires : goal.sold-requires
sold-requires c = (omega (arith, c.if-fare-gt-LARGEST_FARE.false), read-formed _ _ (sym c.read_sheet.ensures ∙ c.in-Some.is))
