-- `sheets::write_sheet` meets its contract: a sheet that is well formed is written as its record, where there is room for it. Assumes nothing.
use Rattle.std.proofs.Common.{length, arith}
use borrow.Author.Tests.{lt-ltb}
use Rattle.sheets.specs.Sheets.{encode_sheet}
use Rattle.sheets.proofs.RoundTrip.{sheet_round_trip}
use Rattle.sheets.proofs.write_sheet.Goals as goal

pub returns-then-out-lt-SHEET : goal.returns-then-out-lt-SHEET
returns-then-out-lt-SHEET c =
    let a = c.args in
    rw (← c.if-not-is_formed.ensures, lt-ltb (length a.out.now) (length (encode_sheet a.sheet)) (omega (arith, c.if-out-lt-SHEET.true, sheet_round_trip.size a.sheet)))
