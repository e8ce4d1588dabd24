-- `image::entries::spot_at` meets its contract: what stands there is what the row's numbers say. Assumes nothing.
use Rattle.std.proofs.Common.{sym, ap, ◌∙◌}
use Rattle.image.specs.Rows.{present}
use Rattle.image.specs.Format.{object_row}
use Rattle.image.specs.Reading.{object_in}
use Rattle.image.proofs.RowLaws.{row_bad, row_is}
use Rattle.image.proofs.Things.{spot_none, spot_row}
use Rattle.image.proofs.entries.spot_at.Goals as goal

pub returns-in_err-head-clause-is : goal.returns-in_err-head-clause-is
returns-in_err-head-clause-is c = c.from_residual.ensures ∙ sym (spot_none c.args.place c.args.s.now (row_bad object_row c.args.s.now (sym c.in_err-head.ensures.is)))

pub returns-clause-is : goal.returns-clause-is
returns-clause-is c =
    let s = c.args.s.now in
    let n = c.in_ok-head.field-0 in
    c.object_in.ensures ∙ ap (λ ns. object_in c.args.place (record { numbers = ns; names = (present object_row s n).value.names })) c.object_columns.ensures
    ∙ sym (spot_row c.args.place s (present object_row s n) (row_is object_row s n (sym c.in_ok-head.ensures.is)))
