-- `image::rows::Form::head` meets its contract: the tests are those of the definition. Assumes nothing.
use Rattle.std.proofs.Common.{sym, ◌∙◌, arith}
use Rattle.fields.proofs.Fields.{head_read}
use Rattle.image.proofs.RowLaws.{head_bad, head-short, head_odd, head_many, head-good}
use Rattle.image.proofs.rows.Form.head.Goals.{then-rest-ne0-via-then-rest-ne0, then-rest-ne0-via-else-rest-ne0+then-self-rest}
use Rattle.image.proofs.rows.Form.head.Goals as goal

pub returns-in_err-size-clause-is : goal.returns-in_err-size-clause-is
returns-in_err-size-clause-is g c = c.from_residual.ensures ∙ sym (head_bad _ _ _ _ (sym c.in_err-size.ensures))

pub returns-in_err-rest-clause-is : goal.returns-in_err-rest-clause-is
returns-in_err-rest-clause-is g c = c.from_residual-in_err-rest.ensures ∙ sym (head-short _ _ _ _ _ (sym c.in_ok-size.ensures) (omega (arith, c.in_err-rest.ensures)))

pub returns-then-rest-ne0-clause-is : goal.returns-then-rest-ne0-clause-is
returns-then-rest-ne0-clause-is g c =
    let rest = c.in_ok-rest.ensures in
    elim c.then-rest-ne0.branch [
      | then-rest-ne0-via-then-rest-ne0 w ↦ sym (head_odd _ _ _ _ _ (sym c.in_ok-size.ensures) (rw rest.1 at w.if-rest-ne0.true))
      | then-rest-ne0-via-else-rest-ne0+then-self-rest w ↦ sym (head_many _ _ _ _ _ (sym c.in_ok-size.ensures) (omega (arith, rest.1, w.if-self-rest.true)))
    ]

pub returns-clause-is : goal.returns-clause-is
returns-clause-is g c =
    let rest = c.in_ok-rest.ensures in
    sym (head-good _ _ _ _ _ (sym c.in_ok-size.ensures) rest.0 (rw rest.1 at c.if-rest-ne0.false) (omega (arith, rest.1, c.if-self-rest.false)))

pub returns-clause-room : goal.returns-clause-room
returns-clause-room g c = (head_read _ _ _ (sym c.in_ok-size.ensures)).2
