-- `image::rows::Form::put` meets its contract: the head, the numbers behind it, and the names behind those. Assumes nothing.
use Rattle.std.proofs.Common.{◌≡◌, length, refl, ◌∙◌, arith, rules}
use Rattle.fields.specs.Bytes.{words}
use Rattle.fields.proofs.Bytes.{length-words}
use Rattle.image.specs.Rows.{bare}
use Rattle.image.proofs.RowLaws.{length-bare, filled_row}
use Rattle.image.proofs.rows.Form.put.Goals as goal

pub returns : goal.returns
returns g c =
    let a = c.args in
    let form = a.self.now in
    let many : length form.widths ≡ length a.numbers.now = search rules in
    filled_row form.tag (bare form.widths a.numbers.now) (words a.names.now) a.out.now c.put_head.new.out c.put_columns.new.out c.put_words.new.out form.width
    (length-bare form.widths a.numbers.now many ∙ form.adds) (omega (arith, length-words a.names.now, c.requires)) c.put_head.ensures c.put_columns.ensures c.put_words.ensures _ refl
