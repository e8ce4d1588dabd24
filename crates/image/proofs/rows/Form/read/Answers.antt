-- `image::rows::Form::read` meets its contract: what is read stands as the code has it. Assumes nothing.
use Rattle.std.proofs.Common.{◌≡◌, ℕ, ◌+◌, ◌-◌, ◌/◌, Some, sym, ap, ◌∙◌, drop}
use Rattle.fields.proofs.Bytes.{length-words_of}
use Rattle.image.proofs.Laying.{tail}
use Rattle.image.specs.Rows.{total, numbers_of, row_head}
use Rattle.image.specs.Code.{format_of, found_line}
use Rattle.image.proofs.RowLaws.{row_bad, row_is}
use Rattle.image.proofs.rows.Form.read.Goals as goal

pub returns-in_err-size-clause-is : goal.returns-in_err-size-clause-is
returns-in_err-size-clause-is g c =
    let f = c.args.self.now in
    c.from_residual.ensures ∙ ap found_line (sym (row_bad (format_of f) c.args.s.now (ap (λ (w : ℕ). row_head f.tag w f.names c.args.s.now) f.adds ∙ sym c.in_err-size.ensures.is)))

pub returns-clause-is : goal.returns-clause-is
returns-clause-is g c =
    let f = c.args.self.now in
    let s = c.args.s.now in
    let n = c.in_ok-size.size in
    let numbers : c.read_columns.new.numbers ≡ numbers_of f.widths (drop 3 s) = c.read_columns.ensures ∙ ap (numbers_of f.widths) (tail 3 s) in
    let count : (n - f.width) / 8 ≡ (n - total f.widths) / 8 = ap (λ (t : ℕ). (n - t) / 8) (sym f.adds) in
    (λ i. Some (record { value = record { numbers = numbers i; names = (count ∙ sym (length-words_of ((n - total f.widths) / 8) (drop (3 + total f.widths) s))) i }; size = 3 + n }))
    ∙ ap found_line (sym (row_is (format_of f) s n (ap (λ (w : ℕ). row_head f.tag w f.names s) f.adds ∙ sym c.in_ok-size.ensures.is)))
