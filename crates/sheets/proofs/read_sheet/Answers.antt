-- `sheets::read_sheet` meets its contract: the tests are those of the definition, and the walk finds what it says.
-- Assumes nothing.
use Rattle.std.proofs.Common.{◌≡◌, ◌∙◌, ◌-◌, length, take, drop, get_or, sym, ap, ap₂}
use Rattle.std.proofs.lemmas.List.{take_rest}
use borrow.Author.Tests.{eq-eqb, ne_eqb}
use Rattle.records.specs.Found.{found_by, placed_all}
use Rattle.records.specs.Walk.{walk}
use Rattle.sheets.specs.Sheets.{sheet_tag, sheet_fields, blank_sheet, sheet_of_walk, decode_sheet}
use Rattle.sheets.proofs.Reading.{decode-torn, decode-other, decode-whole, sheet_placed}
use Rattle.sheets.proofs.read_sheet.Goals.{After-walk, then-not-is_whole-via-then-not-is_whole, then-not-is_whole-via-else-not-is_whole+then-bytes-ne-SHEET_TAG}
use Rattle.sheets.proofs.read_sheet.Goals as goal

pub returns-then-not-is_whole : goal.returns-then-not-is_whole
returns-then-not-is_whole c =
    let bs = c.args.bytes.now in
    elim c.then-not-is_whole.branch [
      | then-not-is_whole-via-then-not-is_whole w ↦ sym (decode-torn bs (sym c.is_whole.ensures ∙ w.if-not-is_whole.true))
      | then-not-is_whole-via-else-not-is_whole+then-bytes-ne-SHEET_TAG w ↦ sym (decode-other bs (ne_eqb (get_or bs 0 0) sheet_tag w.if-bytes-ne-SHEET_TAG.true))
    ]

-- what the walk finds says the sheet that the bytes are
walked : (c : After-walk) → let bs = c.args.bytes.now in sheet_of_walk (found_by c.walk.result (take (length bs - 3) (drop 3 bs))) ≡ decode_sheet bs
walked c =
    let bs = c.args.bytes.now in
    let decoded = decode-whole bs (sym c.is_whole.ensures ∙ c.if-not-is_whole.false) (eq-eqb (get_or bs 0 0) sheet_tag c.if-bytes-ne-SHEET_TAG.false) in
    ap sheet_of_walk (c.walk.ensures.found ∙ ap placed_all (ap₂ walk c.sheet_fields.ensures (take_rest bs 3))) ∙ sheet_placed (walk (sheet_fields blank_sheet) (drop 3 bs)) ∙ sym decoded

pub returns-in_err-w : goal.returns-in_err-w
returns-in_err-w c = c.from_residual.ensures ∙ rw c.in_err-w.was at (walked (goal.at.returns-in_err-w c).After-walk)

pub returns : goal.returns
returns c = c.sheet_from.ensures ∙ rw c.in_ok-w.was at (walked (goal.at.returns c).After-walk)
