-- `verdicts::read_verdict` meets its contract: the tests are those of the definition, and the walk finds what it says.
-- Assumes nothing.
use Rattle.std.proofs.Common.{◌≡◌, ◌∙◌, ◌-◌, length, take, drop, get_or, sym, ap, ap₂}
use Rattle.std.proofs.lemmas.List.{take_rest}
use borrow.Author.Tests.{eq-eqb, ne_eqb}
use Rattle.records.specs.Found.{found_by, placed_all}
use Rattle.records.specs.Walk.{walk}
use Rattle.verdicts.specs.Verdicts.{verdict_tag, verdict_fields, reply_of_walk, decode_verdict, verdict_read}
use Rattle.verdicts.proofs.Tables.{reply_placed}
use Rattle.verdicts.proofs.Replies.{decode-torn, decode-other, decode-whole}
use Rattle.verdicts.proofs.read_verdict.Goals.{After-walk, then-not-is_whole-via-then-not-is_whole, then-not-is_whole-via-else-not-is_whole+then-bytes-ne-VERDICT_TAG}
use Rattle.verdicts.proofs.read_verdict.Goals as goal

pub returns-then-not-is_whole : goal.returns-then-not-is_whole
returns-then-not-is_whole c =
    let bs = c.args.bytes.now in
    elim c.then-not-is_whole.branch [
      | then-not-is_whole-via-then-not-is_whole w ↦ rw (decode-torn bs (sym c.is_whole.ensures ∙ w.if-not-is_whole.true))
      | then-not-is_whole-via-else-not-is_whole+then-bytes-ne-VERDICT_TAG w ↦ rw (decode-other bs (ne_eqb (get_or bs 0 0) verdict_tag w.if-bytes-ne-VERDICT_TAG.true))
    ]

-- what the walk finds says the reply that the bytes are
walked : (c : After-walk) → let bs = c.args.bytes.now in reply_of_walk c.shape_of-shape.result (found_by c.walk.result (take (length bs - 3) (drop 3 bs))) ≡ decode_verdict bs
walked c =
    let bs = c.args.bytes.now in
    let shape = c.shape_of-shape.result in
    let decoded = decode-whole bs (sym c.is_whole.ensures ∙ c.if-not-is_whole.false) (eq-eqb (get_or bs 0 0) verdict_tag c.if-bytes-ne-VERDICT_TAG.false) in
    ap (reply_of_walk shape) (c.walk.ensures.found ∙ ap placed_all (ap₂ walk c.verdict_fields.ensures (take_rest bs 3))) ∙ reply_placed shape (walk (verdict_fields shape) (drop 3 bs)) ∙ rw c.shape_of-shape.ensures (sym decoded)

pub returns-in_err-w : goal.returns-in_err-w
returns-in_err-w c = c.from_residual.ensures ∙ ap verdict_read (rw c.in_err-w.was at (walked (goal.at.returns-in_err-w c).After-walk))

pub returns : goal.returns
returns c = c.verdict_of.ensures ∙ ap verdict_read (rw c.in_ok-w.was at (walked (goal.at.returns c).After-walk))
