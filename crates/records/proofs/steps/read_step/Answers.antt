-- `records::steps::read_step` meets its contract: the tests are those of the definition, and the walk finds what it says.
-- Assumes nothing.
use Rattle.std.proofs.Common.{◌≡◌, Some, None, true, ◌-◌, length, take, drop, get_or, sym, ap, ap₂, ◌∙◌}
use Rattle.std.proofs.lemmas.List.{take_rest}
use Rattle.records.specs.Found.{is_whole, found_by, placed_all}
use Rattle.records.specs.Walk.{walk}
use Rattle.records.specs.Steps.{fields_of, request_of_walk, decode_step, step_read}
use Rattle.records.proofs.Tables.{request_placed}
use Rattle.records.proofs.Requests.{decode-torn, decode-whole}
use Rattle.records.proofs.steps.read_step.Goals.{Else-not-is_whole, After-walk}
use Rattle.records.proofs.steps.read_step.Goals as goal

-- past the test the bytes are one record
whole : (c : Else-not-is_whole) → is_whole c.args.bytes.now ≡ true
whole c = sym c.is_whole.ensures ∙ c.if-not-is_whole.false

pub returns-then-not-is_whole : goal.returns-then-not-is_whole
returns-then-not-is_whole c = rw (decode-torn c.args.bytes.now (sym c.is_whole.ensures ∙ c.if-not-is_whole.true))

pub returns-in_err-blank : goal.returns-in_err-blank
returns-in_err-blank c = rw (decode-whole c.args.bytes.now None (whole (goal.at.returns-in_err-blank c).Else-not-is_whole) (sym c.in_err-blank.ensures)) c.from_residual.ensures

-- what the walk finds says the request that the bytes are
walked : (c : After-walk) → let bs = c.args.bytes.now in request_of_walk (get_or bs 0 0) (found_by c.walk.result (take (length bs - 3) (drop 3 bs))) ≡ decode_step bs
walked c =
    let bs = c.args.bytes.now in
    let tag = get_or bs 0 0 in
    let k = c.in_ok-blank.blank in
    ap (request_of_walk tag) (c.walk.ensures.found ∙ ap placed_all (ap₂ walk c.step_fields.ensures (take_rest bs 3))) ∙ request_placed tag (walk (fields_of 0 k) (drop 3 bs))
    ∙ sym (decode-whole bs (Some k) (whole (goal.at.After-walk c).Else-not-is_whole) (sym c.in_ok-blank.ensures))

pub returns-in_err-w : goal.returns-in_err-w
returns-in_err-w c = c.from_residual-in_err-w.ensures ∙ ap step_read (rw c.in_err-w.was at (walked (goal.at.returns-in_err-w c).After-walk))

pub returns : goal.returns
returns c = c.step_of.ensures ∙ ap step_read (rw c.in_ok-w.was at (walked (goal.at.returns c).After-walk))
