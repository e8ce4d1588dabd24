-- `fields::read_head` meets its contract: the tests are those of the definition.
-- Assumes nothing.
use Rattle.std.proofs.Common.{Some, sym, ap, ◌∙◌, arith}
use Rattle.fields.proofs.Fields.{head-short, head-other, head-torn, head-holds}
use Rattle.fields.proofs.read_head.Goals.{then-s-lt3-via-then-s-lt3, then-s-lt3-via-else-s-lt3+then-s-tag}
use Rattle.fields.proofs.read_head.Goals as goal

pub returns-then-s-lt3 : goal.returns-then-s-lt3
returns-then-s-lt3 c =
    elim c.then-s-lt3.branch [
      | then-s-lt3-via-then-s-lt3 w ↦ sym (head-short c.args.tag c.args.s.now (omega arith))
      | then-s-lt3-via-else-s-lt3+then-s-tag w ↦ sym (head-other c.args.tag c.args.s.now (omega arith))
    ]

pub returns-then-s-n : goal.returns-then-s-n
returns-then-s-n c = sym (head-torn c.args.tag c.args.s.now (omega (arith, c.pair-n.ensures.0)))

pub returns : goal.returns
returns c = ap Some c.pair-n.ensures.0 ∙ sym (head-holds c.args.tag c.args.s.now (omega arith) (omega (arith, c.pair-n.ensures.0)))
