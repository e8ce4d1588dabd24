-- `records::writing::content_size` meets its contract: eight bytes for each number of the list, or as many as a number has.
-- Assumes nothing.
use mathlib.Core.Path.{sym}
use Rattle.records.proofs.Pieces.{length-list, length-number}
use Rattle.records.proofs.writing.content_size.Goals as goal

pub returns-then-f-eq0 : goal.returns-then-f-eq0
returns-then-f-eq0 c = sym (length-list c.args.list.now c.args.f c.if-f-eq0.true)

pub returns-else-f-eq0 : goal.returns-else-f-eq0
returns-else-f-eq0 c = sym (length-number c.args.list.now c.args.f c.if-f-eq0.false)
