-- `image::saving::put_rows` meets its contract: row behind row. Assumes nothing.
use Rattle.std.proofs.Common.{take}
use Rattle.image.specs.Rows.{bytes_from}
use Rattle.image.proofs.Laying.{Lies}
use Rattle.image.proofs.saving.put_rows.Given as goal

abbrev pub invariant-loop-i : goal.invariant-loop-i
invariant-loop-i g l = Lies l.initial.out (bytes_from g.T.Entry.bytes 0 (take l.i l.items)) l.out l.at
