-- `image::saving::rows_size` meets its contract: the bytes of the rows so far. Assumes nothing.
use Rattle.std.proofs.Common.{◌≡◌, length, take}
use Rattle.image.specs.Rows.{bytes_from}
use Rattle.image.proofs.saving.rows_size.Given as goal

abbrev pub invariant-loop-item : goal.invariant-loop-item
invariant-loop-item g l = l.size ≡ length (bytes_from g.T.Entry.bytes 0 (take l.item-index l.items))
