-- `image::rows::put_columns` meets its contract: what is written, and then the numbers that are left, are the bytes of all.
-- Assumes nothing.
use Rattle.std.proofs.Common.{◌≡◌, ◌+◌, ◌++◌, length, take}
use Rattle.image.specs.Rows.{bare, total}
use Rattle.image.proofs.rows.put_columns.Given as goal

abbrev pub invariant-loop-width : goal.invariant-loop-width
invariant-loop-width l = record {
  in_step : length l.width-iterator.a.rest.now ≡ length l.width-iterator.b.rest.now;
  room : l.at + total l.width-iterator.a.rest.now ≡ length l.initial.out;
  laid : take l.at l.out ++ bare l.width-iterator.a.rest.now l.width-iterator.b.rest.now ≡ bare l.widths l.numbers;
}
