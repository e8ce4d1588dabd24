-- `image::rows::read_columns` meets its contract: what is filled, and then the numbers of the bytes from here on, are the numbers of all.
-- Assumes nothing.
use Rattle.std.proofs.Common.{◌≡◌, ◌+◌, ◌≤◌, ◌++◌, length, take, drop}
use Rattle.image.specs.Rows.{total, numbers_of}
use Rattle.image.proofs.rows.read_columns.Given as goal

abbrev pub invariant-loop-i : goal.invariant-loop-i
invariant-loop-i l = record {
  room : l.at + total (drop l.i l.widths) ≤ length l.s;
  filled : take l.i l.numbers ++ numbers_of (drop l.i l.widths) (drop l.at l.s) ≡ numbers_of l.widths l.s;
}
