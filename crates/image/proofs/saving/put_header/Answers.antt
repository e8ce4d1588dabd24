-- `image::saving::put_header` meets its contract: row behind row. Assumes nothing.
use Rattle.std.proofs.Common.{ℕ, List, ◌++◌, take, drop, ◌∙◌, append_assoc, arith}
use Rattle.image.specs.Rows.{row_of}
use Rattle.image.specs.Format.{edition_row, clock_row, collected_row, edition, single}
use Rattle.image.proofs.Lengths.{length-single}
use Rattle.image.proofs.Laying.{Lies, lies_front, lies_part, lies_all}
use Rattle.image.proofs.saving.put_header.Goals.{After-put_number-2}
use Rattle.image.proofs.saving.put_header.Goals as goal

abbrev row1 : List ℕ
row1 = row_of edition_row (single edition)

abbrev row2 : ℕ → List ℕ
row2 n = row_of clock_row (single n)

abbrev first : (c : After-put_number-2) → List ℕ
first c = c.put_number.new.out ++ drop 4 c.args.out.now

second : (c : After-put_number-2) → Lies c.args.out.now (row1 ++ row2 c.args.clock) (take 4 (first c) ++ (c.put_number-2.new.out ++ drop 11 (drop 4 (first c)))) 15
second c =
    let lies = lies_front c.args.out.now row1 c.put_number.new.out 4 c.put_number.ensures (length-single 0x61 1 edition) (omega (arith, c.requires)) in
    lies_part lies 11 c.put_number-2.ensures (length-single 0x62 8 c.args.clock) (omega (arith, c.requires))

pub returns : goal.returns
returns c =
    lies_all (lies_part (second (goal.at.returns c).After-put_number-2) 11 c.put_number-3.ensures (length-single 0x63 8 c.args.collected) (omega (arith, c.requires))) c.requires
    ∙ append_assoc row1 (row2 c.args.clock) (row_of collected_row (single c.args.collected))
