use Rattle.std.proofs.Common.{◌≡◌, ◌+◌, ◌-◌, [], ◌∷◌, ◌++◌, get_or, take, drop, set, arith, add-one, append-nil}
use lib.Seq.{take-suc-set, take_all, append_snoc, drop-drop}
use Rattle.image.proofs.RowLaws.{numbers-from, numbers_end, total-from}
use Rattle.image.proofs.rows.read_columns.Goals as goal

pub loop-i-preserved : goal.loop-i-preserved
loop-i-preserved c =
    let l = c.loop-i in
    let a = c.args in
    let w = get_or a.widths.now l.i 0 in
    let size : l.at + w - l.at ≡ w = omega arith in
    let x = c.number.result in
    let filled : take (l.i + 1) (set l.numbers l.i x) ≡ take l.i l.numbers ++ x ∷ [] = rw add-one (take-suc-set l.numbers l.i x (omega (arith, c.requires.0))) in
    record {
      room = omega (arith, total-from a.widths.now l.i c.loop-i-test.true);
      filled = rw (filled, append_snoc (take l.i l.numbers) x, rw size at c.number.ensures)
          (rw (numbers-from a.widths.now (drop l.at a.s.now) l.i c.loop-i-test.true, drop-drop w l.at a.s.now) at l.invariant.filled);
    }

pub returns : goal.returns
returns c =
    let l = c.loop-i in
    let a = c.args in
    rw (numbers_end a.widths.now (drop l.at a.s.now) l.i c.loop-i-test.false, append-nil, take_all l.i l.numbers (omega (arith, c.requires.0))) at l.invariant.filled
