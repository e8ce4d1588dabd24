use Rattle.std.proofs.Common.{◌≡◌, ◌+◌, ◌-◌, ◌%◌, append_assoc, arith}
use Rattle.std.proofs.lemmas.List.{drop-set}
use Rattle.fields.specs.Bytes.{be}
use Rattle.fields.proofs.Bytes.{be-last, high_first}
use Rattle.fields.proofs.put_number.Goals as goal

pub returns-then-out-eq8 : goal.returns-then-out-eq8
returns-then-out-eq8 c = rw (c.copy_from_slice.ensures.after, c.to_be_bytes.ensures, c.if-out-eq8.true) (high_first 8 c.args.n)

pub loop-i-preserved : goal.loop-i-preserved
loop-i-preserved c =
    let l = c.loop-i in
    let turn : l.i - 1 + 1 ≡ l.i = omega arith in
    rw (drop-set l.out (l.i - 1) (l.rest % 256) (omega arith), turn) (rw (be-last l.i l.rest (omega arith), append_assoc) at l.invariant)

pub returns : goal.returns
unfolding be
returns c =
    let none : c.loop-i.i ≡ 0 = omega arith in
    rw none at c.loop-i.invariant
