use Rattle.std.proofs.Common.{◌≡◌, ◌≤◌, ◌+◌, ◌*◌, length, arith, ap, ◌∙◌}
use Rattle.std.proofs.Math.Nat.{mul-le-mul_left}
use borrow.Rule.Slice.PartMut.{mid_len}
use Rattle.ledger_numbers.proofs.Places.{flat-none, flat-next, flat-done}
use Rattle.ledger_numbers.proofs.put_items.Goals as goal

pub loop-i-init : goal.loop-i-init
loop-i-init g c = let t = g.T.Numbers in flat-none t.numbers t.SIZE c.args.items.now c.args.out.now

pub loop-i-preserved : goal.loop-i-preserved
loop-i-preserved g c =
    let t = g.T.Numbers in
    let l = c.loop-i in
    let at = c.SIZE.result * l.i in
    let end = at + c.SIZE-in-loop-i.result in
    let same : at ≡ t.SIZE * l.i = ap (◌* l.i) c.SIZE.ensures in
    let room : end ≤ length l.out = omega (arith, mul-le-mul_left t.SIZE c.loop-i-test.true) in
    let long : length c.put.new.out ≡ t.SIZE = c.put.auto.out ∙ mid_len at end l.out room ∙ omega arith in
    rw (c.SIZE.ensures, c.SIZE-in-loop-i.ensures)
    (flat-next t.numbers t.SIZE c.args.items.now l.out l.i c.index-items-i.result c.put.new.out _ c.loop-i-test.true c.index-items-i.is (omega arith) c.put.ensures long l.invariant)

pub returns : goal.returns
returns g c =
    let t = g.T.Numbers in
    flat-done t.numbers t.SIZE c.args.items.now c.loop-i.out c.loop-i.i c.loop-i-test.false (omega (arith, mul-le-mul_left t.SIZE c.loop-i-test.false)) c.loop-i.invariant
