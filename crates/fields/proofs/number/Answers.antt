use Rattle.std.proofs.Common.{refl, ap, get_or, take, arith}
use Rattle.std.proofs.Math.Seq.{take_all}
use Rattle.fields.specs.Bytes.{value_from, value_of}
use Rattle.fields.proofs.Bytes.{kept_byte, value_more, value-one}
use Rattle.fields.proofs.number.Goals as goal

pub returns-in-1 : goal.returns-in-1
returns-in-1 c = omega (arith, c.type_inv.s 0, value-one 0 c.args.s.now (omega arith), ap value_of (take_all 1 c.args.s.now (omega arith)))

pub loop-b-init : goal.loop-b-init
unfolding value_from
loop-b-init c = refl

pub loop-b-preserved : goal.loop-b-preserved
loop-b-preserved c =
    let i = c.loop-b.b-index in
    let s = c.args.s.now in
    rw (value_more s i (omega arith), c.loop-b.invariant, c.from-in-loop-b.ensures) (kept_byte (value_of (take i s)) (get_or s i 0) (omega (arith, c.type_inv.s i)))
