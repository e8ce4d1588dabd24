use Rattle.std.proofs.Common.{◌≡◌, length, sym, arith}
use lib.Seq.{set-get_or}
use Rattle.image.proofs.Laying.{tail}
use Rattle.image.proofs.Filling.{filling_none, filling_next, filling_end, filling_full}
use Rattle.image.proofs.loading.read_packed.Goals as goal

pub loop-i-init : goal.loop-i-init
loop-i-init g c = filling_none (λ p bs. g.T.Packed.front bs) c.args.places.now c.args.s.now

pub slice_bounds-read-count : goal.slice_bounds-read-count
slice_bounds-read-count g c = omega (arith, c.loop-i.invariant.going.room)

pub slice_bounds-read-start : goal.slice_bounds-read-start
slice_bounds-read-start g c = omega (arith, c.loop-i.invariant.going.room)

pub returns-in_default-clause-filled : goal.returns-in_default-clause-filled
returns-in_default-clause-filled g c =
    let l = c.loop-i in
    let none = sym c.in_default.ensures.is in
    rw set-get_or (filling_end _ _ _ l.invariant c.loop-i-test.true (rw (tail l.at c.args.s.now) at none))

pub loop-i-preserved : goal.loop-i-preserved
loop-i-preserved g c =
    let l = c.loop-i in
    let row = sym c.in-Some.ensures.is in
    let there = c.in-Some.ensures.there in
    filling_next _ _ _ l.invariant c.loop-i-test.true c.in-Some.row (rw (tail l.at c.args.s.now) at row) (rw (tail l.at c.args.s.now) at there)

pub returns-clause-filled : goal.returns-clause-filled
returns-clause-filled g c =
    let l = c.loop-i in
    let all : l.i ≡ length l.places = omega arith in
    rw (sym all) (filling_full _ _ _ l.invariant c.loop-i-test.false)
