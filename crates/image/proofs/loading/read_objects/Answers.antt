use Rattle.std.proofs.Common.{sym}
use Rattle.image.proofs.Laying.{tail}
use Rattle.image.proofs.Filling.{places-none, places-free, places-taken, places_objects, places_size}
use Rattle.image.proofs.loading.read_objects.Goals.{in-Some, in_default}
use Rattle.image.proofs.loading.read_objects.Goals as goal

pub loop-place-init : goal.loop-place-init
loop-place-init c = places-none c.args.s.now c.args.objects.now c.requires

pub loop-place-preserved : goal.loop-place-preserved
loop-place-preserved c =
    let l = c.loop-place in
    let s = c.args.s.now in
    elim c.match-spot_at.branch [
      | in-Some w ↦
          let there = w.in-Some.ensures in
          let is = sym there.is in
          let room = there.room in
          rw (w.at-is, w.objects-is, w.set_bit.ensures)
          (places-taken s l.invariant c.loop-place-test.true w.in-Some.object (rw (tail l.at s) at is) (rw (tail l.at s) at room))
      | in_default w ↦
          let none = sym w.in_default.ensures.is in
          rw (w.at-is, w.objects-is) (places-free s l.invariant c.loop-place-test.true (rw (tail l.at s) at none))
    ]

pub returns-clause-objects : goal.returns-clause-objects
returns-clause-objects c = places_objects c.args.s.now c.loop-place.invariant c.loop-place-test.false

pub returns-clause-size : goal.returns-clause-size
returns-clause-size c = places_size c.args.s.now c.loop-place.invariant c.loop-place-test.false
