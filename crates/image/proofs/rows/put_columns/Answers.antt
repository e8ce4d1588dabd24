use Rattle.std.proofs.Common.{◌≡◌, ◌+◌, ◌-◌, length, ap, arith, rules, append_assoc, append-nil}
use lib.Seq.{take_all}
use borrow.Rule.Slice.PartMut.{mid_len}
use Rattle.std.proofs.lemmas.Iterator.{empty_from_Zip}
use Rattle.fields.specs.Bytes.{be}
use Rattle.fields.proofs.Bytes.{length-be}
use Rattle.records.proofs.Pieces.{take_part}
use Rattle.image.specs.Rows.{bare, total}
use Rattle.image.proofs.rows.put_columns.Goals.{In-Some}
use Rattle.image.proofs.rows.put_columns.Goals as goal

pub loop-width-init : goal.loop-width-init
loop-width-init c =
    let first : c.into_iter-width-iterator.result.a.rest.now ≡ c.args.widths.now = search rules in
    let second : c.into_iter-width-iterator.result.b.rest.now ≡ c.args.numbers.now = search rules in
    record { in_step = rw (first, second) c.requires.0; room = rw first (omega (arith, c.requires.1)); laid = rw (first, second) }

-- there is room for the number and for those behind it
room : (c : In-Some) → c.loop-width.at + c.in-Some.width.now + total c.next.new.self.a.rest.now ≡ length c.args.out.now
room c = let r = rw c.in-Some.ensures.steps.0 at c.loop-width.invariant.room in omega (arith, r)

pub overflow_add-end : goal.overflow_add-end
overflow_add-end c = omega (arith, room (goal.at.overflow_add-end c).In-Some, c.well_formed)

pub slice_bounds-put_number-end : goal.slice_bounds-put_number-end
slice_bounds-put_number-end c = omega (arith, room (goal.at.slice_bounds-put_number-end c).In-Some)

pub loop-width-preserved : goal.loop-width-preserved
unfolding bare
loop-width-preserved c =
    let l = c.loop-width in
    let w = c.in-Some.width.now in
    let step = c.in-Some.ensures.steps in
    let there = room (goal.at.loop-width-preserved c).In-Some in
    let size : l.at + w - l.at ≡ w = omega arith in
    let x = be w c.in-Some.number.now in
    let bytes = rw (mid_len l.at (l.at + w) l.out (omega (arith, there)), size) at c.put_number.ensures in
    record {
      in_step = (let left = rw (step.0, step.1) at l.invariant.in_step in omega (arith, left));
      room = there;
      laid = rw (bytes, take_part l.at (l.at + w) x l.out _ (omega (arith, length-be w c.in-Some.number.now)) (omega (arith, there)), append_assoc) (rw (step.0, step.1) at l.invariant.laid);
    }

pub returns : goal.returns
unfolding bare
returns c =
    let l = c.loop-width in
    let none = empty_from_Zip l.width-iterator c.next.new.self c.next.result c.in-None.is (c.next.ensures.steps) l.invariant.in_step in
    rw (none.0, append-nil, take_all l.at l.out (omega (arith, l.invariant.room, ap total none.0))) at l.invariant.laid
