-- `records::writing::put_field` meets its contract: the head, and behind it the list or the number.
-- Assumes nothing.
use mathlib.Core.Path.{◌≡◌, sym, ◌∙◌}
use Prim.Native.Nat.{◌+◌, ◌-◌}
use native.Mathlib.Omega.{arith}
use lib.ListN.{length, take, drop, length-take, length-drop}
use Rattle.fields.specs.Bytes.{be, words}
use Rattle.fields.proofs.Fields.{length-field}
use Rattle.records.specs.Format.{content}
use Rattle.records.proofs.Pieces.{content-list, content-number, length-list, length-number, filled}
use Rattle.records.proofs.writing.put_field.Goals.{Start}
use Rattle.records.proofs.writing.put_field.Goals as goal

-- the room is that of the head and the value
room : (c : Start) → 3 + length (content c.args.list.now c.args.f) ≡ length c.args.out.now
room c = sym (length-field c.args.f.tag (content c.args.list.now c.args.f)) ∙ c.requires

pub overflow_sub-out : goal.overflow_sub-out
overflow_sub-out c = omega (arith, room (goal.at.overflow_sub-out c).Start)

pub put_head-requires : goal.put_head-requires
put_head-requires c = omega (arith, room (goal.at.put_head-requires c).Start)

pub slice_bounds-put_words-count : goal.slice_bounds-put_words-count
slice_bounds-put_words-count c = omega (arith, room (goal.at.slice_bounds-put_words-count c).Start, c.put_head.auto.out)

pub slice_bounds-put_words-start : goal.slice_bounds-put_words-start
slice_bounds-put_words-start c = omega (arith, room (goal.at.slice_bounds-put_words-start c).Start, c.put_head.auto.out)

pub put_words-requires : goal.put_words-requires
put_words-requires c =
    let a = c.args in
    simp (length-take, length-drop) (omega (arith, room (goal.at.put_words-requires c).Start, c.put_head.auto.out, length-list a.list.now a.f c.if-f-eq0.true))

pub returns-then-f-eq0 : goal.returns-then-f-eq0
returns-then-f-eq0 c =
    let a = c.args in
    let is = content-list a.list.now a.f c.if-f-eq0.true in
    let put = c.put_head in
    rw (is, c.put_words.ensures) (filled a.f.tag (words a.list.now) a.out.now put.new.out (rw is at (room (goal.at.returns-then-f-eq0 c).Start)) put.ensures)

pub slice_bounds-put_number-count : goal.slice_bounds-put_number-count
slice_bounds-put_number-count c = omega (arith, room (goal.at.slice_bounds-put_number-count c).Start, c.put_head.auto.out)

pub slice_bounds-put_number-start : goal.slice_bounds-put_number-start
slice_bounds-put_number-start c = omega (arith, room (goal.at.slice_bounds-put_number-start c).Start, c.put_head.auto.out)

pub returns-else-f-eq0 : goal.returns-else-f-eq0
returns-else-f-eq0 c =
    let a = c.args in
    let is = content-number a.list.now a.f c.if-f-eq0.false in
    let put = c.put_head in
    let o = put.new.out in
    let size : length (take (length o - 3) (drop 3 o)) ≡ a.f.width =
    simp (length-take, length-drop) (omega (arith, room (goal.at.returns-else-f-eq0 c).Start, put.auto.out, length-number a.list.now a.f c.if-f-eq0.false))
    in
    rw (is, c.put_number.ensures, size) (filled a.f.tag (be a.f.width a.f.number) a.out.now o (rw is at (room (goal.at.returns-else-f-eq0 c).Start)) put.ensures)
