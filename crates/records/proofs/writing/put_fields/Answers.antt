use Rattle.std.proofs.Common.{◌≡◌, ◌+◌, ◌-◌, length, get_or, take, drop, append_assoc, append-nil, length-take, length-drop, sym, ap, ◌∙◌, arith}
use Rattle.std.proofs.Math.Seq.{take_all}
use Rattle.std.proofs.lemmas.List.{drop_more, drop_all}
use Rattle.std.proofs.lemmas.Slice.{take-put_mid}
use Rattle.fields.proofs.Fields.{length-field}
use Rattle.records.specs.declared.Field.{Field}
use Rattle.records.specs.Format.{inner, content, bytes_of}
use Rattle.records.specs.Found.{fields_in}
use Rattle.records.proofs.Pieces.{bytes_cons, bytes-none, length_cons}
use Rattle.records.proofs.writing.put_fields.Goals.{In-loop-f, After-content_size}
use Rattle.records.proofs.writing.put_fields.Goals as goal

abbrev field : In-loop-f → Field
field c = get_or (fields_in c.args.fields) c.loop-f.f-index (inner 0 0 0)

-- there is room for the field and for those behind it
room : (c : After-content_size)
    → c.loop-f.at + 3 + c.content_size.result + length (bytes_of (drop (c.loop-f.f-index + 1) (fields_in c.args.fields)) c.args.list.now) ≡ length c.args.out.now
room c =
    let l = c.loop-f in
    omega (arith, rw (drop_more (fields_in c.args.fields) l.f-index (inner 0 0 0) c.loop-f-test.true, length_cons c.args.list.now) at l.invariant.0, c.content_size.ensures)

pub overflow_add-end-in-loop-f : goal.overflow_add-end-in-loop-f
overflow_add-end-in-loop-f c = omega (arith, room c)

pub slice_bounds-put_field-end : goal.slice_bounds-put_field-end
slice_bounds-put_field-end c = omega (arith, room (goal.at.slice_bounds-put_field-end c).After-content_size)

pub put_field-requires : goal.put_field-requires
put_field-requires c =
    let f = field (goal.at.put_field-requires c).In-loop-f in
    simp (length-field, length-take, length-drop) (omega (arith, room (goal.at.put_field-requires c).After-content_size, c.content_size.ensures))

pub loop-f-preserved : goal.loop-f-preserved
loop-f-preserved c =
    let l = c.loop-f in
    let list = c.args.list.now in
    let put = c.put_field in
    let f = field (goal.at.loop-f-preserved c).In-loop-f in
    let size = length-field f.tag (content list f) in
    let more = room (goal.at.loop-f-preserved c).After-content_size in
    let end = l.at + 3 + c.content_size.result in (
      more,
      rw (take-put_mid l.at (end - l.at) l.out put.new.out end (omega (arith, ap length put.ensures, size, c.content_size.ensures)) (omega (arith, more)), put.ensures, append_assoc)
          (rw (drop_more (fields_in c.args.fields) l.f-index (inner 0 0 0) c.loop-f-test.true, bytes_cons list) at l.invariant.1),
    )

pub returns : goal.returns
returns c =
    let l = c.loop-f in
    let none = drop_all l.f-index (fields_in c.args.fields) c.loop-f-test.false in
    sym (take_all l.at l.out (omega (arith, rw (none, bytes-none c.args.list.now) at l.invariant.0))) ∙ sym (append-nil (take l.at l.out)) ∙ rw (none, bytes-none c.args.list.now) at l.invariant.1
