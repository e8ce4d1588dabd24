use Rattle.std.proofs.Common.{◌*◌, ◌≤◌, get_or, arith}
use Rattle.std.proofs.lemmas.List.{drop_more, drop_all}
use Rattle.rules.specs.Limits.{limits}
use Rattle.records.specs.Format.{inner, is_narrow}
use Rattle.records.specs.Found.{fields_in}
use Rattle.records.proofs.Places.{all-at}
use Rattle.records.proofs.Pieces.{bytes-none, length_cons, content-short}
use Rattle.records.proofs.writing.size_of.Goals.{After-content_size}
use Rattle.records.proofs.writing.size_of.Goals as goal

-- the field's value is short, and there are few fields
short : (c : After-content_size) → c.content_size.result ≤ 8 * limits.places
short c =
    let a = c.args in
    let narrow = all-at is_narrow (fields_in a.fields) c.loop-f.f-index (inner 0 0 0) a.fields.narrow c.loop-f-test.true in
    omega (arith, c.content_size.ensures, content-short a.list.now (get_or (fields_in a.fields) c.loop-f.f-index (inner 0 0 0)) narrow c.requires)

pub overflow_add-size : goal.overflow_add-size
overflow_add-size c = omega (arith, short c)

pub overflow_add-size-in-loop-f : goal.overflow_add-size-in-loop-f
overflow_add-size-in-loop-f c = omega (arith, short c)

pub loop-f-preserved : goal.loop-f-preserved
loop-f-preserved c =
    let l = c.loop-f in
    let sum = rw (drop_more (fields_in c.args.fields) l.f-index (inner 0 0 0) c.loop-f-test.true, length_cons c.args.list.now) at l.invariant.1 in
    (omega (arith, short c), omega (arith, sum, c.content_size.ensures))

pub returns : goal.returns
returns c =
    let l = c.loop-f in
    let all = rw (drop_all l.f-index (fields_in c.args.fields) c.loop-f-test.false, bytes-none c.args.list.now) at l.invariant.1 in
    (omega (arith, all), omega arith)
