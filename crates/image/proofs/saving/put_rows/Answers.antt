use Rattle.std.proofs.Common.{◌≡◌, ◌+◌, ◌-◌, ◌≤◌, true, length, arith, sym, length-take, length-drop}
use Rattle.image.specs.Rows.{bytes_from}
use Rattle.image.proofs.Walks.{bytes_next, count_next, bytes-some, bytes-all, all-here}
use Rattle.image.proofs.Laying.{lies_none, lies_part, lies_put}
use Rattle.image.proofs.saving.put_rows.Given.{Over}
use Rattle.image.proofs.saving.put_rows.Goals.{After-index-items-i, After-size}
use Rattle.image.proofs.saving.put_rows.Goals as goal

fits : (g : Over) (c : After-index-items-i g) → g.T.Entry.fits c.index-items-i.result ≡ true
fits g c = all-here g.T.Entry.fits c.args.items.now c.requires.0 c.loop-i.i c.index-items-i.result c.loop-i-test.true c.index-items-i.is

-- there is room for the row
room : (g : Over) (c : After-size g) → c.loop-i.at + c.size.result ≤ length c.args.out.now
room g c =
    let f = g.T.Entry.bytes in
    let xs = c.args.items.now in
    let i = c.loop-i.i in
    omega (arith, c.loop-i.invariant.count, c.size.ensures i, count_next f xs i c.index-items-i.result c.loop-i-test.true c.index-items-i.is, bytes-some f xs (i + 1), c.requires.1)

pub loop-i-init : goal.loop-i-init
unfolding bytes_from
loop-i-init g c = lies_none c.args.out.now

pub size-requires : goal.size-requires
size-requires g c = fits g c

pub overflow_add-end : goal.overflow_add-end
overflow_add-end g c = omega (arith, room g c, c.well_formed)

pub slice_bounds-put-end : goal.slice_bounds-put-end
slice_bounds-put-end g c = omega (arith, room g c)

pub put-requires : goal.put-requires
put-requires g c =
    let start = goal.at.put-requires g c in
    (fits g start.After-index-items-i, simp (length-take, length-drop) (omega (arith, room g start.After-size, c.size.ensures c.loop-i.i)))

pub loop-i-preserved : goal.loop-i-preserved
loop-i-preserved g c =
    let l = c.loop-i in
    let n = c.size.result in
    let size : l.at + n - l.at ≡ n = omega arith in
    let next = lies_part l.invariant n c.put.ensures (sym (c.size.ensures l.i)) (room g (goal.at.loop-i-preserved g c).After-size) in
    rw (size, bytes_next g.T.Entry.bytes c.args.items.now l.i c.index-items-i.result c.loop-i-test.true c.index-items-i.is) next

pub returns : goal.returns
returns g c = rw (bytes-all g.T.Entry.bytes c.args.items.now c.loop-i.i c.loop-i-test.false) at (lies_put c.loop-i.invariant)
