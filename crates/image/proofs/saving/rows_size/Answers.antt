use Rattle.std.proofs.Common.{◌≡◌, ◌+◌, length, take, refl, arith, ap, ◌∙◌}
use Rattle.image.specs.Rows.{bytes_from}
use Rattle.image.proofs.Walks.{count_next, bytes-some, bytes-all, all-here}
use Rattle.image.proofs.saving.rows_size.Given.{Over}
use Rattle.image.proofs.saving.rows_size.Goals.{After-size-size}
use Rattle.image.proofs.saving.rows_size.Goals as goal

next : (g : Over) (c : After-size-size g)
    → c.loop-item.size + c.size-size.result ≡ length (bytes_from g.T.Entry.bytes 0 (take (c.loop-item.item-index + 1) c.args.items.now))
next g c =
    let i = c.loop-item.item-index in
    omega (arith, c.loop-item.invariant, c.size-size.ensures i, count_next g.T.Entry.bytes c.args.items.now i c.item-item.result c.loop-item-test.true c.item-item.is)

pub loop-item-init : goal.loop-item-init
unfolding bytes_from
loop-item-init g c = refl

pub size-size-requires : goal.size-size-requires
size-size-requires g c = all-here g.T.Entry.fits c.args.items.now c.requires.0 c.loop-item.item-index c.item-item.result c.loop-item-test.true c.item-item.is

pub overflow_add-size : goal.overflow_add-size
overflow_add-size g c = omega (arith, next g c, bytes-some g.T.Entry.bytes c.args.items.now (c.loop-item.item-index + 1), c.requires.1)

pub loop-item-preserved : goal.loop-item-preserved
loop-item-preserved g c = next g c

pub returns : goal.returns
returns g c = c.loop-item.invariant ∙ ap length (bytes-all g.T.Entry.bytes c.args.items.now c.loop-item.item-index c.loop-item-test.false)
