use Rattle.std.proofs.Common.{arith, sym, ap, ◌∙◌, List, map, length}
use lib.ListN.{length-map, length-take}
use lib.Seq.{take_all}
use Rattle.rules.specs.declared.Hold.{Hold}
use Rattle.rules.specs.Step.{renewed}
use Rattle.arrays.specs.Arrays.{pad}
use Rattle.arrays.proofs.Lists.{filled_next}
use Rattle.holds.specs.Holds.{no_hold, holds_of}
use Rattle.holds.proofs.Holds.renew.Goals as goal

pub loop-i-preserved : goal.loop-i-preserved
loop-i-preserved c =
    let few = ap length c.held-held.ensures ∙ length-take c.args.self.count c.args.self.items in
    rw c.with_expiry.ensures (filled_next _ _ _ _ c.loop-i.invariant no_hold (omega arith) (omega (arith, few)))

pub returns : goal.returns
returns c =
    let new = renewed c.args.number c.args.expiry in
    let passed = take_all c.loop-i.i c.held-held.result.now c.loop-i-test.false ∙ c.held-held.ensures in
    λ j. record {
      count = (ap length c.held-held.ensures ∙ sym (length-map (holds_of c.args.self) new)) j;
      items = (c.loop-i.invariant ∙ ap (λ (l : List Hold). pad 8 no_hold (map new l)) passed) j;
    }
