use mathlib.Core.Path.{◌≡◌, sym, ap, ◌∙◌}
use mathlib.Core.Bool.{Bool, ◌||◌}
use native.Mathlib.Omega.{arith}
use Rattle.std.proofs.Common.{get_or}
use Rattle.rules.specs.Limits.{word_count, word_bits}
use Rattle.rules.specs.Lists.{has}
use Rattle.rules.specs.State.{free}
use Rattle.rules.specs.Step.{mark}
use Rattle.rules.specs.declared.Object.{Object}
use Rattle.objects.specs.Occupancy.{words_of}
use Rattle.objects.proofs.Filled.{changed_next, changed_all}
use Rattle.objects.proofs.Places.{items_long, laid-words, marked-places}
use Rattle.objects.proofs.Objects.mark.Goals.{then-object, else-object}
use Rattle.objects.proofs.Objects.mark.Goals as goal

pub loop-object-preserved : goal.loop-object-preserved
loop-object-preserved c =
    let s = c.args in
    let o : Object = get_or c.loop-object.object-items c.loop-object.object-index free in
    let named : c.if-object.object ≡ (o.named || has o.number s.list.now) =
    elim c.if-object.branch [
      | then-object w ↦ rw w.if-object.true (w.object-is ∙ w.if-object.true)
      | else-object w ↦ rw w.if-object.false (w.object-is ∙ w.contains-object.ensures)
    ] in
    changed_next (mark s.list.now) s.self.items c.loop-object.invariant (omega (arith, items_long s.self _ c.well_formed.0)) free _ (ap (λ (b : Bool). record { number = o.number; role = o.role; epoch = o.epoch; currency = o.currency; named = b }) named)

pub returns : goal.returns
returns c =
    let s = c.args in
    let same = changed_all (mark s.list.now) s.self.items c.loop-object.invariant (omega (arith, items_long s.self _ c.well_formed.0)) in
    let words = laid-words s.self c.requires ∙ ap (words_of word_bits word_count) (sym (marked-places s.list.now s.self.items)) in
    λ j. record { occupancy = words j; items = same j }
