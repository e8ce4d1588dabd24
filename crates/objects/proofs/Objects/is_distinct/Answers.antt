use mathlib.Core.Path.{◌≡◌, sym, ap, ◌∙◌, subst⁻¹}
use mathlib.Core.List.{List}
use Prim.Native.Nat.{ℕ, ◌+◌}
use native.Mathlib.Omega.{arith}
use lib.Seq.{take_all}
use Rattle.rules.specs.declared.Object.{Object}
use Rattle.rules.specs.Lists.{keep, distinct}
use Rattle.rules.specs.Table.{nonzero}
use Rattle.objects.specs.Objects.{numbers_at, numbers_in}
use Rattle.objects.proofs.Places.{numbers_kept, distinct_not, Passed, passed_none, passed_above, passed_other}
use Rattle.objects.proofs.Objects.is_distinct.Goals.{else-highest-number+else-is_among, then-highest-number}
use Rattle.objects.proofs.Objects.is_distinct.Goals as goal

-- what the places say of the numbers
said : (ns : List ℕ) (ps : List Object) → ns ≡ numbers_at ps → distinct (keep nonzero ns) ≡ distinct (numbers_in ps)
said ns ps e = ap (λ (l : List ℕ). distinct (keep nonzero l)) e ∙ ap distinct (sym (numbers_kept ps))

pub loop-i-init : goal.loop-i-init
loop-i-init c = passed_none _

pub returns-then-is_among : goal.returns-then-is_among
returns-then-is_among c =
    sym (distinct_not c.numbers-numbers.result c.loop-i.i (omega arith) (sym c.is_among.ensures ∙ c.if-is_among.true)) ∙ said c.numbers-numbers.result c.args.self.items c.numbers-numbers.ensures

pub loop-i-preserved : goal.loop-i-preserved
loop-i-preserved c =
    let ns = c.numbers-numbers.result in
    let i = c.loop-i.i in
    elim c.if-highest-number.branch [
      | then-highest-number w ↦ subst⁻¹ (Passed ns (i + 1)) w.highest-is (passed_above ns i c.loop-i.highest (omega arith) c.loop-i.invariant w.if-highest-number.true)
      | else-highest-number+else-is_among w ↦ subst⁻¹ (Passed ns (i + 1)) w.highest-is (passed_other ns i c.loop-i.highest (omega arith) c.loop-i.invariant w.if-highest-number.false (sym w.is_among.ensures ∙ w.if-is_among.false))
    ]

pub returns : goal.returns
returns c =
    let ns = c.numbers-numbers.result in
    let e = said ns c.args.self.items c.numbers-numbers.ensures in
    sym c.loop-i.invariant.distinct ∙ ap (λ (l : List ℕ). distinct (keep nonzero l)) (take_all c.loop-i.i ns (omega arith)) ∙ e
