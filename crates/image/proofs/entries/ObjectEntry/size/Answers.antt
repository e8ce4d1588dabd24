use Rattle.std.proofs.Common.{sym, ap, ◌∙◌}
use mathlib.Core.Bool.{not}
use borrow.Author.Tests.{eq-eqb}
use Rattle.image.specs.Reading.{spot_size}
use Rattle.image.proofs.Lengths.{length-place}
use Rattle.image.proofs.Things.{place-taken}
use Rattle.image.proofs.entries.ObjectEntry.size.Goals as goal

pub returns-then-self-eq0 : goal.returns-then-self-eq0
returns-then-self-eq0 c = λ p. sym (length-place p c.args.self.now ∙ ap (λ b. spot_size (not b)) (eq-eqb c.args.self.now.number 0 c.if-self-eq0.true))

pub returns-else-self-eq0 : goal.returns-else-self-eq0
returns-else-self-eq0 c = λ p. sym (length-place p c.args.self.now ∙ ap spot_size (place-taken p c.args.self.now c.if-self-eq0.false))
