-- `fields::next_record` meets its contract: the tests are those of the definition.
-- Assumes nothing.
use Rattle.std.proofs.Common.{ℕ, ◌+◌, length, sym, ap, ◌∙◌, arith}
use borrow.Author.Tests.{eqb-true, eqb-false}
use Rattle.fields.specs.declared.Next.TheVariants.{Record}
use Rattle.fields.proofs.Fields.{next_end, next-torn, next-whole}
use Rattle.fields.proofs.next_record.Goals as goal

pub returns-then-is_empty : goal.returns-then-is_empty
returns-then-is_empty c = sym (next_end c.args.s.now (eqb-true (length c.args.s.now) 0 (sym c.is_empty.ensures ∙ c.if-is_empty.true)))

pub returns-then-s-lt3 : goal.returns-then-s-lt3
returns-then-s-lt3 c = sym (next-torn c.args.s.now (omega (arith, eqb-false (length c.args.s.now) 0 (sym c.is_empty.ensures ∙ c.if-is_empty.false))) (omega arith))

pub returns-then-s-claimed : goal.returns-then-s-claimed
returns-then-s-claimed c = sym (next-torn c.args.s.now (omega arith) (omega (arith, c.pair-claimed.ensures.0)))

pub returns : goal.returns
returns c = ap (λ (k : ℕ). Record (3 + k)) c.pair-claimed.ensures.0 ∙ sym (next-whole c.args.s.now (omega (arith, c.pair-claimed.ensures.0)))
