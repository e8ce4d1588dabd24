-- `Ledger::refuse_unreadable` meets its contract.
-- Assumes nothing.
use mathlib.Core.Path.{sym, ◌∙◌}
use Rattle.ledger.proofs.Whole.{unsound-refused, unreadable_refused}
use Rattle.ledger.proofs.Ledger.refuse_unreadable.Goals as goal

pub returns-then-not-is_sound : goal.returns-then-not-is_sound
returns-then-not-is_sound c =
    let b = c in
    c.refused.ensures ∙ unsound-refused b.args.self (sym b.is_sound.ensures ∙ c.if-not-is_sound.true) _

pub returns : goal.returns
returns c =
    let b = c in
    c.refused-2.ensures ∙ unreadable_refused b.args.self (sym b.is_sound.ensures ∙ c.if-not-is_sound.false)
