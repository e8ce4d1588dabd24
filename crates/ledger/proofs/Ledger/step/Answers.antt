-- `Ledger::step` meets its contract: rows 1 to 3, then the kind's own.
-- Assumes nothing.
use mathlib.Core.Path.{refl, ◌≡◌, sym, ap, ◌∙◌}
use Prim.Native.Nat.{ℕ}
use Rattle.ledger.specs.Step.{refused_with, door_of}
use Rattle.ledger.proofs.Whole.{door_refused, door_rules}
use Rattle.ledger.proofs.Ledger.step.Goals.{In_default}
use Rattle.rules.proofs.Refusals.{not_0}
use Rattle.ledger.proofs.Ledger.step.Goals as goal

pub returns-in-Err : goal.returns-in-Err
returns-in-Err c =
    let d = c in
    let a = d.args in
    c.refused.ensures ∙ ap (λ (n : ℕ). refused_with n a.self) d.in-Err.ensures
    ∙ door_refused a.self a.step (λ e. (not_0 c.in-Err.refusal) (d.in-Err.ensures ∙ e))

-- no row of the door applies
clear : (c : In_default) → door_of c.args.self c.args.step ≡ 0
clear c = sym c.in_default.ensures ∙ refl

pub returns : goal.returns
returns c =
    let a = c.args in
    c.admitted.ensures ∙ door_rules a.self a.step (clear (goal.at.returns c).In_default)
