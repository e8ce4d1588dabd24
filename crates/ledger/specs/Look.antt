-- What a LOOK on any ledger value comes to, for the crates above. Proved in proofs/Looking.antt. Assumes nothing.
use Rattle.std.specs.Prelude.{◌≡◌, [], ℕ, ◌<◌}
use Rattle.rules.specs.declared.Kind.TheVariants.{Look as LOOK}
use Rattle.rules.specs.declared.Answer.TheVariants.{Found}
use Rattle.rules.specs.Request.{Asked}
use Rattle.rules.specs.Step.{alone}
use Rattle.rules.specs.Typed.{verdict_of}
use Rattle.ledger.specs.declared.Ledger.{Ledger}
use Rattle.ledger.specs.declared.StepAnswer.{StepAnswer}
use Rattle.ledger.specs.Step.{refused_with, judged}

-- it finds an object, or it is refused with a number and the ledger stays
pub data Outcome (l : Ledger) (a : StepAnswer) : Type 0 where
  finds : (n : ℕ) → a.verdict ≡ verdict_of (alone (Found n)) → Outcome l a
  refuses : (n : ℕ) → 0 < n → a ≡ refused_with n l → Outcome l a

abbrev pub LookOutcome : Type 0
LookOutcome = (l : Ledger) (t c x : ℕ) → Outcome l (judged l (Asked t (LOOK c x) []))
