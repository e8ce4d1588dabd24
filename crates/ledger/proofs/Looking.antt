-- A LOOK finds an object, or it is refused and the ledger stays. Assumes nothing.
use mathlib.Core.Path.{◌≡◌, refl}
use mathlib.Core.Bool.{Bool, true, false, cond}
use mathlib.Core.List.{[]}
use Prim.Native.Nat.{ℕ}
use native.Mathlib.Omega.{arith}
use lib.Dec.{eqb, lit<}
use borrow.Author.Tests.{eqb-false}
use Rattle.rules.specs.declared.Kind.TheVariants.{Look as LOOK}
use Rattle.rules.specs.Limits.{limits}
use Rattle.rules.specs.Sound.{sound}
use Rattle.rules.specs.Request.{Request, Asked}
use Rattle.rules.specs.Step.{answers, effect, granted, verdict}
use Rattle.ledger.specs.Ledger.{lay, view, is_sound}
use Rattle.ledger.specs.Step.{refused_with, answered_with, ruled, judged}
use Rattle.ledger.specs.Look.{Outcome, finds, refuses, LookOutcome}

pub look_outcome : LookOutcome
unfolding judged ruled answers
look_outcome l t c x = by (is_sound l) (verdict limits (sound limits) (view l) asked) (eqb (verdict limits (sound limits) (view l) asked) 0) refl
  where
    asked : Request
    asked = Asked t (LOOK c x) []

    by : (a : Bool) (n : ℕ) (b : Bool) → eqb n 0 ≡ b → Outcome l (cond a (cond b (answered_with (granted (Asked t (LOOK c x) []) (view l)) (lay (effect (Asked t (LOOK c x) []) (view l)))) (refused_with n l)) (refused_with 1 l))
    by false n b e = refuses 1 (lit< tt) refl
    by true n true e = finds _ refl
    by true n false e = refuses n (let some = eqb-false n 0 e in omega (arith, some)) refl
