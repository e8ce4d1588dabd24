-- Looks about a compaction, on any ledger value: what the rules say of the state that a sound ledger says.
-- Assumes nothing.
use mathlib.Core.Path.{◌≡◌, sym, ap, subst, ◌∙◌}
use mathlib.Core.Bool.{true}
use mathlib.Core.List.{List, []}
use Prim.Native.Nat.{ℕ}
use native.Mathlib.Omega.{arith}
use borrow.Author.Tests.{eq-eqb, le-leb}
use Rattle.rules.specs.declared.Kind.TheVariants.{Compact as COMPACT, Look as LOOK}
use Rattle.rules.specs.Compaction.{compacting, in_current, in_force, looked}
use Rattle.rules.specs.Limits.{limits}
use Rattle.rules.specs.Request.{Asked}
use Rattle.rules.specs.Sound.{sound}
use Rattle.rules.specs.State.{State}
use Rattle.rules.specs.Step.{accepts, effect, next, reply, size, verdict}
use Rattle.rules.specs.Typed.{verdict_of}
use Rattle.rules.specs.Words.{currency_of}
use Rattle.rules.proofs.Compaction.{compactions}
use Rattle.rules.proofs.Soundness.{next-sound}
use Rattle.ledger.specs.declared.Ledger.{Ledger}
use Rattle.ledger.specs.declared.StepAnswer.{StepAnswer}
use Rattle.ledger.specs.Ledger.{lay, view}
use Rattle.ledger.specs.Step.{judged}
use Rattle.ledger.proofs.AnyLedger.{number-accepted, number-sound, sound-accepted, verdict-sound}
use Rattle.ledger.proofs.Demand3.{verdict-laid}
use Rattle.ledger.proofs.SoundLaw.{sound_law, view-lay}
use Rattle.guarantees.specs.Guarantees.{LooksKeptOn, looked_on, number_on}

pub compactions_on_ledger_lem : (l : Ledger) (t e slot n : ℕ) (names : List ℕ) → number_on l (Asked t (COMPACT e slot n) names) ≡ 0
    → LooksKeptOn t n l (judged l (Asked t (COMPACT e slot n) names)).ledger
unfolding accepts next
compactions_on_ledger_lem l t e slot n names z =
    let q = Asked t (COMPACT e slot n) names in
    let s = view l in
    let safe = sound-accepted l q z in
    let room = size (reply limits (sound limits) s q) in
    let ask = compacting t e slot n names room in
    let zero = eq-eqb (verdict limits (sound limits) s q) 0 (sym (number-sound l q safe) ∙ z) in
    let taken : accepts limits (sound limits) s ask ≡ true = rw (zero, le-leb room room (omega arith)) in
    let moved : next limits (sound limits) s ask ≡ effect q s = rw (zero, le-leb room room (omega arith)) in
    let safe-after : sound limits (effect q s) ≡ true = ap (sound limits) (sym moved) ∙ next-sound limits (sound limits) s ask (sound_law.state l safe) in
    let kept = compactions limits s t e slot n names room taken in
    let told : (c x : ℕ) → looked limits (next limits (sound limits) s ask) t c x ≡ looked limits s t c x → looked_on (lay (effect q s)) t c x ≡ looked_on l t c x = λ c x same.
    verdict-laid (effect q s) safe-after (Asked t (LOOK c x) []) ∙ ap (λ (a : State). verdict_of (looked limits a t c x)) (sym moved) ∙ ap verdict_of same ∙ sym (verdict-sound l (Asked t (LOOK c x) []) safe) in
    subst (LooksKeptOn t n l) (ap (λ (a : StepAnswer). a.ledger) (sym (number-accepted l q z))) (record {
      currencies = λ c. ap (λ (a : State). in_force a c) (view-lay (effect q s) ∙ sym moved) ∙ kept.currencies c;
      others = λ c ne. told c 0 (kept.others c ne);
      objects = λ c ne. ap (λ (a : State). in_current a c) (view-lay (effect q s) ∙ sym moved) ∙ kept.objects c ne;
      brought = ap (λ (a : State). in_current a (currency_of s n)) (view-lay (effect q s) ∙ sym moved) ∙ kept.brought;
      held = λ c x some. told c x (kept.held c x (λ w. omega (arith, w, some)));
    })
