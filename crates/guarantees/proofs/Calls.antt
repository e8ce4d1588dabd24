-- A refusal leaves the numbers that a C call was lent as they are.
-- Assumes nothing.
use mathlib.Core.Path.{◌≡◌, refl, ap, ◌∙◌}
use mathlib.Core.Bool.{Bool, true, false, cond}
use mathlib.Core.List.{List, [], ◌∷◌}
use Prim.Native.Nat.{ℕ, ◌-◌, ◌≤◌}
use lib.Dec.{ltb}
use lib.ListN.{length}
use borrow.Author.Tests.{ltb-false}
use Rattle.std.specs.Prelude.{Err}
use Rattle.rules.specs.Limits.{limits}
use Rattle.ledger.specs.declared.Ledger.{Ledger}
use Rattle.ledger.specs.declared.StepAnswer.{StepAnswer}
use Rattle.ledger.specs.Ledger.{is_sound}
use Rattle.ledger.specs.Step.{judged}
use Rattle.ledger.proofs.AnyLedger.{number-refused, judged-unsound}
use Rattle.ledger_numbers.specs.Numbers.{ledger_size, ledger_from, laid_back}
use Rattle.ledger_numbers.proofs.Exact.{numbers-exact}
use Rattle.records.specs.Steps.{decode_step}
use Rattle.replay.specs.Front.{answer_to, answer_bytes}
use Rattle.replay.specs.Replay.{Told, cut, tell, replay_of}
use Rattle.desk.specs.declared.SaleError.{SaleError}
use Rattle.desk.specs.Sale.{sale_of}
use Rattle.desk.proofs.NoRate.{sale-exact}
use Rattle.exports.specs.Codec.{step_size, verdict_size, kind_of}
use Rattle.exports.specs.Ledgers.{request_of as request_in, step, stepped, untouched, Stepped}
use Rattle.exports.specs.Runs.{run_on, RunOnCall, called_on, untouched_on}
use Rattle.desk_exports.specs.Calls.{narrow, sell, SaleCall, told, unsold}
use Rattle.guarantees.specs.Guarantees.{number_on}

-- where the slice is long enough, what a call leaves of an unchanged ledger is the slice
back : (ledger : List ℕ) (l : Ledger) → ledger_size ≤ length ledger → l ≡ ledger_from ledger → laid_back l ledger ≡ ledger
back ledger l room same = ap (λ (k : Ledger). laid_back k ledger) same ∙ numbers-exact.stays ledger room

-- a call's ledger is as it was on every way out
pub refused_step_lem : (ledger numbers list verdict objects : List ℕ) → (number_on (ledger_from ledger) (request_in (kind_of numbers) numbers list) ≡ 0 → ⊥)
    → (step ledger numbers list verdict objects).ledger ≡ ledger
unfolding step
refused_step_lem ledger numbers list verdict objects f =
    by (ltb (length ledger) ledger_size) refl (ltb (length numbers) step_size) (ltb (length list) limits.names) (ltb (length verdict) verdict_size) (ltb (length objects) limits.places)
  where
    answer : StepAnswer
    answer = judged (ledger_from ledger) (request_in (kind_of numbers) numbers list)

    short : Stepped
    short = untouched ledger numbers list verdict objects

    by : (a : Bool) → ltb (length ledger) ledger_size ≡ a → (b c d e : Bool)
        → (cond a short (cond b short (cond c short (cond d short (cond e short (stepped ledger numbers list verdict objects answer)))))).ledger ≡ ledger
    by true p b c d e = refl
    by false p true c d e = refl
    by false p false true d e = refl
    by false p false false true e = refl
    by false p false false false true = refl
    by false p false false false false =
        back ledger answer.ledger (ltb-false (length ledger) ledger_size p) (ap (λ (a : StepAnswer). a.ledger) (number-refused (ledger_from ledger) (request_in (kind_of numbers) numbers list) f))

pub refused_sale_lem : (ledger : List ℕ) (time : ℕ) (sheet : List ℕ) (currency hold fare : ℕ) (sale : List ℕ) (e : SaleError)
    → (sale_of (ledger_from ledger) time sheet (narrow currency) hold fare).sale ≡ Err e → (sell ledger time sheet currency hold fare sale).ledger ≡ ledger
unfolding sell
refused_sale_lem ledger time sheet currency hold fare sale e q = by (ltb (length ledger) ledger_size) refl (ltb (length sale) 2)
  where
    short : SaleCall
    short = unsold ledger time sheet currency hold fare sale

    by : (a : Bool) → ltb (length ledger) ledger_size ≡ a → (b : Bool)
        → (cond a short (cond b short (told ledger time sheet currency hold fare sale (sale_of (ledger_from ledger) time sheet (narrow currency) hold fare)))).ledger ≡ ledger
    by true p b = refl
    by false p true = refl
    by false p false =
        back ledger (sale_of (ledger_from ledger) time sheet (narrow currency) hold fare).ledger (ltb-false (length ledger) ledger_size p)
        ((sale-exact (ledger_from ledger) time sheet (narrow currency) hold fare).refused e q).1

-- records judged on a ledger that is not sound leave it
unsound-stays : (l : Ledger) (r : List ℕ) → is_sound l ≡ false → (answer_to l r).ledger ≡ l
unsound-stays l r e = ap (λ (a : StepAnswer). a.ledger) (judged-unsound l (decode_step r) e)

tell-unsound : (l : Ledger) (room : ℕ) (rs : List (List ℕ)) → is_sound l ≡ false → (tell l room rs).ledger ≡ l
unfolding tell
tell-unsound l room [] e = refl
tell-unsound l room (r ∷ rs) e =
    by (ltb room (length (answer_bytes l r))) (tell-unsound (answer_to l r).ledger (room - length (answer_bytes l r)) rs (ap is_sound (unsound-stays l r e) ∙ e) ∙ unsound-stays l r e)
  where
    more : Told
    more = tell (answer_to l r).ledger (room - length (answer_bytes l r)) rs

    outcome : Bool → Told
    outcome b = cond b (record { ledger = l; verdicts = []; full = true }) (record { ledger = more.ledger; verdicts = answer_bytes l r ∷ more.verdicts; full = more.full })

    by : (b : Bool) → more.ledger ≡ l → (outcome b).ledger ≡ l
    by true h = refl
    by false h = h

pub unsound_run_lem : (ledger trace out counts : List ℕ) → is_sound (ledger_from ledger) ≡ false → (run_on ledger trace out counts).ledger ≡ ledger
unfolding run_on replay_of
unsound_run_lem ledger trace out counts e = by (ltb (length ledger) ledger_size) refl (ltb (length counts) 2)
  where
    short : RunOnCall
    short = untouched_on ledger trace out counts

    by : (a : Bool) → ltb (length ledger) ledger_size ≡ a → (b : Bool) → (cond a short (cond b short (called_on (replay_of (ledger_from ledger) trace out) ledger counts))).ledger ≡ ledger
    by true p b = refl
    by false p true = refl
    by false p false =
        back ledger (tell (ledger_from ledger) (length out) (cut trace).records).ledger (ltb-false (length ledger) ledger_size p) (tell-unsound (ledger_from ledger) (length out) (cut trace).records e)
