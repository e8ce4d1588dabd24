-- The step on bytes: a refused record leaves the ledger; the end, torn and full leave all.
-- Assumes nothing.
use mathlib.Core.Path.{◌≡◌, refl, sym, ap, ◌∙◌}
use mathlib.Core.Logic.{◌↔◌}
use mathlib.Core.Bool.{Bool, true, false, cond}
use mathlib.Core.List.{List}
use Prim.Native.Nat.{ℕ, ◌<◌}
use native.Mathlib.Omega.{arith}
use lib.Dec.{ltb}
use lib.ListN.{length, take}
use borrow.Author.Tests.{ltb-true, lt-ltb}
use Rattle.fields.specs.declared.Next.{Next}
use Rattle.fields.specs.declared.Next.TheVariants.{End, Torn, Record}
use Rattle.fields.specs.Fields.{next_of}
use Rattle.rules.specs.Request.{Unreadable}
use Rattle.records.specs.Steps.{decode_step}
use Rattle.ledger.specs.declared.Ledger.{Ledger}
use Rattle.ledger.specs.declared.StepAnswer.{StepAnswer}
use Rattle.ledger.proofs.AnyLedger.{number-refused, no_step-refused}
use Rattle.replay.specs.declared.Front.TheVariants.{Full}
use Rattle.replay.specs.Front.{answer_bytes, front_code, Judgement, unchanged, judged_with, record_step, step_at, front_step}
use Rattle.guarantees.specs.Guarantees.{number_on}

module _ (l : Ledger) (bytes out : List ℕ) where
  pub refused_record_lem : (number_on l (decode_step bytes) ≡ 0 → ⊥) → (record_step l bytes out).answer.ledger ≡ l
  unfolding record_step
  refused_record_lem f = by (ltb (length out) (length (answer_bytes l bytes)))
    where
      by : (b : Bool) → (cond b (unchanged Full l out) (judged_with l bytes out)).answer.ledger ≡ l
      by true = refl
      by false = ap (λ (a : StepAnswer). a.ledger) (number-refused l (decode_step bytes) f)

  pub no_step_record_lem : decode_step bytes ≡ Unreadable → (record_step l bytes out).answer.ledger ≡ l
  no_step_record_lem e = refused_record_lem (λ z. no_step-refused l (sym (ap (number_on l) e) ∙ z))

-- a judged record's number is 3, one without room has 2
abbrev Kept : Ledger → List ℕ → Judgement → Type 0
Kept l out j = front_code j.answer.front < 3 → j ≡ unchanged j.answer.front l out

record_kept : (l : Ledger) (bytes out : List ℕ) → Kept l out (record_step l bytes out)
unfolding record_step
record_kept l bytes out = by (ltb (length out) (length (answer_bytes l bytes)))
  where
    by : (b : Bool) → Kept l out (cond b (unchanged Full l out) (judged_with l bytes out))
    by true h = refl
    by false h = absurd (omega (arith, h))

pub untouched : (l : Ledger) (trace out : List ℕ) → Kept l out (front_step l trace out)
unfolding front_step
untouched l trace out = by (next_of trace)
  where
    by : (n : Next) → Kept l out (step_at n l trace out)
    by End h = refl
    by Torn h = refl
    by (Record n) h = record_kept l (take n trace) out h

abbrev code_at : Next → Ledger → List ℕ → List ℕ → ℕ
code_at n l trace out = front_code (step_at n l trace out).answer.front

-- what a record comes to: 2 where its verdict is longer than the room, else 3
record_code : (l : Ledger) (bytes out : List ℕ) → (b : Bool) → ltb (length out) (length (answer_bytes l bytes)) ≡ b → front_code (record_step l bytes out).answer.front ≡ cond b 2 3
unfolding record_step
record_code l bytes out true e = rw e
record_code l bytes out false e = rw e

pub torn : (l : Ledger) (trace out : List ℕ) → (front_code (front_step l trace out).answer.front ≡ 1) ↔ (next_of trace ≡ Torn)
unfolding front_step
torn l trace out = (by (next_of trace), λ e. ap (λ (n : Next). code_at n l trace out) e)
  where
    by : (n : Next) → code_at n l trace out ≡ 1 → n ≡ Torn
    by End z = absurd (omega (arith, z))
    by Torn z = refl
    by (Record n) z = absurd (go (ltb (length out) (length (answer_bytes l (take n trace)))) refl)
      where
        go : (b : Bool) → ltb (length out) (length (answer_bytes l (take n trace))) ≡ b → ⊥
        go true e = omega (arith, z, record_code l (take n trace) out true e)
        go false e = omega (arith, z, record_code l (take n trace) out false e)

pub full : (l : Ledger) (trace out : List ℕ) (n : ℕ) → next_of trace ≡ Record n
    → (front_code (front_step l trace out).answer.front ≡ 2) ↔ (length out < length (answer_bytes l (take n trace)))
unfolding front_step
full l trace out n e = (λ z. short (ltb (length out) size) refl (sym here ∙ z), λ h. here ∙ record_code l (take n trace) out true (lt-ltb (length out) size h))
  where
    size : ℕ
    size = length (answer_bytes l (take n trace))

    here : code_at (next_of trace) l trace out ≡ code_at (Record n) l trace out
    here = ap (λ (k : Next). code_at k l trace out) e

    short : (b : Bool) → ltb (length out) size ≡ b → code_at (Record n) l trace out ≡ 2 → length out < size
    short true p z = ltb-true (length out) size p
    short false p z = absurd (omega (arith, z, record_code l (take n trace) out false p))
