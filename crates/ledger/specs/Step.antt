-- What a step on a ledger comes to: the rule of crate rules, laid out.
-- Assumes nothing.
use Rattle.std.specs.Prelude.{◌≡◌, true, false, not, cond, List, ℕ, suc, ◌≤◌, ◌<◌, ◌^◌, ltb, eqb}
use Rattle.rules.specs.declared.Kind.{Kind}
use Rattle.rules.specs.declared.Answer.TheVariants.{Refused}
use Rattle.rules.specs.declared.Step.{Step}
use Rattle.rules.specs.declared.NameList.{NameList}
use Rattle.rules.specs.declared.Object.{Object}
use Rattle.rules.specs.Lists.{keep, has, rising_above}
use Rattle.rules.specs.Limits.{limits}
use Rattle.rules.specs.Table.{well_formed}
use Rattle.rules.specs.Sound.{sound}
use Rattle.rules.specs.Request.{Request}
use Rattle.rules.specs.Step.{Reply, alone, effect, granted, verdict}
use Rattle.rules.specs.Typed.{is_padded, names_of, request_of, can_say, verdict_of}
use Rattle.objects.specs.Objects.{currency_in}
use Rattle.ledger.specs.declared.Ledger.{Ledger}
use Rattle.ledger.specs.declared.StepAnswer.{StepAnswer}
use Rattle.ledger.specs.Ledger.{lay, view, is_sound}

-- turned away: "Ledger unchanged each time"
abbrev pub refused_with : ℕ → Ledger → StepAnswer
refused_with n l = record { verdict = verdict_of (alone (Refused n)); ledger = l }

abbrev pub answered_with : Reply → Ledger → StepAnswer
answered_with r l = record { verdict = verdict_of r; ledger = l }

-- the rule, on a ledger that is sound: row 1 does not apply
abbrev pub ruled_by : ℕ → Request → Ledger → StepAnswer
ruled_by n q l = cond (eqb n 0) (answered_with (granted q (view l)) (lay (effect q (view l)))) (refused_with n l)

unfoldable pub ruled : Request → Ledger → StepAnswer
ruled q l = ruled_by (verdict limits (sound limits) (view l) q) q l

-- a request on any ledger value: 1 where the ledger is not sound
unfoldable pub judged : Ledger → Request → StepAnswer
judged l q = cond (is_sound l) (ruled q l) (refused_with 1 l)

-- a step, any value of it
abbrev pub step_of : Ledger → Step → StepAnswer
step_of l p = judged l (request_of p)

-- rows 1 to 3, which every kind has first
abbrev pub door_of : Ledger → Step → ℕ
door_of l p = cond (is_sound l) (cond (can_say (request_of p)) (cond (ltb p.time l.clock) 3 0) 2) 1

-- what is known behind the door
pub record Admitted (l : Ledger) (t : ℕ) (k : Kind) (names : List ℕ) : Type 0 where
  pub is_sound : is_sound l ≡ true
  pub formed : well_formed limits t k names ≡ true
  pub on_time : l.clock ≤ t

-- a new manifest can be made: the next number fits, and its list fits its places
pub record Publishable (l : Ledger) (count : ℕ) (names : List ℕ) : Type 0 where
  pub is_sound : is_sound l ≡ true
  pub next : suc (view l).current.number < 2 ^ 64
  pub padded : is_padded count names ≡ true

-- the names of the list that have another currency
abbrev pub others_in : List Object → ℕ → List ℕ → List ℕ
others_in ps c l = keep (λ m. not (eqb (currency_in ps m) c)) l

-- there is room for one name more in a list that rises and does not have it
pub record Insertable (l : NameList) (n : ℕ) : Type 0 where
  pub padded : is_padded l.count l.names ≡ true
  pub room : l.count < limits.names
  pub rising : rising_above 0 (names_of l) ≡ true
  pub absent : has n (names_of l) ≡ false
