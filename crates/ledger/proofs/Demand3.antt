-- Every step on the layout of a sound state answers and leaves what the rules do; so demand 3 holds of every sequence of steps on the ledger.
-- Assumes nothing.
use mathlib.Core.Path.{◌≡◌, refl, ap, ◌∙◌}
use mathlib.Core.Bool.{Bool, true, false, cond, ◌&&◌}
use mathlib.Core.List.{List, [], ◌∷◌}
use Prim.Native.Nat.{ℕ}
use lib.Dec.{leb, eqb}
use Rattle.rules.specs.declared.Answer.TheVariants.{Refused}
use Rattle.rules.specs.Limits.{limits}
use Rattle.rules.specs.State.{State, fresh}
use Rattle.rules.specs.Sound.{sound}
use Rattle.rules.specs.Request.{Request, Ask}
use Rattle.rules.specs.Step.{alone, size, effect, granted, verdict, reply, accepts, next}
use Rattle.rules.specs.Typed.{verdict_of}
use Rattle.rules.specs.Demand3.{ledger_from, ledger_of}
use Rattle.rules.proofs.Soundness.{sound-fresh, next-sound}
use Rattle.rules.proofs.Whole.{whole}
use Rattle.ledger.specs.declared.Ledger.{Ledger}
use Rattle.ledger.specs.declared.StepAnswer.{StepAnswer}
use Rattle.ledger.specs.Ledger.{lay, is_sound}
use Rattle.ledger.specs.Step.{refused_with, answered_with, ruled, judged}
use Rattle.ledger.specs.Demand3.{kept_after, ledger_after, Delivered}
use Rattle.ledger.proofs.SoundLaw.{view-lay, lay-sound}

-- what the rules give, laid out
abbrev ruled_at : ℕ → Request → State → StepAnswer
ruled_at n q s = record { verdict = verdict_of (cond (eqb n 0) (granted q s) (alone (Refused n))); ledger = lay (cond (eqb n 0) (effect q s) s) }

module _ (s : State) (e : sound limits s ≡ true) where
  by_row : (b : Bool) (n : ℕ) (q : Request) → cond b (answered_with (granted q s) (lay (effect q s))) (refused_with n (lay s))
      ≡ record { verdict = verdict_of (cond b (granted q s) (alone (Refused n))); ledger = lay (cond b (effect q s) s) }
  by_row true n q = refl
  by_row false n q = refl

  pub step-laid : (q : Request) → judged (lay s) q ≡ ruled_at (verdict limits (sound limits) s q) q s
  unfolding judged ruled
  step-laid q = rw (lay-sound s e, view-lay s) (by_row (eqb (verdict limits (sound limits) s q) 0) (verdict limits (sound limits) s q) q)

  pub verdict-laid : (q : Request) → (judged (lay s) q).verdict ≡ verdict_of (reply limits (sound limits) s q)
  unfolding reply
  verdict-laid q = ap (λ (r : StepAnswer). r.verdict) (step-laid q)

  kept_by_lem : (b c : Bool) (t u : State) → cond c (lay (cond b t u)) (lay u) ≡ lay (cond (b && c) t u)
  kept_by_lem true true t u = refl
  kept_by_lem true false t u = refl
  kept_by_lem false true t u = refl
  kept_by_lem false false t u = refl

  pub next-laid : (a : Ask) → kept_after (lay s) a ≡ lay (next limits (sound limits) s a)
  unfolding next accepts reply
  next-laid a =
      let q = a.request in
      let n = verdict limits (sound limits) s q in
      rw (step-laid q) (kept_by_lem (eqb n 0) (leb (size (reply limits (sound limits) s q)) a.room) (effect q s) s)

-- a sequence, from any sound state on
pub after-laid : (s : State) → sound limits s ≡ true → (asks : List Ask) → ledger_after (lay s) asks ≡ lay (ledger_from limits (sound limits) s asks)
unfolding ledger_after ledger_from
after-laid s e [] = refl
after-laid s e (a ∷ asks) =
    ap (λ (l : Ledger). ledger_after l asks) (next-laid s e a)
    ∙ after-laid (next limits (sound limits) s a) (next-sound limits (sound limits) s a e) asks

pub delivered : (asks : List Ask) → Delivered asks
delivered asks =
    let laid = after-laid fresh (sound-fresh limits) asks in
    let w = whole asks in
    record {
      laid = laid;
      is_sound = ap is_sound laid ∙ lay-sound (ledger_of asks) w.is_sound;
      answers = λ q. ap (λ (l : Ledger). (judged l q).verdict) laid ∙ verdict-laid (ledger_of asks) w.is_sound q;
      whole = w;
    }
