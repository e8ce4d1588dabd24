-- The run over a trace (document 01, "Records and names"): "A run goes on past refusals; each verdict is written directly behind the one before, and bytes
-- beyond stay. It ends at the end of the trace, torn, or full, and says which, with bytes read and written. An empty trace ends at once."
-- Assumes nothing.
use Rattle.std.specs.Prelude.{Bool, true, false, cond, ℕ, zero, suc, ◌-◌, eqb, ltb, length, take, drop}
use mathlib.Core.List.{List, [], ◌∷◌, flatten}
use Rattle.fields.specs.declared.Next.{Next}
use Rattle.fields.specs.declared.Next.TheVariants.{End, Torn, Record}
use Rattle.fields.specs.Fields.{over, next_of}
use Rattle.rules.specs.Lists.{none}
use Rattle.ledger.specs.declared.Ledger.{Ledger}
use Rattle.replay.specs.declared.Front.{Front}
use Rattle.replay.specs.declared.Ending.{Ending}
use Rattle.replay.specs.declared.Ending.TheVariants.{Whole, Torn as IsTorn, Full}
use Rattle.replay.specs.declared.Ran.{Ran}
use Rattle.replay.specs.Front.{front_code, answer_to, answer_bytes}

-- The records of a trace, and the rest behind them: nothing, or a torn record

pub record Cut : Type 0 where
  pub records : List (List ℕ)
  pub rest : List ℕ

abbrev pub cut_at : Next → List ℕ → (List ℕ → Cut) → Cut
cut_at End bs more = record { records = []; rest = bs }
cut_at Torn bs more = record { records = []; rest = bs }
cut_at (Record n) bs more = record { records = take n bs ∷ (more (drop n bs)).records; rest = (more (drop n bs)).rest }

-- at most so many records
unfoldable pub cut_for : ℕ → List ℕ → Cut
cut_for zero bs = record { records = []; rest = bs }
cut_for (suc k) bs = cut_at (next_of bs) bs (cut_for k)

-- a record has three bytes or more, so there are no more records than bytes
abbrev pub cut : List ℕ → Cut
cut bs = cut_for (length bs) bs

-- Records judged one after another, each on the ledger that the one before it left and with the room that the verdicts before it left

pub record Told : Type 0 where
  pub ledger : Ledger
  -- the bytes of each verdict
  pub verdicts : List (List ℕ)
  -- a verdict had no room
  pub full : Bool

unfoldable pub tell : Ledger → ℕ → List (List ℕ) → Told
tell l room [] = record { ledger = l; verdicts = []; full = false }
tell l room (r ∷ rs) =
    cond (ltb room (length (answer_bytes l r)))
    (record { ledger = l; verdicts = []; full = true })
    (record {
      ledger = (tell (answer_to l r).ledger (room - length (answer_bytes l r)) rs).ledger;
      verdicts = answer_bytes l r ∷ (tell (answer_to l r).ledger (room - length (answer_bytes l r)) rs).verdicts;
      full = (tell (answer_to l r).ledger (room - length (answer_bytes l r)) rs).full;
    })

-- The run whole

-- the paper's words as numbers: 0 whole, 1 torn, 2 full
abbrev pub ending_code : Ending → ℕ
ending_code Whole = 0
ending_code IsTorn = 1
ending_code Full = 2

-- what a run answers, and the output it leaves
pub record Replay : Type 0 where
  pub answer : Ran
  pub buffer : List ℕ

abbrev pub ending_of : Bool → List ℕ → Ending
ending_of full rest = cond full Full (cond (none rest) Whole IsTorn)

-- the same by what becomes of the front of what is left, as the code asks: by its number, which is then the ending's; a judged one ends no run
abbrev pub ending_at : Front → Ending
ending_at f = cond (eqb (front_code f) 1) IsTorn (cond (eqb (front_code f) 2) Full Whole)

-- the bytes read are those of the records whose verdicts were written, the bytes written those of the verdicts
abbrev pub replayed : Told → Cut → List ℕ → Replay
replayed t c out = record {
  answer = record {
    ending = ending_of t.full c.rest;
    ledger = t.ledger;
    read = length (flatten (take (length t.verdicts) c.records));
    written = length (flatten t.verdicts);
  };
  buffer = over (flatten t.verdicts) out;
}

unfoldable pub replay_of : Ledger → List ℕ → List ℕ → Replay
replay_of l trace out = replayed (tell l (length out) (cut trace).records) (cut trace) out
