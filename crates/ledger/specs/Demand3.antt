-- Demand 3 of the ledger in its places: from the fresh ledger on, what a caller keeps is always the layout of the state that the rules give, so that
-- the claim of crate rules about the history (its specs/Demand3.antt) is a claim about these ledgers and verdicts. Proved in proofs/Demand3.antt.
-- Assumes nothing.
use Rattle.std.specs.Prelude.{◌≡◌, true, cond, List, [], ◌∷◌, ℕ, leb}
use Rattle.rules.specs.declared.Step.{Step}
use Rattle.rules.specs.declared.Verdict.{Verdict}
use Rattle.rules.specs.Limits.{limits}
use Rattle.rules.specs.State.{fresh}
use Rattle.rules.specs.Sound.{sound}
use Rattle.rules.specs.Request.{Request, Ask}
use Rattle.rules.specs.Step.{size_of, reply}
use Rattle.rules.specs.Typed.{request_of, verdict_of}
use Rattle.rules.specs.Demand3.{ledger_of, Whole}
use Rattle.ledger.specs.declared.Ledger.{Ledger}
use Rattle.ledger.specs.Ledger.{lay, is_sound}
use Rattle.ledger.specs.Step.{judged}

-- a step, any value of it, and the room for its verdict; a record's request is what its bytes say (crate replay)
abbrev pub asked : Step → ℕ → Ask
asked p room = record { request = request_of p; room = room }

-- the bytes of a verdict
abbrev pub verdict_size : Verdict → ℕ
verdict_size v = size_of v.answer v.list.count

-- the next ledger: a verdict that does not fit leaves the ledger as it was
abbrev pub kept_after : Ledger → Ask → Ledger
kept_after l a = cond (leb (verdict_size (judged l a.request).verdict) a.room) (judged l a.request).ledger l

unfoldable pub ledger_after : Ledger → List Ask → Ledger
ledger_after l [] = l
ledger_after l (a ∷ asks) = ledger_after (kept_after l a) asks

pub record Delivered (asks : List Ask) : Type 0 where
  -- the ledger is the layout of the rules' state, and sound: row 1 never applies to it
  pub laid : ledger_after (lay fresh) asks ≡ lay (ledger_of asks)
  pub is_sound : is_sound (ledger_after (lay fresh) asks) ≡ true
  -- every verdict is the one that the rules give
  pub answers : (q : Request) → (judged (ledger_after (lay fresh) asks) q).verdict ≡ verdict_of (reply limits (sound limits) (ledger_of asks) q)
  -- demand 3 of that state and the history
  pub whole : Whole asks
