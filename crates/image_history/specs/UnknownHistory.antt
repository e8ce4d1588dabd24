-- An image of unknown history (document 02, request 6): "only this holds: collection exact by the ledger's words, no listed object missing". Claimed of
-- every sound ledger and of all that it becomes; proved in proofs/UnknownHistory.antt. Assumes nothing.
use Rattle.std.specs.Prelude.{◌≡◌, true, ◌&&◌, List, ℕ, ◌≤◌, eqb, Ok}
use Rattle.rules.specs.declared.Kind.TheVariants.{Collect as COLLECT}
use Rattle.rules.specs.declared.Answer.TheVariants.{Collected}
use Rattle.rules.specs.Lists.{any, has, rising_above}
use Rattle.rules.specs.Limits.{limits}
use Rattle.rules.specs.Request.{Asked, Ask}
use Rattle.rules.specs.State.{State, objects}
use Rattle.rules.specs.Words.{stored, listed, dead}
use Rattle.rules.specs.Sound.{sound}
use Rattle.rules.specs.Step.{reply, accepts}
use Rattle.ledger.specs.declared.Ledger.{Ledger}
use Rattle.ledger.specs.Ledger.{view, is_sound}
use Rattle.ledger.specs.SoundLaw.{Whole}
use Rattle.ledger.specs.Demand3.{ledger_after}
use Rattle.image.specs.Reading.{read_of}

pub record ByWords (s : State) : Type 0 where
  -- a collection asked next, at any time and with any room, and accepted, answers a strictly rising list: exactly the objects that the ledger's words call
  -- dead at its time
  pub collects : (t : ℕ) (l : List ℕ) (room : ℕ) → accepts limits (sound limits) s (record { request = Asked t COLLECT l; room = room }) ≡ true
      → ((reply limits (sound limits) s (Asked t COLLECT l)).answer ≡ Collected)
      × (rising_above 0 (reply limits (sound limits) s (Asked t COLLECT l)).list ≡ true)
      × ((n : ℕ) → has n (reply limits (sound limits) s (Asked t COLLECT l)).list ≡ any (λ o. eqb n o.number && dead t s o) (objects s))
  -- at the clock's time and at every later one, what the current manifest or a live hold's manifest names is stored
  pub keeps : (t : ℕ) → s.clock ≤ t → (n : ℕ) → listed t s n ≡ true → stored s n ≡ true

pub record Unknown (l : Ledger) (asks : List Ask) : Type 0 where
  pub is_sound : is_sound (ledger_after l asks) ≡ true
  pub by_words : ByWords (view (ledger_after l asks))

pub record UnknownHistory : Type 0 where
  -- any sound ledger, with any steps asked of it
  pub sound : (l : Ledger) → Whole l → is_sound l ≡ true → (asks : List Ask) → Unknown l asks
  -- so any ledger that is read from bytes
  pub loaded : (bs : List ℕ) (l : Ledger) → read_of bs ≡ Ok l → (asks : List Ask) → Unknown l asks
