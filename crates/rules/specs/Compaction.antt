-- "compare looks just before and just after an accepted COMPACT, both at its time" (document 02, request 13): claimed of every ledger and every room, and by
-- the history of every sequence of steps; proved in proofs/Compaction.antt. That the ledger is sound is in the acceptance, by row 1. Assumes nothing.
use Rattle.std.specs.Prelude.{◌≡◌, Bool, true, not, List, [], ◌∷◌, ◌++◌, ℕ}
use Rattle.rules.specs.declared.Kind.TheVariants.{Compact as COMPACT, Look as LOOK}
use Rattle.rules.specs.Limits.{Limits, limits}
use Rattle.rules.specs.Lists.{none}
use Rattle.rules.specs.State.{State}
use Rattle.rules.specs.Words.{currency_of, of_currency}
use Rattle.rules.specs.Sound.{sound}
use Rattle.rules.specs.Request.{Asked, Ask}
use Rattle.rules.specs.Step.{Reply, reply, accepts, next}
use Rattle.rules.specs.History.{History, Event, currency_at, feed}
use Rattle.rules.specs.Agreement.{Agrees}
use Rattle.rules.specs.Demand3.{ledger_of, history_of}
use Rattle.rules.specs.Rates.{rates_at, look_at}

-- a COMPACT of object n at time t, with the room for its verdict; and the same as an event that was accepted
abbrev pub compacting : ℕ → ℕ → ℕ → ℕ → List ℕ → ℕ → Ask
compacting t e slot n l room = record { request = Asked t (COMPACT e slot n) l; room = room }

abbrev pub accepted : Ask → Event
accepted a = record { request = a.request; accepted = true }

-- ---- On the ledger

-- what a LOOK is told: the object, or the refusal
abbrev pub looked : Limits → State → ℕ → ℕ → ℕ → Reply
looked L s t c x = reply L (sound L) s (Asked t (LOOK c x) [])

-- the current manifest's objects of that currency, and whether it has one
abbrev pub in_current : State → ℕ → List ℕ
in_current s c = of_currency s c s.current.names

abbrev pub in_force : State → ℕ → Bool
in_force s c = not (none (in_current s c))

-- before and after: the ledger that a COMPACT of object n at time t finds, and the one that it leaves
pub record LooksKept (L : Limits) (t n : ℕ) (before after : State) : Type 0 where
  -- "The current manifest has the same currencies": each of them, 0 too
  pub currencies : (c : ℕ) → in_force after c ≡ in_force before c
  -- "all but the compacted one give the same object": or the same refusal
  pub others : (c : ℕ) → (c ≡ currency_of before n → ⊥) → looked L after t c 0 ≡ looked L before t c 0
  -- and have the same objects: of currency 0 no LOOK tells; the compacted one has the object alone
  pub objects : (c : ℕ) → (c ≡ currency_of before n → ⊥) → in_current after c ≡ in_current before c
  pub brought : in_current after (currency_of before n) ≡ n ∷ []
  -- "looks through live holds are the same", of every currency, the refusals too; through a hold that is not live they are refused before and after
  pub held : (c x : ℕ) → (x ≡ 0 → ⊥) → looked L after t c x ≡ looked L before t c x

abbrev pub Compactions : Limits → Type 0
Compactions L = (s : State) (t e slot n : ℕ) (l : List ℕ) (room : ℕ) → accepts L (sound L) s (compacting t e slot n l room) ≡ true
    → LooksKept L t n s (next L (sound L) s (compacting t e slot n l room))

-- ---- By the history: what it says that looks are answered (Rates.antt), before and after it noted the COMPACT

abbrev pub in_force_at : ℕ → History → ℕ → Bool
in_force_at t h c = not (none (rates_at t h c 0))

pub record LooksKeptAt (L : Limits) (t n : ℕ) (before after : History) : Type 0 where
  pub currencies : (c : ℕ) → in_force_at t after c ≡ in_force_at t before c
  pub others : (c : ℕ) → (c ≡ currency_at before n → ⊥) → look_at L t after c 0 ≡ look_at L t before c 0
  pub objects : (c : ℕ) → (c ≡ currency_at before n → ⊥) → rates_at t after c 0 ≡ rates_at t before c 0
  pub brought : rates_at t after (currency_at before n) 0 ≡ n ∷ []
  pub held : (c x : ℕ) → (x ≡ 0 → ⊥) → look_at L t after c x ≡ look_at L t before c x

-- of any ledger and history that agree
abbrev pub CompactionsFrom : Limits → Type 0
CompactionsFrom L =
    (s : State) (h : History) → Agrees L s h → (t e slot n : ℕ) (l : List ℕ) (room : ℕ) → accepts L (sound L) s (compacting t e slot n l room) ≡ true
    → LooksKeptAt L t n h (feed h (accepted (compacting t e slot n l room)))

-- of every sequence from the fresh ledger, with the COMPACT behind it
abbrev pub CompactionsOf : List Ask → Type 0
CompactionsOf asks = (t e slot n : ℕ) (l : List ℕ) (room : ℕ) → accepts limits (sound limits) (ledger_of asks) (compacting t e slot n l room) ≡ true
    → LooksKeptAt limits t n (history_of asks) (history_of (asks ++ compacting t e slot n l room ∷ []))
