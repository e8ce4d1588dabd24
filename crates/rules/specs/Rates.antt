-- What a LOOK is answered, by the history alone: claimed of every sequence of steps, and proved in proofs/Rates.antt. So a sale that goes by a LOOK goes by
-- the rate in force as the steps made it, and where the history has none the LOOK is refused. Assumes nothing.
use Rattle.std.specs.Prelude.{◌≡◌, Bool, true, not, cond, ◌&&◌, List, [], ℕ, ltb, eqb}
use Rattle.rules.specs.declared.Kind.TheVariants.{Look as LOOK}
use Rattle.rules.specs.declared.Answer.{Answer}
use Rattle.rules.specs.declared.Answer.TheVariants.{Refused, Found}
use Rattle.rules.specs.declared.Hold.{Hold}
use Rattle.rules.specs.Lists.{keep, any, none, lookup, maximum}
use Rattle.rules.specs.Limits.{Limits, limits}
use Rattle.rules.specs.State.{State}
use Rattle.rules.specs.Table.{nonzero, well_formed}
use Rattle.rules.specs.Sound.{sound}
use Rattle.rules.specs.Request.{Asked, Ask}
use Rattle.rules.specs.Step.{alone, reply}
use Rattle.rules.specs.History.{History, lists, list_at, live_at, currency_at}
use Rattle.rules.specs.Agreement.{Agrees}
use Rattle.rules.specs.Demand3.{ledger_of, history_of}

-- a hold of that number is live at the time
unfoldable pub held_at : ℕ → History → ℕ → Bool
held_at t h x = any (λ y. eqb x y.number) (keep (live_at t) h.holds)

-- the list that a LOOK reads: "Hold 0 means the current manifest", any other the manifest of the live hold
unfoldable pub list_read_at : ℕ → History → ℕ → List ℕ
list_read_at t h x = cond (eqb x 0) h.current (list_at (lookup (λ (y : Hold). y.number) (λ y. y.manifest) 0 x (keep (live_at t) h.holds)) (lists h))

-- the objects of that currency in that list: the rates in force
unfoldable pub rates_at : ℕ → History → ℕ → ℕ → List ℕ
rates_at t h c x = keep (λ n. eqb (currency_at h n) c) (list_read_at t h x)

-- the smallest of LOOK's numbers that applies, or the highest object of that currency
unfoldable pub look_at : Limits → ℕ → History → ℕ → ℕ → Answer
look_at L t h c x =
    cond (not (well_formed L t (LOOK c x) [])) (Refused 2)
    (cond (ltb t h.time) (Refused 3)
    (cond (nonzero x && not (held_at t h x)) (Refused 15)
    (cond (none (rates_at t h c x)) (Refused 16) (Found (maximum (rates_at t h c x))))))

-- of any ledger and history that agree
abbrev pub LooksFrom : Limits → (State → Bool) → Type 0
LooksFrom L test =
    (s : State) (h : History) → Agrees L s h → test s ≡ true → (t c x : ℕ) → reply L test s (Asked t (LOOK c x) []) ≡ alone (look_at L t h c x)

-- of every sequence from the fresh ledger
abbrev pub Looks : List Ask → Type 0
Looks asks = (t c x : ℕ) → reply limits (sound limits) (ledger_of asks) (Asked t (LOOK c x) []) ≡ alone (look_at limits t (history_of asks) c x)
