-- "strike any refused steps from a trace that ends whole, and the others' verdicts and the last ledger are unchanged, room sufficing" (document 02, request
-- 13): claimed here of every list of asks and every state to start from, sound or not, and proved in proofs/Struck.antt. Of asks on any ledger value: crate
-- guarantees; of the bytes of a run: crate replay, specs/Struck.antt. Assumes nothing.
use Rattle.std.specs.Prelude.{◌≡◌, Bool, true, false, not, ◌&&◌, ◌||◌, List, [], ◌∷◌}
use Rattle.rules.specs.Limits.{Limits}
use Rattle.rules.specs.Lists.{all}
use Rattle.rules.specs.State.{State}
use Rattle.rules.specs.Sound.{sound}
use Rattle.rules.specs.Request.{Ask}
use Rattle.rules.specs.Step.{accepts, next}
use Rattle.rules.specs.Demand3.{ledger_from, events_from}
use Rattle.rules.specs.Raised.{replies_from}

-- ---- What is struck, and what can be: of anything that is asked one after another

-- a mark for each of a list's elements, in order: true strikes it; where the marks end all stay. What is left:
unfoldable pub others : {A : Type 0} → List Bool → List A → List A
others [] l = l
others (b ∷ bs) [] = []
others (true ∷ bs) (x ∷ xs) = others bs xs
others (false ∷ bs) (x ∷ xs) = x ∷ others bs xs

-- only where the second list has true is struck; marks behind its end strike nothing
unfoldable pub within : List Bool → List Bool → Bool
within [] rs = true
within (b ∷ bs) [] = true
within (b ∷ bs) (r ∷ rs) = (not b || r) && within bs rs

module _ {S A : Type 0} (next : S → A → S) where
  -- what f says of each, on what the one before it left
  unfoldable pub each : {R : Type 0} → (S → A → R) → S → List A → List R
  each f s [] = []
  each f s (x ∷ xs) = f s x ∷ each f (next s x) xs

  module _ (refuses : S → A → Bool) (s : S) (xs : List A) where
    -- which of them are refused
    abbrev pub refusals : List Bool
    refusals = each refuses s xs

    -- refused ones and no others can be struck
    pub record Strikable : Type 0 where
      -- where none is refused nothing can be struck
      pub nothing : all not refusals ≡ true → (marks : List Bool) → within marks refusals ≡ true → others marks xs ≡ xs
      -- all that are refused can be struck, and of those left none is refused
      pub every : within refusals refusals ≡ true
      pub none_left : all not (each refuses s (others refusals xs)) ≡ true

-- ---- Of asks, on the rules

-- not accepted: refused, or without room for the verdict
abbrev pub not_accepted : Limits → State → Ask → Bool
not_accepted L s a = not (accepts L (sound L) s a)

pub record Unchanged (L : Limits) (s : State) (marks : List Bool) (asks : List Ask) : Type 0 where
  -- "the others' verdicts": each with its number and its list
  pub replies : replies_from L s (others marks asks) ≡ others marks (replies_from L s asks)
  -- which of the others were accepted
  pub events : events_from L (sound L) s (others marks asks) ≡ others marks (events_from L (sound L) s asks)
  -- "the last ledger"
  pub ledger : ledger_from L (sound L) s (others marks asks) ≡ ledger_from L (sound L) s asks

pub record Strikes (L : Limits) : Type 0 where
  pub unchanged : (s : State) (marks : List Bool) (asks : List Ask) → within marks (refusals (next L (sound L)) (not_accepted L) s asks) ≡ true → Unchanged L s marks asks
  pub strikable : (s : State) (asks : List Ask) → Strikable (next L (sound L)) (not_accepted L) s asks
