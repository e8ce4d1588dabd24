-- Behind the door rows 1 to 3 do not apply: the verdict is the first of the other rows, and what a step comes to follows from it.
-- Assumes nothing.
use mathlib.Core.Path.{◌≡◌, refl, ap, ◌∙◌}
use mathlib.Core.List.{List, ◌∷◌}
use Prim.Native.Nat.{ℕ}
use borrow.Author.Tests.{eq-eqb, ne_eqb, le-ltb}
use lib.ListN.{drop}
use Rattle.rules.specs.declared.Kind.{Kind}
use Rattle.rules.specs.declared.Kind.TheVariants.{Fence as FENCE, Put as PUT, Commit as COMMIT, Compact as COMPACT, Hold as HOLD, Renew as RENEW, Release as RELEASE, List as LIST, Look as LOOK, Collect as COLLECT}
use Rattle.rules.specs.Limits.{Limits, limits}
use Rattle.rules.specs.State.{State}
use Rattle.rules.specs.Table.{◌if◌, row2, row3, rows, first_of}
use Rattle.rules.specs.Sound.{sound}
use Rattle.rules.specs.Request.{Asked}
use Rattle.rules.specs.Step.{effect, granted, verdict}
use Rattle.ledger.specs.declared.Ledger.{Ledger}
use Rattle.ledger.specs.Ledger.{lay, view}
use Rattle.ledger.specs.Rows.{row_behind}
use Rattle.ledger.specs.Step.{Admitted, refused_with, answered_with, ruled}
use Rattle.ledger.proofs.View.{sound-view}

-- rows 2 and 3 stand first for every kind
pub rows_door : (L : Limits) (s : State) (t : ℕ) (k : Kind) (l : List ℕ) → rows L s t k l ≡ (2 if row2 L t k l) ∷ (3 if row3 s t) ∷ drop 2 (rows L s t k l)
unfolding rows
rows_door L s t (FENCE r slot) l = refl
rows_door L s t (PUT r e n c) l = refl
rows_door L s t (COMMIT e slot) l = refl
rows_door L s t (COMPACT e slot n) l = refl
rows_door L s t (HOLD x m e) l = refl
rows_door L s t (RENEW x e) l = refl
rows_door L s t (RELEASE x) l = refl
rows_door L s t (LIST x) l = refl
rows_door L s t (LOOK c x) l = refl
rows_door L s t COLLECT l = refl

module _ (l : Ledger) (t : ℕ) (k : Kind) (names : List ℕ) (a : Admitted l t k names) where
  behind_door : verdict limits (sound limits) (view l) (Asked t k names) ≡ row_behind (view l) t k names
  unfolding verdict first_of
  behind_door =
      rw (sound-view l a.is_sound) (ap first_of (rows_door limits (view l) t k names) ∙ (rw (a.formed, le-ltb t l.clock a.on_time)))

  module _ (r : ℕ) (e : r ≡ row_behind (view l) t k names) where
    -- a row applies
    pub turned_away : (r ≡ 0 → ⊥) → refused_with r l ≡ ruled (Asked t k names) l
    unfolding ruled
    turned_away f = rw (behind_door, ← e, ne_eqb r 0 f)

    -- none does
    pub taken : r ≡ 0 → answered_with (granted (Asked t k names) (view l)) (lay (effect (Asked t k names) (view l))) ≡ ruled (Asked t k names) l
    unfolding ruled
    taken f = rw (behind_door, ← e, eq-eqb r 0 f)
