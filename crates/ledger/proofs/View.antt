-- What a ledger's type, its layout and its soundness tell of its parts.
-- Assumes nothing.
use mathlib.Core.Path.{◌≡◌, sym, ap, ◌∙◌}
use mathlib.Core.Bool.{true}
use mathlib.Core.List.{List, [], ◌∷◌}
use lib.ListN.{length}
use mir.Val.{Val}
use denote.Laws.{Is}
use Rattle.rules.specs.Limits.{limits}
use Rattle.rules.specs.State.{kept}
use Rattle.rules.specs.Sound.{sound}
use Rattle.rules.proofs.Lists.{and_left, and_right, conj-true}
use Rattle.rules.proofs.Shape.{Shape, shape_of}
use Rattle.objects.specs.Objects.{is_laid as objects_laid}
use Rattle.objects.proofs.Places as places
use Rattle.manifests.specs.Manifests.{manifests_of, is_laid as manifests_laid}
use Rattle.manifests.proofs.Places as lists
use Rattle.manifests.proofs.Places.{Long}
use Rattle.holds.specs.Holds.{is_laid as holds_laid}
use Rattle.holds.proofs.Places as holds
use Rattle.ledger.specs.declared.Ledger.{Ledger}
use Rattle.ledger.specs.Ledger.{lay, view, is_laid_out, is_sound}
use Rattle.ledger.specs.contracts.Ledger as ledger

-- the arrays are as long as their types say
pub record Sized (l : Ledger) : Type 0 where
  pub objects : length l.objects.items ≡ limits.places
  pub manifests : Long l.manifests
  pub holds : length l.holds.items ≡ limits.holds

pub sized : (l : Ledger) (vs : List Val) → Is ledger.the_row l vs → Sized l
sized l vs is = record {
  objects = places.items_long l.objects _ is.1.1.1.1.0;
  manifests = lists.long l.manifests _ is.1.1.1.1.1.0;
  holds = holds.items_long l.holds _ is.1.1.1.1.1.1.0;
}

-- the parts of a ledger that is laid out
pub record Laid (l : Ledger) : Type 0 where
  pub objects : objects_laid l.objects ≡ true
  pub manifests : manifests_laid l.manifests ≡ true
  pub holds : holds_laid l.holds ≡ true

pub laid_parts : (l : Ledger) → is_laid_out l ≡ true → Laid l
laid_parts l e = let f = conj-true (objects_laid l.objects ∷ manifests_laid l.manifests ∷ holds_laid l.holds ∷ []) e in record { objects = f.0; manifests = f.1.0; holds = f.1.1.0 }

module _ (l : Ledger) (e : is_sound l ≡ true) where
  pub sound-laid : is_laid_out l ≡ true
  unfolding is_sound
  sound-laid = and_left (is_laid_out l) (sound limits (view l)) e

  pub sound-view : sound limits (view l) ≡ true
  unfolding is_sound
  sound-view = and_right (is_laid_out l) (sound limits (view l)) e

  pub sound_parts : Laid l
  sound_parts = laid_parts l sound-laid

  pub sound_shape : Shape limits (view l)
  sound_shape = shape_of limits (view l) sound-view

-- the kept manifests of the view are those of the places
pub kept-view : (l : Ledger) → Sized l → Laid l → kept (view l) ≡ manifests_of l.manifests
kept-view l s p = sym (lists.split l.manifests s.manifests p.manifests)

-- "lay (view l) is l for a sound l": the layout of what a ledger that is laid out says is that ledger
pub laid_out : (l : Ledger) → Sized l → Laid l → lay (view l) ≡ l
laid_out l s p = λ i. record {
  clock = l.clock;
  collected = l.collected;
  objects = places.laid_out l.objects p.objects i;
  manifests = (ap Rattle.manifests.specs.Manifests.lay_manifests (kept-view l s p) ∙ lists.laid_out l.manifests s.manifests p.manifests) i;
  holds = holds.laid_out l.holds s.holds p.holds i;
}
