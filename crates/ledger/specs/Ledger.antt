-- The ledger in its places (document 01, "What the ledger holds"): a layout of the state of crate rules, and when a ledger is sound.
-- Assumes nothing.
use Rattle.std.specs.Prelude.{Bool, ◌&&◌, [], ◌∷◌}
use Rattle.rules.specs.Lists.{conj}
use Rattle.rules.specs.Limits.{limits}
use Rattle.rules.specs.State.{State, kept}
use Rattle.rules.specs.Sound.{sound}
use Rattle.objects.specs.Objects.{lay_places, is_laid as objects_laid}
use Rattle.manifests.specs.Manifests.{lay_manifests, older_of, current_of, manifest_of, is_laid as manifests_laid}
use Rattle.holds.specs.Holds.{lay_holds, holds_of, is_laid as holds_laid}
use Rattle.ledger.specs.declared.Ledger.{Ledger}

-- a state in its places: used places first, the others all zero, the occupancy words those of the places
abbrev pub lay : State → Ledger
lay s = record {
  clock = s.clock;
  collected = s.highest_collected;
  objects = lay_places s.places;
  manifests = lay_manifests (kept s);
  holds = lay_holds s.holds;
}

-- what the places say
abbrev pub view : Ledger → State
view l = record {
  clock = l.clock;
  highest_collected = l.collected;
  places = l.objects.items;
  older = older_of l.manifests;
  current = manifest_of (current_of l.manifests);
  holds = holds_of l.holds;
}

-- "the above layout is kept"
abbrev pub is_laid_out : Ledger → Bool
is_laid_out l = conj (objects_laid l.objects ∷ manifests_laid l.manifests ∷ holds_laid l.holds ∷ [])

-- "A ledger is sound when the above layout is kept, and: .."
unfoldable pub is_sound : Ledger → Bool
is_sound l = is_laid_out l && sound limits (view l)
