-- A ledger is sound exactly when it is the layout of a sound state. Proved in proofs/SoundLaw.antt.
-- Assumes nothing.
use Rattle.std.specs.Prelude.{◌≡◌, true, length}
use Rattle.rules.specs.Limits.{limits, manifest_limit}
use Rattle.rules.specs.Lists.{◌∈◌}
use Rattle.rules.specs.State.{State}
use Rattle.rules.specs.Sound.{sound}
use Rattle.manifests.specs.declared.KeptManifest.{KeptManifest}
use Rattle.ledger.specs.declared.Ledger.{Ledger}
use Rattle.ledger.specs.Ledger.{lay, view, is_sound}

-- the arrays are as long as their types say, as those of every ledger value are
pub record Whole (l : Ledger) : Type 0 where
  pub objects : length l.objects.items ≡ limits.places
  pub manifests : length l.manifests.items ≡ manifest_limit limits
  pub names : (m : KeptManifest) → m ∈ l.manifests.items → length m.names ≡ limits.names
  pub holds : length l.holds.items ≡ limits.holds

pub record SoundLayout : Type 0 where
  -- the layout of a sound state is sound, and says that state, as the layout of any state does
  pub laid : (s : State) → sound limits s ≡ true → is_sound (lay s) ≡ true
  pub said : (s : State) → view (lay s) ≡ s
  -- what a sound ledger says is a sound state, and the ledger is its layout
  pub state : (l : Ledger) → is_sound l ≡ true → sound limits (view l) ≡ true
  pub same : (l : Ledger) → Whole l → is_sound l ≡ true → lay (view l) ≡ l
