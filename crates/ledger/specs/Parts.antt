-- Row 1's test, part by part, on a ledger that is laid out.
-- Assumes nothing.
use Rattle.std.specs.Prelude.{Bool, List, [], ◌∷◌, ℕ, take}
use Rattle.rules.specs.declared.Object.{Object}
use Rattle.rules.specs.declared.Hold.{Hold}
use Rattle.rules.specs.Lists.{conj, all, distinct, rising_above}
use Rattle.rules.specs.State.{Manifest}
use Rattle.rules.specs.Words.{live}
use Rattle.rules.specs.Step.{held_by}
use Rattle.rules.specs.Sound.{ordered}
use Rattle.objects.specs.Objects.{among, named_in, numbers_in, place_sound_by}
use Rattle.manifests.specs.declared.KeptManifest.{KeptManifest}
use Rattle.manifests.specs.Manifests.{manifests_of, older_of, current_of, has_number}
use Rattle.holds.specs.Holds.{holds_of, numbers}
use Rattle.ledger.specs.declared.Ledger.{Ledger}

-- stored objects have distinct numbers, and epochs up to their role's
unfoldable pub objects_sound : Ledger → Bool
objects_sound l =
    conj (all (place_sound_by (current_of l.manifests).writer (current_of l.manifests).compactor) l.objects.items ∷ distinct (numbers_in l.objects.items) ∷ [])

-- a list rises strictly without 0, and its objects are stored and marked as named
unfoldable pub list_sound : List Object → KeptManifest → Bool
list_sound ps m = conj (rising_above 0 (take m.count m.names) ∷ all (named_in ps) (take m.count m.names) ∷ [])

-- the same, by the numbers of the objects that are marked as named
abbrev pub list_sound_by : List ℕ → KeptManifest → Bool
list_sound_by named m = conj (rising_above 0 (take m.count m.names) ∷ all (among named) (take m.count m.names) ∷ [])

-- the kept manifests are in order, their lists are sound, and each but the current one is held
unfoldable pub manifests_sound : Ledger → Bool
manifests_sound l =
    conj (ordered 0 0 0 (manifests_of l.manifests) ∷ all (list_sound l.objects.items) (take l.manifests.count l.manifests.items)
    ∷ all (held_by (holds_of l.holds)) (older_of l.manifests) ∷ [])

-- a hold names a kept manifest
abbrev pub hold_kept : List Manifest → Hold → Bool
hold_kept ms x = has_number ms x.manifest

-- holds are in rising number, each names a kept manifest and is live
unfoldable pub holds_sound : Ledger → Bool
holds_sound l =
    conj (rising_above 0 (numbers (holds_of l.holds)) ∷ all (hold_kept (manifests_of l.manifests)) (holds_of l.holds) ∷ all (live l.clock) (holds_of l.holds) ∷ [])
