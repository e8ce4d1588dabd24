-- Manifests in their places (document 01: "Manifests: 1 to 9, packed in rising number; the last is current"; "Unused places are all zero").
-- Assumes nothing.
use Rattle.std.specs.Prelude.{◌≡◌, Bool, true, List, [], ◌∷◌, map, ℕ, ◌+◌, ◌-◌, ◌≤◌, leb, eqb, length, take, drop, get_or, replicate}
use Rattle.rules.specs.Lists.{conj, keep, any, all, lookup}
use Rattle.rules.specs.Limits.{limits, manifest_limit}
use Rattle.rules.specs.State.{Manifest, first_manifest}
use Rattle.rules.specs.Step.{held_by}
use Rattle.rules.specs.Typed.{is_padded}
use Rattle.holds.specs.declared.Holds.{Holds}
use Rattle.holds.specs.Holds.{holds_of}
use Rattle.arrays.specs.Arrays.{pad}
use Rattle.manifests.specs.declared.KeptManifest.{KeptManifest}
use Rattle.manifests.specs.declared.Manifests.{Manifests}

-- a manifest in its places, and back
abbrev pub lay_manifest : Manifest → KeptManifest
lay_manifest m = record {
  number = m.number;
  writer = m.writer_epoch;
  compactor = m.compactor_epoch;
  count = length m.names;
  names = pad limits.names 0 m.names;
}

abbrev pub manifest_of : KeptManifest → Manifest
manifest_of m = record { number = m.number; writer_epoch = m.writer; compactor_epoch = m.compactor; names = take m.count m.names }

-- a place that is all zero; and what the checker reads past the end of the places, which no code does
abbrev pub no_manifest : KeptManifest
no_manifest = record { number = 0; writer = 0; compactor = 0; count = 0; names = replicate limits.names 0 }

abbrev pub past_end : KeptManifest
past_end = record { number = 0; writer = 0; compactor = 0; count = 0; names = [] }

-- the kept manifests, and a list of manifests in its places
abbrev pub manifests_of : Manifests → List Manifest
manifests_of ms = map manifest_of (take ms.count ms.items)

abbrev pub lay_manifests : List Manifest → Manifests
lay_manifests ms = record { count = length ms; items = pad (manifest_limit limits) no_manifest (map lay_manifest ms) }

-- the current manifest is the last
abbrev pub current_of : Manifests → KeptManifest
current_of ms = get_or ms.items (ms.count - 1) past_end

abbrev pub older_of : Manifests → List Manifest
older_of ms = map manifest_of (take (ms.count - 1) ms.items)

unfoldable pub is_no_manifest : KeptManifest → Bool
is_no_manifest m = conj (eqb m.number 0 ∷ eqb m.writer 0 ∷ eqb m.compactor 0 ∷ eqb m.count 0 ∷ is_padded m.count m.names ∷ [])

abbrev pub is_list_laid : KeptManifest → Bool
is_list_laid m = is_padded m.count m.names

-- at least one and at most as many as there are places; behind each list and behind the manifests all is zero
unfoldable pub is_laid : Manifests → Bool
is_laid ms =
    conj (leb 1 ms.count ∷ leb ms.count (manifest_limit limits)
    ∷ all is_list_laid (take ms.count ms.items) ∷ all is_no_manifest (drop ms.count ms.items) ∷ [])

-- What is asked of a list of manifests

-- one has this number; the one that has it, or manifest 0
abbrev pub has_number : List Manifest → ℕ → Bool
has_number ms k = any (λ m. eqb k m.number) ms

abbrev pub numbered : List Manifest → ℕ → Manifest
numbered ms k = lookup (λ (m : Manifest). m.number) (λ m. m) first_manifest k ms

-- "the two epochs of a manifest add to at most its number", and neither is below these
unfoldable pub epochs_follow : ℕ → ℕ → Manifest → Bool
epochs_follow w c m = conj (leb w m.writer_epoch ∷ leb c m.compactor_epoch ∷ leb (m.writer_epoch + m.compactor_epoch) m.number ∷ [])

-- of the first n manifests no more are held than there are holds, and the one that comes behind them is laid out
pub record Repackable (ms : Manifests) (n : ℕ) (hs : Holds) (last : KeptManifest) : Type 0 where
  pub laid : is_laid ms ≡ true
  pub some : n ≤ ms.count
  pub few : length (keep (held_by (holds_of hs)) (map manifest_of (take n ms.items))) ≤ limits.holds
  pub holds : hs.count ≤ limits.holds
  pub formed : lay_manifest (manifest_of last) ≡ last
