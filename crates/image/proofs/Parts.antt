-- The parts of a sound ledger's image, over the places that the code goes through. Assumes nothing.
use mathlib.Core.Path.{◌≡◌, refl, sym, ap, ◌∙◌}
use mathlib.Core.Bool.{true}
use mathlib.Core.List.{List, ◌++◌}
use Prim.Native.Nat.{ℕ, ◌+◌, ◌^◌, ◌≤◌, ◌<◌}
use native.Mathlib.Omega.{arith}
use lib.ListN.{length, take}
use Rattle.rules.specs.Lists.{all}
use Rattle.rules.specs.Limits.{limits, manifest_limit}
use Rattle.rules.proofs.Lists.{in_all}
use Rattle.manifests.specs.Manifests.{manifest_of, is_list_laid}
use Rattle.manifests.proofs.Places.{few, padded}
use Rattle.holds.proofs.Places.{few as held-few}
use Rattle.ledger.specs.declared.Ledger.{Ledger}
use Rattle.ledger.specs.Ledger.{view, is_sound}
use Rattle.ledger.proofs.View.{Sized, Laid, sound_parts, sound-view, kept-view}
use Rattle.image.specs.Rows.{bytes_from}
use Rattle.image.specs.Image.{head_bytes, place_bytes, manifest_bytes, hold_bytes, content_of, image_of}
use Rattle.image.proofs.Walks.{bytes-map}
use Rattle.image.proofs.Lengths.{length_parts, length_image, image_longest}

-- every object and every hold has a row that says all of it
pub all-any : {A : Type 0} (xs : List A) → all (λ _. true) xs ≡ true
all-any xs = in_all (λ _. true) xs (λ x i. refl)

-- the parts behind the head
abbrev pub places : Ledger → List ℕ
places l = bytes_from place_bytes 0 l.objects.items

abbrev pub manifests : Ledger → List ℕ
manifests l = bytes_from (λ p m. manifest_bytes p (manifest_of m)) 0 (take l.manifests.count l.manifests.items)

abbrev pub holds : Ledger → List ℕ
holds l = bytes_from hold_bytes 0 (take l.holds.count l.holds.items)

module _ (l : Ledger) (size : Sized l) (good : is_sound l ≡ true) where
  parts : Laid l
  parts = sound_parts l good

  pub manifests-within : l.manifests.count ≤ manifest_limit limits
  manifests-within = few l.manifests parts.manifests

  pub holds-within : l.holds.count ≤ limits.holds
  holds-within = held-few l.holds parts.holds

  pub lists-laid : all is_list_laid (take l.manifests.count l.manifests.items) ≡ true
  lists-laid = padded l.manifests size.manifests parts.manifests

  pub content : content_of (view l) ≡ head_bytes l.clock l.collected ++ (places l ++ (manifests l ++ holds l))
  content =
      let kept = ap (bytes_from manifest_bytes 0) (kept-view l size parts) ∙ sym (bytes-map manifest_bytes manifest_of 0 (take l.manifests.count l.manifests.items)) in
      ap (λ (m : List ℕ). head_bytes l.clock l.collected ++ (places l ++ (m ++ holds l))) kept

  pub image_parts : length (image_of (view l)) ≡ 29 + length (places l) + length (manifests l) + length (holds l)
  image_parts = omega (arith, length_image (view l), ap length content, length_parts l.clock l.collected (places l) (manifests l) (holds l))

  pub image_short : length (image_of (view l)) < 2 ^ 64
  image_short = omega (arith, image_longest (view l) (sound-view l good))
