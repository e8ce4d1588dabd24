-- How many bytes the rows of an image have. Assumes nothing.
use mathlib.Core.Path.{◌≡◌, refl, ap, ◌∙◌}
use mathlib.Core.Bool.{Bool, true, false, cond}
use mathlib.Core.List.Memᴰ
use mathlib.Core.List.{List, [], ◌∷◌, ◌++◌}
use Prim.Native.Nat.{ℕ, suc, ◌+◌, ◌*◌, ◌≤◌}
use native.Mathlib.Omega.{arith}
use lib.ListN.{length, take, length-append}
use lib.Seq.{length-take-le}
use Rattle.std.specs.Prelude.{Option, None, Some}
use Rattle.fields.proofs.Fields.{length-field}
use Rattle.rules.specs.declared.Object.{Object}
use Rattle.rules.specs.declared.Hold.{Hold}
use Rattle.rules.specs.Lists.{◌∈◌, keep}
use Rattle.rules.specs.Limits.{limits}
use Rattle.rules.specs.State.{Manifest, State, occupied, objects, kept}
use Rattle.rules.specs.Sound.{sound}
use Rattle.rules.proofs.Shape.{shape_of}
use Rattle.rules.proofs.Bounds.{nine_enough}
use Rattle.arrays.proofs.Lists.{length-keep}
use Rattle.rules.proofs.Typed.{padded-room}
use Rattle.manifests.specs.declared.KeptManifest.{KeptManifest}
use Rattle.manifests.specs.Manifests.{manifest_of, is_list_laid}
use Rattle.image.specs.Rows.{row_of, bytes_from}
use Rattle.image.specs.Format.{edition_row, clock_row, collected_row, edition, single, object_row, object_cells, manifest_row, manifest_cells, hold_row, hold_cells, object_size, manifest_size, hold_size}
use Rattle.image.specs.Image.{image_tag, head_bytes, place_bytes, manifest_bytes, hold_bytes, content_of, image_of}
use Rattle.image.specs.Reading.{spot_size, rows_begin}
use Rattle.image.specs.Form.{spot_bytes}
use Rattle.image.specs.RoundTrip.{names_of, longest_image}
use Rattle.image.proofs.RowLaws.{length-row}

pub length-object : (p : ℕ) (o : Object) → length (row_of object_row (object_cells p o)) ≡ object_size
length-object p o = length-row object_row (object_cells p o) refl

pub length-place : (p : ℕ) (o : Object) → length (place_bytes p o) ≡ spot_size (occupied o)
unfolding place_bytes
length-place p o = by (occupied o)
  where
    by : (b : Bool) → length (cond b (row_of object_row (object_cells p o)) []) ≡ spot_size b
    by true = length-object p o
    by false = refl

pub length-manifest : (i : ℕ) (m : Manifest) → length (manifest_bytes i m) ≡ manifest_size + 8 * length m.names
unfolding manifest_bytes
length-manifest i m = length-row manifest_row (manifest_cells m) refl ∙ omega arith

-- a manifest in its places, of any names behind its own
module _ (m : KeptManifest) (many : length m.names ≡ limits.names) (laid : is_list_laid m ≡ true) where
  pub laid-count : m.count ≤ limits.names
  laid-count = omega (arith, many, padded-room m.count m.names laid)

  pub laid-names : length (take m.count m.names) ≡ m.count
  laid-names = length-take-le m.count m.names (omega (arith, many, laid-count))

  pub length-laid : (i : ℕ) → length (manifest_bytes i (manifest_of m)) ≡ manifest_size + 8 * m.count
  length-laid i = length-manifest i (manifest_of m) ∙ ap (λ n. manifest_size + 8 * n) laid-names

pub length-hold : (i : ℕ) (x : Hold) → length (hold_bytes i x) ≡ hold_size
unfolding hold_bytes
length-hold i x = length-row hold_row (hold_cells x) refl

pub length-single : (tag w n : ℕ) → length (row_of (record { tag = tag; widths = w ∷ []; names = 0 }) (single n)) ≡ 3 + w
length-single tag w n = length-row (record { tag = tag; widths = w ∷ []; names = 0 }) (single n) refl ∙ omega arith

pub length-head-rows : (clock collected : ℕ) → length (head_bytes clock collected) ≡ rows_begin
length-head-rows clock collected =
    let rest = row_of clock_row (single clock) ++ row_of collected_row (single collected) in
    omega (
      arith,
      length-single 0x61 1 edition,
      length-single 0x62 8 clock,
      length-single 0x63 8 collected,
      length-append (row_of edition_row (single edition)) rest,
      length-append (row_of clock_row (single clock)) (row_of collected_row (single collected)),
    )

-- ---- all rows of a kind

pub spots_bound : (p : ℕ) (ss : List (Option Object)) → length (bytes_from spot_bytes p ss) ≤ object_size * length ss
unfolding bytes_from
spots_bound p [] = omega arith
spots_bound p (s ∷ ss) = omega (arith, length-append (spot_bytes p s) (bytes_from spot_bytes (suc p) ss), by s, spots_bound (suc p) ss)
  where
    by : (s : Option Object) → length (spot_bytes p s) ≤ object_size
    by None = omega arith
    by (Some o) = omega (arith, length-object p o)

pub manifests_bound : (p : ℕ) (ms : List Manifest) → ((m : Manifest) → m ∈ ms → length m.names ≤ limits.names) → length (bytes_from manifest_bytes p ms) ≤ (manifest_size + 8 * limits.names) * length ms
unfolding bytes_from
manifests_bound p [] few = omega arith
manifests_bound p (m ∷ ms) few =
    omega (arith, length-append (manifest_bytes p m) (bytes_from manifest_bytes (suc p) ms), length-manifest p m, few m (Memᴰ.head refl), manifests_bound (suc p) ms (λ x i. few x (Memᴰ.tail i)))

pub length-holds : (p : ℕ) (xs : List Hold) → length (bytes_from hold_bytes p xs) ≡ hold_size * length xs
unfolding bytes_from
length-holds p [] = refl
length-holds p (x ∷ xs) = omega (arith, length-append (hold_bytes p x) (bytes_from hold_bytes (suc p) xs), length-hold p x, length-holds (suc p) xs)

-- ---- the image

pub length_parts : (clock collected : ℕ) (p m x : List ℕ) → length (head_bytes clock collected ++ (p ++ (m ++ x))) ≡ rows_begin + length p + length m + length x
length_parts clock collected p m x =
    omega (arith, length-append (head_bytes clock collected) (p ++ (m ++ x)), length-append p (m ++ x), length-append m x, length-head-rows clock collected)

pub length-content : (s : State) → length (content_of s) ≡ rows_begin + length (bytes_from place_bytes 0 s.places) + length (bytes_from manifest_bytes 0 (kept s)) + length (bytes_from hold_bytes 0 s.holds)
length-content s = length_parts s.clock s.highest_collected (bytes_from place_bytes 0 s.places) (bytes_from manifest_bytes 0 (kept s)) (bytes_from hold_bytes 0 s.holds)

pub length_image : (s : State) → length (image_of s) ≡ 3 + length (content_of s)
unfolding image_of
length_image s = length-field image_tag (content_of s)

places-length : (p : ℕ) (os : List Object) → length (bytes_from place_bytes p os) ≡ object_size * length (keep occupied os)
unfolding bytes_from keep
places-length p [] = refl
places-length p (o ∷ os) =
    omega (arith, length-append (place_bytes p o) (bytes_from place_bytes (suc p) os), length-place p o, by (occupied o), places-length (suc p) os)
  where
    by : (b : Bool) → object_size * length (cond b (o ∷ keep occupied os) (keep occupied os)) ≡ spot_size b + object_size * length (keep occupied os)
    by true = omega arith
    by false = omega arith

manifests-length : (p : ℕ) (ms : List Manifest) → length (bytes_from manifest_bytes p ms) ≡ manifest_size * length ms + 8 * names_of ms
unfolding bytes_from names_of
manifests-length p [] = refl
manifests-length p (m ∷ ms) = omega (arith, length-append (manifest_bytes p m) (bytes_from manifest_bytes (suc p) ms), length-manifest p m, manifests-length (suc p) ms)

names_bound : (ms : List Manifest) → ((m : Manifest) → m ∈ ms → length m.names ≤ limits.names) → names_of ms ≤ limits.names * length ms
unfolding names_of
names_bound [] few = omega arith
names_bound (m ∷ ms) few = omega (arith, few m (Memᴰ.head refl), names_bound ms (λ x i. few x (Memᴰ.tail i)))

pub image_size : (s : State) → length (image_of s) ≡ 3 + rows_begin + object_size * length (objects s) + (manifest_size * length (kept s) + 8 * names_of (kept s)) + hold_size * length s.holds
image_size s = omega (arith, length_image s, length-content s, places-length 0 s.places, manifests-length 0 (kept s), length-holds 0 s.holds)

pub image_longest : (s : State) → sound limits s ≡ true → length (image_of s) ≤ longest_image
image_longest s e =
    let r = shape_of limits s e in
    omega (arith, image_size s, length-keep occupied s.places, r.size, length-append s.older (s.current ∷ []), nine_enough limits s e, names_bound (kept s) r.short, r.few)
