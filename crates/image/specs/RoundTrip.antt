-- An image and its ledger (document 02, request 6): reading and writing undo each other, and how long an image is. Numbers fit their columns and bytes are
-- below 256, as the types have it. Proved in proofs/RoundTrip.antt. Assumes nothing.
use Rattle.std.specs.Prelude.{◌≡◌, ◌⊎◌, true, List, [], ◌∷◌, ℕ, ◌+◌, ◌*◌, ◌^◌, ◌≤◌, ◌<◌, ltb, length, Ok, Err}
use Rattle.rules.specs.declared.Object.{Object}
use Rattle.rules.specs.declared.Hold.{Hold}
use Rattle.rules.specs.Lists.{◌∈◌, all}
use Rattle.rules.specs.Limits.{limits, manifest_limit}
use Rattle.rules.specs.State.{Manifest, State, fresh, objects, kept}
use Rattle.rules.specs.Sound.{sound}
use Rattle.records.specs.RoundTrip.{are_bytes}
use Rattle.ledger.specs.declared.Ledger.{Ledger}
use Rattle.ledger.specs.Ledger.{lay, view, is_sound}
use Rattle.ledger.specs.SoundLaw.{Whole}
use Rattle.image.specs.declared.LoadError.TheVariants.{Unsound, Malformed}
use Rattle.image.specs.Fit.{fits}
use Rattle.image.specs.Format.{object_row, object_cells, manifest_row, manifest_cells, hold_row, hold_cells, object_size, manifest_size, hold_size}
use Rattle.image.specs.Image.{image_of}
use Rattle.image.specs.Reading.{rows_begin, read_of, ledger_beside}

-- every number of the ledger fits its column
pub record Fits (s : State) : Type 0 where
  pub clock : s.clock < 2 ^ 64
  pub collected : s.highest_collected < 2 ^ 64
  pub objects : (o : Object) → o ∈ s.places → fits object_row.widths (object_cells 0 o).numbers ≡ true
  pub manifests : (m : Manifest) → m ∈ kept s → fits manifest_row.widths (manifest_cells m).numbers ≡ true
  pub names : (m : Manifest) → m ∈ kept s → all (λ n. ltb n (2 ^ 64)) m.names ≡ true
  pub holds : (x : Hold) → x ∈ s.holds → fits hold_row.widths (hold_cells x).numbers ≡ true

-- how many names the manifests have
unfoldable pub names_of : List Manifest → ℕ
names_of [] = 0
names_of (m ∷ ms) = length m.names + names_of ms

-- every place has an object, every manifest all its names, and all holds are there
abbrev pub longest_image : ℕ
longest_image = 3 + rows_begin + object_size * limits.places + (manifest_size * manifest_limit limits + 8 * (limits.names * manifest_limit limits)) + hold_size * limits.holds

pub record ImageRoundTrip : Type 0 where
  -- "Reading what was written gives the same ledger, free places included"
  pub reads_written : (l : Ledger) → Whole l → Fits (view l) → is_sound l ≡ true → read_of (image_of (view l)) ≡ Ok l
  -- "A sound ledger has exactly one image": whatever is read as a ledger is that ledger's image
  pub writes_read : (bs : List ℕ) (l : Ledger) → are_bytes bs ≡ true → read_of bs ≡ Ok l → (is_sound l ≡ true) × (image_of (view l) ≡ bs)
  -- its numbers fit their columns
  pub fits : (bs : List ℕ) (l : Ledger) → are_bytes bs ≡ true → read_of bs ≡ Ok l → Fits (view l)
  -- bytes that no sound ledger has as its image are refused, with 1 or 2 and the fresh ledger beside it; Form.antt says with which
  pub refuses : (bs : List ℕ) → are_bytes bs ≡ true → ((s : State) → sound limits s ≡ true → Fits s → image_of s ≡ bs → ⊥)
      → ((read_of bs ≡ Err Unsound) ⊎ (read_of bs ≡ Err Malformed)) × (ledger_beside bs ≡ lay fresh)
  -- so no two images are read as one ledger
  pub one : (bs cs : List ℕ) (l : Ledger) → are_bytes bs ≡ true → are_bytes cs ≡ true → read_of bs ≡ Ok l → read_of cs ≡ Ok l → bs ≡ cs
  -- a row of 24 bytes for each object, of 27 and 8 for each name for each manifest, of 27 for each hold, behind 29
  pub size : (s : State) → length (image_of s) ≡ 3 + rows_begin + object_size * length (objects s) + (manifest_size * length (kept s) + 8 * names_of (kept s)) + hold_size * length s.holds
  pub longest : (s : State) → sound limits s ≡ true → length (image_of s) ≤ longest_image
  -- and a ledger that has all of it is as long
  pub met : (s : State) → length (objects s) ≡ limits.places → length (kept s) ≡ manifest_limit limits → names_of (kept s) ≡ limits.names * manifest_limit limits → length s.holds ≡ limits.holds
      → length (image_of s) ≡ longest_image
  pub longest_is : longest_image ≡ 11240
