-- The form of an image, apart from how it is read (document 02, request 6): which bytes have it, so to which the reader answers 2. Numbers fit their columns
-- and bytes are below 256, as the types have it. Proved in proofs/Form.antt. Assumes nothing.
use Rattle.std.specs.Prelude.{◌≡◌, true, List, [], ◌++◌, ℕ, ◌^◌, ◌≤◌, ◌<◌, ltb, length, Option, None, Some, Err}
use Rattle.fields.specs.Fields.{field}
use Rattle.rules.specs.declared.Object.{Object}
use Rattle.rules.specs.declared.Hold.{Hold}
use Rattle.rules.specs.Lists.{◌∈◌, all}
use Rattle.rules.specs.Limits.{limits, manifest_limit}
use Rattle.rules.specs.State.{Manifest}
use Rattle.manifests.specs.Manifests.{lay_manifests}
use Rattle.holds.specs.Holds.{lay_holds}
use Rattle.ledger.specs.declared.Ledger.{Ledger}
use Rattle.records.specs.RoundTrip.{are_bytes}
use Rattle.image.specs.declared.LoadError.TheVariants.{Malformed}
use Rattle.image.specs.Rows.{row_of, bytes_from}
use Rattle.image.specs.Fit.{fits}
use Rattle.image.specs.Format.{object_row, object_cells, manifest_row, manifest_cells, hold_row, hold_cells}
use Rattle.image.specs.Image.{image_tag, head_bytes, manifest_bytes, hold_bytes}
use Rattle.image.specs.Reading.{objects_of, sound_or, read_of}

-- what an image says: a spot for each place, with an object or free, the manifests and the holds
pub record Said : Type 0 where
  pub clock : ℕ
  pub collected : ℕ
  pub spots : List (Option Object)
  pub manifests : List Manifest
  pub holds : List Hold

abbrev pub spot_bytes : ℕ → Option Object → List ℕ
spot_bytes p None = []
spot_bytes p (Some o) = row_of object_row (object_cells p o)

-- its bytes: "fields in this order", "a 64 for each object by rising place, a 65 for each manifest, a 66 for each hold"
abbrev pub content : Said → List ℕ
content r =
    head_bytes r.clock r.collected ++ (bytes_from spot_bytes 0 r.spots ++ (bytes_from manifest_bytes 0 r.manifests ++ bytes_from hold_bytes 0 r.holds))

abbrev pub bytes_of : Said → List ℕ
bytes_of r = field image_tag (content r)

-- its ledger, sound or not: an occupancy bit is set where a place has a row
abbrev pub ledger_said : Said → Ledger
ledger_said r = record {
  clock = r.clock;
  collected = r.collected;
  objects = objects_of r.spots;
  manifests = lay_manifests r.manifests;
  holds = lay_holds r.holds;
}

-- no more entries than places, and every number fits its column
pub record InForm (r : Said) : Type 0 where
  pub clock : r.clock < 2 ^ 64
  pub collected : r.collected < 2 ^ 64
  pub places : length r.spots ≡ limits.places
  pub objects : (o : Object) → Some o ∈ r.spots → fits object_row.widths (object_cells 0 o).numbers ≡ true
  pub keeps : length r.manifests ≤ manifest_limit limits
  pub manifests : (m : Manifest) → m ∈ r.manifests → fits manifest_row.widths (manifest_cells m).numbers ≡ true
  pub short : (m : Manifest) → m ∈ r.manifests → length m.names ≤ limits.names
  pub names : (m : Manifest) → m ∈ r.manifests → all (λ n. ltb n (2 ^ 64)) m.names ≡ true
  pub few : length r.holds ≤ limits.holds
  pub holds : (x : Hold) → x ∈ r.holds → fits hold_row.widths (hold_cells x).numbers ≡ true

pub record ImageForm : Type 0 where
  -- bytes in this form are read as their ledger, or refused with 1 where that is not sound
  pub formed : (r : Said) → InForm r → read_of (bytes_of r) ≡ sound_or (ledger_said r)
  -- all other bytes are refused with 2
  pub refuses : (bs : List ℕ) → are_bytes bs ≡ true → ((r : Said) → InForm r → bytes_of r ≡ bs → ⊥) → read_of bs ≡ Err Malformed
