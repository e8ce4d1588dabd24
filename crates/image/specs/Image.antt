-- The image of a ledger (document 02, request 6): "one field, tag 60, holding fields in this order: 61 edition (1 byte, 1), 62 clock, 63 request [1]'s
-- number, a 64 for each object by rising place, a 65 for each manifest, a 66 for each hold, as kept". Assumes nothing.
use Rattle.std.specs.Prelude.{cond, List, [], ◌++◌, ℕ}
use Rattle.fields.specs.Fields.{field}
use Rattle.rules.specs.declared.Object.{Object}
use Rattle.rules.specs.declared.Hold.{Hold}
use Rattle.rules.specs.State.{Manifest, State, occupied, kept}
use Rattle.image.specs.Rows.{row_of, bytes_from}
use Rattle.image.specs.Format.{edition_row, clock_row, collected_row, edition, single, object_row, object_cells, manifest_row, manifest_cells, hold_row, hold_cells}

abbrev pub image_tag : ℕ
image_tag = 0x60

abbrev pub head_bytes : ℕ → ℕ → List ℕ
head_bytes clock collected = row_of edition_row (single edition) ++ (row_of clock_row (single clock) ++ row_of collected_row (single collected))

-- of a place: its row where it has an object
unfoldable pub place_bytes : ℕ → Object → List ℕ
place_bytes p o = cond (occupied o) (row_of object_row (object_cells p o)) []

unfoldable pub manifest_bytes : ℕ → Manifest → List ℕ
manifest_bytes i m = row_of manifest_row (manifest_cells m)

unfoldable pub hold_bytes : ℕ → Hold → List ℕ
hold_bytes i x = row_of hold_row (hold_cells x)

abbrev pub content_of : State → List ℕ
content_of s =
    head_bytes s.clock s.highest_collected
    ++ (bytes_from place_bytes 0 s.places ++ (bytes_from manifest_bytes 0 (kept s) ++ bytes_from hold_bytes 0 s.holds))

unfoldable pub image_of : State → List ℕ
image_of s = field image_tag (content_of s)
