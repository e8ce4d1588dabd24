-- The ledger that bytes say as an image. A row that is not of its form is not taken, so that bytes are left over. Assumes nothing.
use Rattle.std.specs.Prelude.{Bool, cond, List, [], ◌∷◌, map, ℕ, ◌+◌, eqb, length, drop, get_or, is_some, unwrap_or, Option, None, Some, Result, Ok, Err}
use Rattle.std.specs.Option.{option_map, option_and_then}
use Rattle.std.specs.Result.{result_unwrap_or}
use Rattle.rules.specs.declared.Object.{Object}
use Rattle.rules.specs.declared.Hold.{Hold}
use Rattle.rules.specs.Lists.{conj}
use Rattle.rules.specs.Limits.{limits, manifest_limit, word_bits, word_count}
use Rattle.rules.specs.State.{Manifest, free, fresh}
use Rattle.objects.specs.declared.Objects.{Objects}
use Rattle.objects.specs.Occupancy.{words_of}
use Rattle.manifests.specs.Manifests.{lay_manifests}
use Rattle.holds.specs.Holds.{lay_holds}
use Rattle.ledger.specs.declared.Ledger.{Ledger}
use Rattle.ledger.specs.Ledger.{lay, is_sound}
use Rattle.records.specs.Found.{is_whole}
use Rattle.image.specs.declared.LoadError.{LoadError}
use Rattle.image.specs.declared.LoadError.TheVariants.{Unsound, Malformed}
use Rattle.image.specs.declared.rows.Found.{Found}
use Rattle.image.specs.Rows.{Format, Cells, Rows, row_at, found_as, rows_from}
use Rattle.image.specs.Format.{edition_row, clock_row, collected_row, edition, object_row, is_object_at, object_from, manifest_row, manifest_from, hold_row, hold_from, object_size}
use Rattle.image.specs.Image.{image_tag}

-- The rows at the front

-- the number of a row of one
abbrev pub number_at : Format → List ℕ → Option ℕ
number_at f bs = option_map (λ r. get_or r.value.numbers 0 0) (row_at f bs)

-- the object of a row at that place
abbrev pub object_in : ℕ → Cells → Option Object
object_in p c = cond (is_object_at p c.numbers) (Some (object_from c.numbers)) None

-- of a place: the object whose row stands there, or none where it is free
unfoldable pub spot_at : ℕ → List ℕ → Option Object
spot_at p bs = option_and_then (λ r. object_in p r.value) (row_at object_row bs)

-- the bytes of an object's row
abbrev pub spot_size : Bool → ℕ
spot_size taken = cond taken object_size 0

-- every place is gone through: one whose row is not there is free
abbrev pub place_at : ℕ → List ℕ → Option (Found (Option Object))
place_at p bs = Some (record { value = spot_at p bs; size = spot_size (is_some (spot_at p bs)) })

abbrev pub manifest_at : ℕ → List ℕ → Option (Found Manifest)
manifest_at i bs = option_map (found_as manifest_from) (row_at manifest_row bs)

abbrev pub hold_at : ℕ → List ℕ → Option (Found Hold)
hold_at i bs = option_map (found_as (λ c. hold_from c.numbers)) (row_at hold_row bs)

-- What all the bytes say: the rows in their order, no more than there are places, and nothing behind them

abbrev pub places_of : List ℕ → Rows (Option Object)
places_of bs = rows_from place_at limits.places 0 bs

abbrev pub kept_of : List ℕ → Rows Manifest
kept_of bs = rows_from manifest_at (manifest_limit limits) 0 bs

abbrev pub holds_of : List ℕ → Rows Hold
holds_of bs = rows_from hold_at limits.holds 0 bs

-- an occupancy bit is set where a row stands
abbrev pub objects_of : List (Option Object) → Objects
objects_of ss = record { occupancy = words_of word_bits word_count (map is_some ss); items = map (λ s. unwrap_or s free) ss }

-- the three rows of one number: edition, clock, highest number collected
abbrev pub clock_at : ℕ
clock_at = 4

abbrev pub collected_at : ℕ
collected_at = 15

abbrev pub rows_begin : ℕ
rows_begin = 26

abbrev pub is_headed : List ℕ → Bool
is_headed bs =
    conj (is_some (number_at edition_row bs) ∷ eqb (unwrap_or (number_at edition_row bs) 0) edition ∷ is_some (number_at clock_row (drop clock_at bs))
    ∷ is_some (number_at collected_row (drop collected_at bs)) ∷ [])

-- the ledger of the content's rows
abbrev pub ledger_by : List ℕ → Rows (Option Object) → Rows Manifest → Rows Hold → Ledger
ledger_by bs ps ms xs = record {
  clock = unwrap_or (number_at clock_row (drop clock_at bs)) 0;
  collected = unwrap_or (number_at collected_row (drop collected_at bs)) 0;
  objects = objects_of ps.values;
  manifests = lay_manifests ms.values;
  holds = lay_holds xs.values;
}

-- where the manifests and the holds begin, and where they end
abbrev pub kept_begin : List ℕ → ℕ
kept_begin bs = rows_begin + (places_of (drop rows_begin bs)).size

abbrev pub holds_begin : List ℕ → ℕ
holds_begin bs = kept_begin bs + (kept_of (drop (kept_begin bs) bs)).size

abbrev pub rows_end : List ℕ → ℕ
rows_end bs = holds_begin bs + (holds_of (drop (holds_begin bs) bs)).size

unfoldable pub ledger_in : List ℕ → Ledger
ledger_in bs = ledger_by bs (places_of (drop rows_begin bs)) (kept_of (drop (kept_begin bs) bs)) (holds_of (drop (holds_begin bs) bs))

-- the bytes have the form of an image
unfoldable pub is_image : List ℕ → Bool
is_image bs = conj (is_whole bs ∷ eqb (get_or bs 0 0) image_tag ∷ is_headed (drop 3 bs) ∷ eqb (rows_end (drop 3 bs)) (length (drop 3 bs)) ∷ [])

-- "Reading gives 2 for what breaks this form or has more entries than places, else 1 for an unsound ledger, with the fresh ledger beside the refusal"
abbrev pub sound_or : Ledger → Result Ledger LoadError
sound_or l = cond (is_sound l) (Ok l) (Err Unsound)

unfoldable pub read_of : List ℕ → Result Ledger LoadError
read_of bs = cond (is_image bs) (sound_or (ledger_in (drop 3 bs))) (Err Malformed)

-- the ledger beside the answer, for whoever is to have one either way
abbrev pub ledger_beside : List ℕ → Ledger
ledger_beside bs = result_unwrap_or (read_of bs) (lay fresh)

-- the paper's number for each refusal
abbrev pub error_number : LoadError → ℕ
error_number Unsound = 1
error_number Malformed = 2

-- and 0 where a ledger was read
abbrev pub read_code : Result Ledger LoadError → ℕ
read_code (Ok l) = 0
read_code (Err e) = error_number e
