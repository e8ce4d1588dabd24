-- The format of a record as data (document 01, "Records and names"): a field whose value holds inner fields. One table serves reading, writing and the proofs.
-- Assumes nothing.
use Rattle.std.specs.Prelude.{Bool, cond, List, [], ◌∷◌, ◌++◌, ℕ, leb, eqb}
use Rattle.fields.specs.Bytes.{be, words}
use Rattle.fields.specs.Fields.{field}
use Rattle.rules.specs.declared.Role.{Role}
use Rattle.rules.specs.declared.Role.TheVariants.{Writer, Compactor}
use Rattle.records.specs.declared.Field.{Field}

-- an inner field: its tag and its number in so many bytes; width 0 is the list that stands beside the fields, eight bytes for each number
abbrev pub inner : ℕ → ℕ → ℕ → Field
inner tag width number = record { tag = tag; width = width; number = number }

-- a number has at most eight bytes
abbrev pub is_narrow : Field → Bool
is_narrow f = leb f.width 8

-- "00 code (1 byte), 01 time (8), 02 role (1: 0 writer, 1 compactor), 03 epoch (8), 04 slot (8), 05 object (8), 06 currency (2), 07 list (8 each),
-- 08 hold (8), 09 manifest (8), 0A expiry (8)"
abbrev pub code : ℕ → Field
code n = inner 0x00 1 n

abbrev pub time : ℕ → Field
time t = inner 0x01 8 t

abbrev pub role_code : Role → ℕ
role_code Writer = 0
role_code Compactor = 1

abbrev pub role : Role → Field
role r = inner 0x02 1 (role_code r)

abbrev pub epoch : ℕ → Field
epoch e = inner 0x03 8 e

abbrev pub slot : ℕ → Field
slot n = inner 0x04 8 n

abbrev pub object : ℕ → Field
object n = inner 0x05 8 n

abbrev pub currency : ℕ → Field
currency c = inner 0x06 2 c

abbrev pub list : Field
list = inner 0x07 0 0

abbrev pub hold : ℕ → Field
hold x = inner 0x08 8 x

abbrev pub manifest : ℕ → Field
manifest m = inner 0x09 8 m

abbrev pub expiry : ℕ → Field
expiry e = inner 0x0A 8 e

-- the value of an inner field, with the list beside it
abbrev pub content : List ℕ → Field → List ℕ
content l f = cond (eqb f.width 0) (words l) (be f.width f.number)

-- inner fields, one behind the other
unfoldable pub bytes_of : List Field → List ℕ → List ℕ
bytes_of [] l = []
bytes_of (f ∷ fs) l = field f.tag (content l f) ++ bytes_of fs l

-- a record: "a field whose value holds its inner fields"
abbrev pub record_of : ℕ → List Field → List ℕ → List ℕ
record_of tag fs l = field tag (bytes_of fs l)

-- how many inner fields a record has at most
abbrev pub most_fields : ℕ
most_fields = 6
