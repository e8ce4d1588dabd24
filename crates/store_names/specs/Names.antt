-- Store names (document 01, "Records and names"; document 02, request 5): what a name's bytes are, what the reader and the
-- writer answer.
-- Assumes nothing.
use Rattle.std.specs.Prelude.{Bool, not, cond, ◌&&◌, List, [], ◌∷◌, ◌++◌, ℕ, eqb, leb, ltb, length, take, drop, bytes_eq, Option, Some, None, Result, Ok, Err}
use Rattle.fields.specs.declared.WriteError.{WriteError}
use Rattle.fields.specs.declared.WriteError.TheVariants.{Malformed, Full}
use Rattle.store_names.specs.declared.Name.{Name}
use Rattle.store_names.specs.declared.Name.TheVariants.{Manifest, Object}
use Rattle.store_names.specs.Decimal.{largest, digits, decimal}

-- "20 zero-padded decimal digits"
abbrev pub name_digits : ℕ
name_digits = 20

-- "ends in the nine bytes .manifest"; "An object's ends in .sst"
abbrev pub manifest_suffix : List ℕ
manifest_suffix = 46 ∷ 109 ∷ 97 ∷ 110 ∷ 105 ∷ 102 ∷ 101 ∷ 115 ∷ 116 ∷ []

abbrev pub object_suffix : List ℕ
object_suffix = 46 ∷ 115 ∷ 115 ∷ 116 ∷ []

-- "`manifest/` before a manifest name, `wal/` before an object name"
abbrev pub manifest_folder : List ℕ
manifest_folder = 109 ∷ 97 ∷ 110 ∷ 105 ∷ 102 ∷ 101 ∷ 115 ∷ 116 ∷ 47 ∷ []

abbrev pub object_folder : List ℕ
object_folder = 119 ∷ 97 ∷ 108 ∷ 47 ∷ []

-- a name's bytes
abbrev pub encode : Name → List ℕ
encode (Manifest n) = manifest_folder ++ digits name_digits n ++ manifest_suffix
encode (Object n) = object_folder ++ digits name_digits n ++ object_suffix

-- the names that a reader takes: an object's number isn't 0, and none is above the largest
abbrev pub is_taken : Name → Bool
is_taken (Manifest n) = leb n largest
is_taken (Object n) = not (eqb n 0) && leb n largest

-- the number before that suffix: as many digits as a name has, then the suffix and nothing more
unfoldable pub number_before : List ℕ → List ℕ → Option ℕ
number_before suffix bytes = cond (leb name_digits (length bytes) && bytes_eq (drop name_digits bytes) suffix) (decimal (take name_digits bytes)) None

-- the number of a name in that folder and with that suffix: the folder first, as part of the name
unfoldable pub number_in : List ℕ → List ℕ → List ℕ → Option ℕ
number_in folder suffix bytes = cond (bytes_eq (take (length folder) bytes) folder) (number_before suffix (drop (length folder) bytes)) None

-- an object isn't 0
abbrev pub object_read : Option ℕ → Option Name
object_read None = None
object_read (Some n) = cond (eqb n 0) None (Some (Object n))

abbrev pub manifest_or : Option ℕ → Option Name → Option Name
manifest_or None other = other
manifest_or (Some n) other = Some (Manifest n)

-- what the reader answers: all the bytes are one name, and its folder says which
unfoldable pub decode : List ℕ → Option Name
decode bytes = manifest_or (number_in manifest_folder manifest_suffix bytes) (object_read (number_in object_folder object_suffix bytes))

-- what a writer answers and leaves of the buffer
pub record Writing : Type 0 where
  pub answer : Result ℕ WriteError
  pub buffer : List ℕ

-- the bytes stand at the buffer's start, and those beyond stay; where the room is short nothing is written
unfoldable pub put_first : List ℕ → List ℕ → Writing
put_first bytes buffer =
    cond (ltb (length buffer) (length bytes))
    (record { answer = Err Full; buffer = buffer })
    (record { answer = Ok (length bytes); buffer = bytes ++ drop (length bytes) buffer })

-- "Writers answer 2 for what no reader takes, otherwise "full" where room is short, and write nothing either way"
unfoldable pub writing : Name → List ℕ → Writing
writing name buffer = cond (is_taken name) (put_first (encode name) buffer) (record { answer = Err Malformed; buffer = buffer })

-- The paper's number and values for each answer

-- a manifest's name is kind 0, an object's kind 1
abbrev pub kind_of : Name → ℕ
kind_of (Manifest n) = 0
kind_of (Object n) = 1

abbrev pub number_of : Name → ℕ
number_of (Manifest n) = n
number_of (Object n) = n

-- a name: its kind; none: 2
abbrev pub read_code : Option Name → ℕ
read_code (Some v) = kind_of v
read_code None = 2

-- written: the count of bytes; malformed: 2; full: 0, which is no count of a name
abbrev pub write_code : Result ℕ WriteError → ℕ
write_code (Ok n) = n
write_code (Err Malformed) = 2
write_code (Err Full) = 0
