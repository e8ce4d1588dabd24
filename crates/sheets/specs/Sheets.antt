-- Rate sheets (document 02, request 2): which are well formed, the bytes of one, and the sheet of bytes. The format is that of all records.
-- Assumes nothing.
use Rattle.std.specs.Prelude.{Option, Some, None, Bool, cond, ◌&&◌, List, [], ◌∷◌, ℕ, ◌%◌, leb, eqb, drop, get_or}
use Rattle.rules.specs.Lists.{conj}
use Rattle.rules.specs.Limits.{currency_limit}
use Rattle.rules.specs.Table.{nonzero}
use Rattle.records.specs.declared.Field.{Field}
use Rattle.records.specs.Format.{inner, object, currency, record_of}
use Rattle.records.specs.Found.{is_whole}
use Rattle.records.specs.Walk.{Walked, Found, Broken, walk}
use Rattle.records.specs.Writing.{Writing, writing}
use Rattle.sheets.specs.declared.Sheet.{Sheet}

-- "outer tag 50 with object (05, ..), currency (06, ..), and new tags 0C numerator and 0D denominator, 8 bytes each"
abbrev pub sheet_tag : ℕ
sheet_tag = 0x50

abbrev pub numerator : ℕ → Field
numerator n = inner 0x0C 8 n

abbrev pub denominator : ℕ → Field
denominator n = inner 0x0D 8 n

abbrev pub sheet_fields : Sheet → List Field
sheet_fields s = object s.object ∷ currency s.currency ∷ numerator s.numerator ∷ denominator s.denominator ∷ []

-- "both 1 to 1,000,000,000"
abbrev pub largest_rate : ℕ
largest_rate = 1000000000

abbrev pub is_rate : ℕ → Bool
is_rate n = nonzero n && leb n largest_rate

-- "object (05, not 0), currency (06, 1 to 999)"
unfoldable pub sheet_formed : Sheet → Bool
sheet_formed s =
    conj (nonzero s.object ∷ nonzero s.currency ∷ leb s.currency currency_limit ∷ is_rate s.numerator ∷ is_rate s.denominator ∷ [])

-- the record of a sheet
abbrev pub encode_sheet : Sheet → List ℕ
encode_sheet s = record_of sheet_tag (sheet_fields s) []

abbrev pub sheet_writing : Sheet → List ℕ → Writing
sheet_writing s buffer = writing (sheet_formed s) (encode_sheet s) buffer

-- The reader

-- the sheet with the numbers of its fields
abbrev pub sheet_from : List ℕ → Sheet
sheet_from v = record { object = get_or v 0 0; currency = get_or v 1 0 % 65536; numerator = get_or v 2 0; denominator = get_or v 3 0 }

abbrev pub blank_sheet : Sheet
blank_sheet = record { object = 0; currency = 0; numerator = 0; denominator = 0 }

abbrev pub formed : Sheet → Option Sheet
formed s = cond (sheet_formed s) (Some s) None

abbrev pub sheet_of_walk : Walked → Option Sheet
sheet_of_walk Broken = None
sheet_of_walk (Found v l) = formed (sheet_from v)

-- the sheet that bytes are: one field of that outer tag and nothing behind it
unfoldable pub decode_sheet : List ℕ → Option Sheet
decode_sheet bs = cond (is_whole bs && eqb (get_or bs 0 0) sheet_tag) (sheet_of_walk (walk (sheet_fields blank_sheet) (drop 3 bs))) None

-- the paper's number for what the reader answers: 2 for a malformed sheet, else 0
abbrev pub sheet_code : Option Sheet → ℕ
sheet_code (Some s) = 0
sheet_code None = 2
