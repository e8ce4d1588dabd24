-- What a reader finds in the value of a record that should have these inner fields: a number for each and the list, or that it hasn't just these fields.
-- Assumes nothing.
use Rattle.std.specs.Prelude.{Option, Some, None, cond, List, [], ◌∷◌, ℕ, ◌+◌, ◌/◌, ◌%◌, eqb, take, drop}
use Rattle.fields.specs.Bytes.{value_of, kept64, words_of}
use Rattle.fields.specs.Fields.{head_of, claimed}
use Rattle.records.specs.declared.Field.{Field}

-- numbers: one for each field, 0 for the list's
pub data Walked : Type 0 where
  Found : List ℕ → List ℕ → Walked
  Broken : Walked

abbrev pub number_then : ℕ → Walked → Walked
number_then n Broken = Broken
number_then n (Found ns l) = Found (n ∷ ns) l

abbrev pub list_then : List ℕ → Walked → Walked
list_then l Broken = Broken
list_then l (Found ns none) = Found (0 ∷ ns) l

-- the field at the front, of n bytes, and then what was found behind it
abbrev pub field_then : Field → List ℕ → ℕ → Walked → Walked
field_then f bs n rest =
    cond (eqb f.width 0)
    (cond (eqb (n % 8) 0) (list_then (words_of (n / 8) (drop 3 bs)) rest) Broken)
    (cond (eqb n f.width) (number_then (kept64 (value_of (take n (drop 3 bs)))) rest) Broken)

abbrev pub head_then : Field → List ℕ → Option ℕ → Walked → Walked
head_then f bs None rest = Broken
head_then f bs (Some n) rest = field_then f bs n rest

-- "each once, in rising tag order", with their exact lengths and nothing more
unfoldable pub walk : List Field → List ℕ → Walked
walk [] [] = Found [] []
walk [] (b ∷ bs) = Broken
walk (f ∷ fs) bs = head_then f bs (head_of f.tag bs) (walk fs (drop (3 + claimed bs) bs))
