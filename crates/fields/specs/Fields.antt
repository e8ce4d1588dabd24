-- A field (document 01, "Records and names"): "a one-byte tag, a two-byte length and a value, big-endian".
-- Assumes nothing.
use Rattle.std.specs.Prelude.{Option, Some, None, cond, ◌&&◌, List, ◌∷◌, ◌++◌, ℕ, ◌+◌, ◌-◌, leb, ltb, eqb, length, take, drop, get_or}
use Rattle.fields.specs.declared.Next.{Next}
use Rattle.fields.specs.declared.Next.TheVariants.{End, Torn, Record}
use Rattle.fields.specs.Bytes.{be, value_of}

-- the bytes of a field
abbrev pub field : ℕ → List ℕ → List ℕ
field tag value = tag ∷ be 2 (length value) ++ value

-- the length that the field at the front claims
abbrev pub claimed : List ℕ → ℕ
claimed bs = value_of (take 2 (drop 1 bs))

-- how many bytes the value of the field at the front has, where its tag is this one and all of it is there
unfoldable pub head_of : ℕ → List ℕ → Option ℕ
head_of tag bs = cond (leb 3 (length bs) && (eqb (get_or bs 0 0) tag && leb (claimed bs) (length bs - 3))) (Some (claimed bs)) None

-- bytes over the start of others, which they are not longer than; those beyond stay
abbrev pub over : List ℕ → List ℕ → List ℕ
over bytes out = bytes ++ drop (length bytes) out

-- "The record is torn if some but fewer than 3 bytes remain, or fewer than it claims"; an empty rest is the end
unfoldable pub next_of : List ℕ → Next
next_of bs =
    cond (eqb (length bs) 0) End
    (cond (ltb (length bs) 3) Torn
    (cond (ltb (length bs) (3 + claimed bs)) Torn
    (Record (3 + claimed bs))))

-- the paper's words as numbers: 0 the end, 1 torn, else the length of the record, which has three bytes or more
abbrev pub next_code : Next → ℕ
next_code End = 0
next_code Torn = 1
next_code (Record n) = n
