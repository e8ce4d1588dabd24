-- What the code keeps of a record, said by the definitions in Format.antt and Walk.antt: fields in their places, the field at the front of some bytes, and
-- what a walk found, with its numbers in their places.
-- Assumes nothing.
use Rattle.std.specs.Prelude.{Option, Some, None, Bool, cond, ◌&&◌, List, ◌++◌, ℕ, ◌-◌, ◌/◌, ◌%◌, leb, eqb, length, take, drop, replicate}
use Rattle.std.specs.Option.{option_or}
use Rattle.fields.specs.Bytes.{value_of, kept64, words_of}
use Rattle.fields.specs.Fields.{head_of, claimed}
use Rattle.records.specs.declared.Field.{Field}
use Rattle.records.specs.declared.Fields.{Fields}
use Rattle.records.specs.declared.Held.{Held}
use Rattle.records.specs.declared.Place.{Place}
use Rattle.records.specs.declared.Walk.{Walk}
use Rattle.records.specs.Format.{most_fields}
use Rattle.records.specs.Walk.{Walked, Found, Broken}

-- the fields that stand in the first places
abbrev pub fields_in : Fields → List Field
fields_in p = take p.count p.items

-- bytes that are one field and nothing behind it
abbrev pub is_whole : List ℕ → Bool
is_whole bs = leb 3 (length bs) && eqb (claimed bs) (length bs - 3)

-- what stands at the front of the bytes where this field should: its length and its number, 0 of the list
abbrev pub present : ℕ → ℕ → Option Held
present n x = Some (record { len = n; number = x })

abbrev pub held_as : Field → List ℕ → Option ℕ → Option Held
held_as f bs None = None
held_as f bs (Some n) =
    cond (eqb f.width 0)
    (cond (eqb (n % 8) 0) (present n 0) None)
    (cond (eqb n f.width) (present n (kept64 (value_of (take n (drop 3 bs))))) None)

unfoldable pub held : Field → List ℕ → Option Held
held f bs = held_as f bs (head_of f.tag bs)

-- where the first list stands, and how many numbers it has
abbrev pub first_list : Option Place → ℕ → ℕ → ℕ → Option Place
first_list p width at len = cond (eqb width 0) (option_or p (Some (record { at = at; count = len / 8 }))) p

-- what a walk found in these bytes
abbrev pub found_by : Option Walk → List ℕ → Walked
found_by None bs = Broken
found_by (Some w) bs = Found w.numbers (words_of w.list.count (drop w.list.at bs))

-- the numbers in as many places as a record has fields at most, the rest 0
abbrev pub in_numbers : List ℕ → List ℕ
in_numbers v = v ++ replicate (most_fields - length v) 0

abbrev pub placed_all : Walked → Walked
placed_all Broken = Broken
placed_all (Found v l) = Found (in_numbers v) l
