-- What a listing says (document 02, request 5): "the highest manifest number or none, the number of objects, and the first
-- bad line, counted from 0, or none; the first two cover the lines before it".
-- Assumes nothing.
use Rattle.std.specs.Prelude.{Bool, true, false, not, cond, ◌||◌, List, [], ◌∷◌, ℕ, suc, max, eqb, length, Option, Some, None}
use Rattle.store_names.specs.declared.Name.{Name}
use Rattle.store_names.specs.declared.Name.TheVariants.{Manifest, Object}
use Rattle.store_names.specs.Names.{decode}
use Rattle.listing.specs.declared.Listing.{Listing}
use Rattle.listing.specs.Lines.{Line, lines_of, below}

-- ---- the first bad line

-- a name was read
abbrev pub is_read : Option Name → Bool
is_read (Some v) = true
is_read None = false

-- the bytes are a name
abbrev pub is_name : List ℕ → Bool
is_name bytes = is_read (decode bytes)

-- `earlier` has the lines before it, the nearest first: that one is its predecessor, and the first line has none
abbrev pub is_above : List Line → Line → Bool
is_above [] l = true
is_above (p ∷ earlier) l = below p.bytes l.bytes

-- "A line is bad if it isn't a name, lacks 0A, or isn't above its predecessor in byte order."
abbrev pub is_bad : List Line → Line → Bool
is_bad earlier l = not (is_name l.bytes) || (not l.ended || not (is_above earlier l))

-- the lines before the first bad one, behind the lines `earlier`
unfoldable pub good_behind : List Line → List Line → List Line
good_behind earlier [] = []
good_behind earlier (l ∷ ls) = cond (is_bad earlier l) [] (l ∷ good_behind (l ∷ earlier) ls)

abbrev pub good : List Line → List Line
good ls = good_behind [] ls

-- the first bad line's number is how many are before it
abbrev pub first_bad : List Line → Option ℕ
first_bad ls = cond (eqb (length (good ls)) (length ls)) None (Some (length (good ls)))

-- ---- what the lines before it say

-- the name that was read, if one was, in front of others
abbrev pub with_read : Option Name → List Name → List Name
with_read (Some v) vs = v ∷ vs
with_read None vs = vs

-- the names that the lines are
unfoldable pub names_in : List Line → List Name
names_in [] = []
names_in (l ∷ ls) = with_read (decode l.bytes) (names_in ls)

-- the higher of a number and one that may be none
abbrev pub higher_of : ℕ → Option ℕ → Option ℕ
higher_of n None = Some n
higher_of n (Some m) = Some (max n m)

-- the highest manifest number, or none
unfoldable pub highest : List Name → Option ℕ
highest [] = None
highest (Manifest n ∷ vs) = higher_of n (highest vs)
highest (Object n ∷ vs) = highest vs

-- the number of objects
unfoldable pub objects_in : List Name → ℕ
objects_in [] = 0
objects_in (Manifest n ∷ vs) = objects_in vs
objects_in (Object n ∷ vs) = suc (objects_in vs)

-- what lines say
abbrev pub said : List Line → Listing
said ls = record { manifest = highest (names_in (good ls)); objects = objects_in (names_in (good ls)); bad = first_bad ls }

-- what the bytes say as a listing
unfoldable pub listing_of : List ℕ → Listing
listing_of bytes = said (lines_of bytes)
