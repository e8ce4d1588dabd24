-- The listing of a bucket as C sees it: what the call answers, and every element of the slice that it may write.
-- Assumes nothing.
use Rattle.std.specs.Prelude.{cond, List, [], ◌∷◌, ℕ, ltb, length, Option, Some, None}
use Rattle.fields.specs.Fields.{over}
use Rattle.exports.specs.Names.{Call}
use Rattle.listing.specs.declared.Listing.{Listing}
use Rattle.listing.specs.Listing.{listing_of}

-- a number that may be none is two: whether there is one, and it or 0
abbrev pub is_some : Option ℕ → ℕ
is_some None = 0
is_some (Some n) = 1

abbrev pub or_zero : Option ℕ → ℕ
or_zero None = 0
or_zero (Some n) = n

-- how many numbers a listing has
abbrev pub listing_size : ℕ
listing_size = 4

-- whether there is a manifest, the highest, the number of objects, the first bad line
abbrev pub listing_numbers : Listing → List ℕ
listing_numbers l = is_some l.manifest ∷ or_zero l.manifest ∷ l.objects ∷ or_zero l.bad ∷ []

-- 3 where there is no place for the numbers; else whether a line is bad
unfoldable pub read_listing : List ℕ → List ℕ → Call
read_listing bytes numbers =
    cond (ltb (length numbers) listing_size)
    (record { answer = 3; left = numbers })
    (record { answer = is_some (listing_of bytes).bad; left = over (listing_numbers (listing_of bytes)) numbers })
