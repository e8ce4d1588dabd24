-- Whole listings: which they are, and what they say.
-- Assumes nothing.
use Rattle.std.specs.Prelude.{◌≡◌, Bool, true, false, List, [], ◌∷◌, ◌++◌, ℕ, ltb, length, take, bytes_eq, Option, Some, None}
use Rattle.rules.specs.Lists.{keep, all}
use Rattle.arrays.specs.Arrays.{chain}
use Rattle.store_names.specs.declared.Name.{Name}
use Rattle.store_names.specs.declared.Name.TheVariants.{Manifest, Object}
use Rattle.store_names.specs.Names.{encode, is_taken, object_folder}
use Rattle.listing.specs.Lines.{Line, line_end, lines_of, below}
use Rattle.listing.specs.Listing.{names_in, objects_in, listing_of}

-- a manifest stands before an object, and each kind goes by its number
abbrev pub is_before : Name → Name → Bool
is_before (Manifest m) (Manifest n) = ltb m n
is_before (Manifest m) (Object n) = true
is_before (Object m) (Manifest n) = false
is_before (Object m) (Object n) = ltb m n

-- each name stands before the next
abbrev pub rising : List Name → Bool
rising [] = true
rising (v ∷ vs) = chain is_before v vs

-- the names as the store hands them to us, a line each
unfoldable pub text_of : List Name → List ℕ
text_of [] = []
text_of (v ∷ vs) = encode v ++ line_end ∷ text_of vs

-- the first, or the second where the first is none
abbrev pub or_else : Option ℕ → Option ℕ → Option ℕ
or_else None o = o
or_else (Some n) o = Some n

-- a manifest's number
abbrev pub manifest_in : Name → Option ℕ
manifest_in (Manifest n) = Some n
manifest_in (Object n) = None

-- the last manifest's number, or none
unfoldable pub last_manifest : List Name → Option ℕ
last_manifest [] = None
last_manifest (v ∷ vs) = or_else (last_manifest vs) (manifest_in v)

-- a `wal/` line
abbrev pub is_in_wal : Line → Bool
is_in_wal l = bytes_eq (take (length object_folder) l.bytes) object_folder

-- claimed
pub record Whole : Type 0 where
  -- the order of names is the byte order of what is written
  pub order : (v w : Name) → is_taken v ≡ true → is_taken w ≡ true → below (encode v) (encode w) ≡ is_before v w
  -- the text of rising names is a whole listing, which says their last manifest and how many objects they have
  pub written : (vs : List Name) → all is_taken vs ≡ true → rising vs ≡ true
      → listing_of (text_of vs) ≡ record { manifest = last_manifest vs; objects = objects_in vs; bad = None }
  -- and no other bytes are one: a whole listing is the text of its names, which rise
  pub read : (bytes : List ℕ) → (listing_of bytes).bad ≡ None
      → (all is_taken (names_in (lines_of bytes)) ≡ true) × (rising (names_in (lines_of bytes)) ≡ true) × (text_of (names_in (lines_of bytes)) ≡ bytes)
  -- of a whole listing the highest manifest is that of the last manifest line, and the number of objects that of `wal/` lines
  pub last : (bytes : List ℕ) → (listing_of bytes).bad ≡ None → (listing_of bytes).manifest ≡ last_manifest (names_in (lines_of bytes))
  pub count : (bytes : List ℕ) → (listing_of bytes).bad ≡ None → (listing_of bytes).objects ≡ length (keep is_in_wal (lines_of bytes))
