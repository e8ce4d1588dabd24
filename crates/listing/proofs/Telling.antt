-- The reader's way through the lines, one after another, and that it comes to what the listing says.
-- Assumes nothing.
use mathlib.Core.Path.{◌≡◌, refl, sym, ap, subst, ◌∙◌}
use mathlib.Core.Bool.{Bool, true, false, cond}
use mathlib.Core.List.{List, [], ◌∷◌}
use Prim.Native.Nat.{ℕ, suc, ◌+◌, ◌≤◌, ◌<◌}
use native.Mathlib.Nat.{add-zero, zero-add}
use native.Mathlib.Omega.{arith}
use lib.Dec.{eqb, eqb-suc-suc}
use lib.ListN.{length, take, drop}
use borrow.Author.Tests.{ne_eqb}
use Rattle.std.specs.Prelude.{Option, Some, None}
use Rattle.std.specs.List.{position}
use Rattle.std.proofs.lemmas.List.{nil_from_length}
use Rattle.std.proofs.lemmas.Slice.{between_to_end}
use Rattle.store_names.specs.declared.Name.{Name}
use Rattle.store_names.specs.declared.Name.TheVariants.{Manifest, Object}
use Rattle.store_names.specs.Names.{encode, decode}
use Rattle.store_names.proofs.RoundTrip.{round_trip_lem}
use Rattle.listing.specs.declared.Listing.{Listing}
use Rattle.listing.specs.Lines.{Line, line_end, lines_of, below}
use Rattle.listing.specs.Listing.{is_above, is_bad, good_behind, good, names_in, objects_in, listing_of}
use Rattle.listing.specs.Turns.{name_behind, with_name, with_bad}
use Rattle.listing.specs.Whole.{last_manifest, or_else, manifest_in}
use Rattle.listing.proofs.Cutting.{First, first_line, lines_none, lines-torn}
use Rattle.listing.proofs.Rising.{or_none, highest-good}

-- what lines say where there are none
abbrev pub nothing : Listing
nothing = record { manifest = None; objects = 0; bad = None }

-- a line that is bad ends it
abbrev pub go_on : Option Name → Listing → ℕ → (Name → Listing) → Listing
go_on None said i next = with_bad said i
go_on (Some v) said i next = next v

-- what lines say behind others that said so: i is the first one's number, and `before` the bytes of the line before it
unfoldable pub tell : Listing → ℕ → List ℕ → List Line → Listing
tell said i before [] = said
tell said i before (l ∷ ls) = go_on (cond l.ended (name_behind before l.bytes) None) said i (λ v. tell (with_name said v) (i + 1) l.bytes ls)

-- ---- one turn, by where the first 0A of what is left stands

module _ (said : Listing) (i : ℕ) (before rest : List ℕ) where
  pub tells_name : (n : ℕ) (v : Name) → position (λ b. eqb b line_end) rest ≡ Some n → name_behind before (take n rest) ≡ Some v
      → tell said i before (lines_of rest) ≡ tell (with_name said v) (i + 1) (take n rest) (lines_of (drop (n + 1) rest))
  unfolding tell
  tells_name n v at is = rw ((subst (First rest) at (first_line rest)).1, is)

  pub tells_bad : (n : ℕ) → position (λ b. eqb b line_end) rest ≡ Some n → name_behind before (take n rest) ≡ None → tell said i before (lines_of rest) ≡ with_bad said i
  unfolding tell
  tells_bad n at bad = rw ((subst (First rest) at (first_line rest)).1, bad)

  pub tells_torn : position (λ b. eqb b line_end) rest ≡ None → 0 < length rest → tell said i before (lines_of rest) ≡ with_bad said i
  unfolding tell
  tells_torn none some = rw (lines-torn rest some (subst (First rest) none (first_line rest)))

  pub tells_end : length rest ≡ 0 → tell said i before (lines_of rest) ≡ said
  unfolding tell
  tells_end none = rw (nil_from_length rest none, lines_none)

-- ---- and all of them

-- the bytes of the line before; where there is none, no bytes: every name is above that
abbrev last_bytes : List Line → List ℕ
last_bytes [] = []
last_bytes (p ∷ earlier) = p.bytes

above_none : (v : Name) → below [] (encode v) ≡ true
unfolding below
above_none (Manifest n) = refl
above_none (Object n) = refl

above_last : (earlier : List Line) (l : Line) (v : Name) → decode l.bytes ≡ Some v → is_above earlier l ≡ below (last_bytes earlier) l.bytes
above_last [] l v is = sym (ap (below []) (sym (round_trip_lem.writes_read l.bytes v is).1) ∙ above_none v)
above_last (p ∷ earlier) l v is = refl

-- what the reader makes of a line
unfoldable read_of : List Line → Line → Option Name
read_of earlier l = cond l.ended (name_behind (last_bytes earlier) l.bytes) None

-- a line is bad, or it is a name
data Told (earlier : List Line) (l : Line) : Type 0 where
  bad : read_of earlier l ≡ None → is_bad earlier l ≡ true → Told earlier l
  name : (v : Name) → read_of earlier l ≡ Some v → is_bad earlier l ≡ false → decode l.bytes ≡ Some v → Told earlier l

told : (earlier : List Line) (l : Line) → Told earlier l
unfolding read_of name_behind
told earlier l = by_name (decode l.bytes) refl l.ended refl
  where
    by_order : (v : Name) → decode l.bytes ≡ Some v → l.ended ≡ true → (b : Bool) → below (last_bytes earlier) l.bytes ≡ b → Told earlier l
    by_order v is ended true above = name v (rw (ended, above, is)) (rw (is, above_last earlier l v is, above, ended)) is
    by_order v is ended false isn't = bad (rw (ended, isn't)) (rw (is, above_last earlier l v is, isn't, ended))

    by_name : (r : Option Name) → decode l.bytes ≡ r → (e : Bool) → l.ended ≡ e → Told earlier l
    by_name (Some v) is true ended = by_order v is ended (below (last_bytes earlier) l.bytes) refl
    by_name (Some v) is false torn = bad (rw torn) (rw (is, torn))
    by_name None is e ended = bad (rw is (no_name l.ended (below (last_bytes earlier) l.bytes))) (rw is)
      where
        no_name : (e b : Bool) → cond {A = Option Name} e (cond b None None) None ≡ None
        no_name true true = refl
        no_name true false = refl
        no_name false b = refl

or_else_assoc : (a b c : Option ℕ) → or_else a (or_else b c) ≡ or_else (or_else a b) c
or_else_assoc None b c = refl
or_else_assoc (Some n) b c = refl

-- a name more, in the terms of the lists of names
with_manifest : (said : Listing) (v : Name) → (with_name said v).manifest ≡ or_else (manifest_in v) said.manifest
with_manifest said (Manifest n) = refl
with_manifest said (Object n) = refl

with_objects_lem : (said : Listing) (v : Name) (vs : List Name) → (with_name said v).objects + objects_in vs ≡ said.objects + objects_in (v ∷ vs)
unfolding objects_in
with_objects_lem said (Manifest n) vs = refl
with_objects_lem said (Object n) vs = omega arith

-- a name more is at most an object more
pub with_few : (said : Listing) (v : Name) → (with_name said v).objects ≤ said.objects + 1
with_few said (Manifest n) = omega arith
with_few said (Object n) = omega arith

with_no_bad : (said : Listing) (v : Name) → (with_name said v).bad ≡ said.bad
with_no_bad said (Manifest n) = refl
with_no_bad said (Object n) = refl

-- what the lines before the first bad one, and whether there is one, add to what was said
abbrev added : Listing → ℕ → List Line → List Line → Listing
added said i g ls =
    record {
      manifest = or_else (last_manifest (names_in g)) said.manifest;
      objects = said.objects + objects_in (names_in g);
      bad = cond (eqb (length g) (length ls)) said.bad (Some (i + length g));
    }

added_name : (said : Listing) (i : ℕ) (l : Line) (g ls : List Line) (v : Name) → decode l.bytes ≡ Some v → added (with_name said v) (i + 1) g ls ≡ added said i (l ∷ g) (l ∷ ls)
unfolding names_in last_manifest
added_name said i l g ls v is =
    let next : i + 1 + length g ≡ i + suc (length g) = omega arith in
    rw (is, with_manifest said v, with_objects_lem said v (names_in g), with_no_bad said v, or_else_assoc (last_manifest (names_in g)) (manifest_in v) said.manifest, eqb-suc-suc (length g) (length ls), next)

added_bad : (said : Listing) (i : ℕ) (l : Line) (ls : List Line) → with_bad said i ≡ added said i [] (l ∷ ls)
unfolding names_in last_manifest objects_in
added_bad said i l ls = rw (add-zero said.objects, add-zero i, ne_eqb 0 (suc (length ls)) (omega arith))

added_none : (said : Listing) (i : ℕ) → said ≡ added said i [] []
unfolding names_in last_manifest objects_in
added_none said i = rw (add-zero said.objects)

tell-added : (ls earlier : List Line) (said : Listing) (i : ℕ) → tell said i (last_bytes earlier) ls ≡ added said i (good_behind earlier ls) ls
unfolding tell good_behind read_of
tell-added [] earlier said i = added_none said i
tell-added (l ∷ ls) earlier said i = by-line (told earlier l) (λ v. tell-added ls (l ∷ earlier) (with_name said v) (i + 1))
  where
    by-line : Told earlier l → ((v : Name) → tell (with_name said v) (i + 1) l.bytes ls ≡ added (with_name said v) (i + 1) (good_behind (l ∷ earlier) ls) ls)
        → tell said i (last_bytes earlier) (l ∷ ls) ≡ added said i (good_behind earlier (l ∷ ls)) (l ∷ ls)
    by-line (bad is isn't) next = rw (is, isn't) (added_bad said i l ls)
    by-line (name v is isn't named) next = rw (is, isn't) (next v ∙ added_name said i l (good_behind (l ∷ earlier) ls) ls v named)

pub tell-all : (bytes : List ℕ) → tell nothing 0 [] (lines_of bytes) ≡ listing_of bytes
unfolding listing_of
tell-all bytes = tell-added (lines_of bytes) [] nothing 0 ∙ rw (or_none (last_manifest (names_in (good (lines_of bytes)))), highest-good (lines_of bytes), zero-add (objects_in (names_in (good (lines_of bytes)))), zero-add (length (good (lines_of bytes))))

-- the reader's turns, and what it begins with
pub ruleset turns = (tells_name, tells_bad, between_to_end, tells_torn, tells_end, tell-all, with_few)
