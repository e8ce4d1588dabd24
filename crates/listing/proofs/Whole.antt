-- Whole listings: they are the texts of rising names, and say their last manifest and how many `wal/` lines they have.
-- Assumes nothing.
use mathlib.Core.Path.{◌≡◌, refl, sym, ap, ◌∙◌}
use mathlib.Core.Bool.{Bool, true, false, cond}
use mathlib.Core.List.{List, [], ◌∷◌, map}
use Prim.Native.Nat.{ℕ, zero, suc, ◌+◌, ◌/◌, ◌%◌}
use native.Mathlib.Omega.{arith}
use lib.Dec.{eqb}
use lib.ListN.{length}
use lib.Seq.{append_snoc}
use borrow.Author.Tests.{eq-eqb, ne_eqb, eqb-true}
use Rattle.std.specs.Prelude.{Some, None}
use Rattle.rules.specs.Lists.{keep, any, all, has}
use Rattle.rules.proofs.Lists.{and_left, and_right, and_both}
use Rattle.arrays.specs.Arrays.{chain}
use Rattle.arrays.proofs.Lists.{any_append}
use Rattle.store_names.specs.declared.Name.{Name}
use Rattle.store_names.specs.declared.Name.TheVariants.{Manifest, Object}
use Rattle.store_names.specs.Decimal.{digits}
use Rattle.store_names.specs.Names.{name_digits, manifest_suffix, object_suffix, encode, is_taken}
use Rattle.store_names.proofs.RoundTrip.{round_trip_lem}
use Rattle.listing.specs.Lines.{Line, line_end, lines_of, joined, is_one_line, last_only}
use Rattle.listing.specs.Listing.{is_bad, good_behind, good, first_bad, names_in, objects_in, listing_of}
use Rattle.listing.specs.Whole.{Whole, is_before, rising, text_of, last_manifest, is_in_wal}
use Rattle.listing.proofs.Order.{order}
use Rattle.listing.proofs.Rising.{names-taken, not_bad, good-rising, highest-last, highest-good}
use Rattle.listing.proofs.Cutting.{cut}

-- a name's line, and those of names
abbrev line_of : Name → Line
line_of v = record { bytes = encode v; ended = true }

abbrev lines_for : List Name → List Line
lines_for vs = map line_of vs

-- ---- a text's lines

text_joined : (vs : List Name) → text_of vs ≡ joined (lines_for vs)
unfolding text_of joined
text_joined [] = refl
text_joined (v ∷ vs) = rw (text_joined vs) (sym (append_snoc (encode v) line_end (joined (lines_for vs))))

-- no digit is 0A
digits-one : (k n : ℕ) → any (eqb line_end) (digits k n) ≡ false
unfolding digits any
digits-one zero n = refl
digits-one (suc k) n = rw (any_append (eqb line_end) (digits k (n / 10)) ((48 + n % 10) ∷ []), digits-one k (n / 10), ne_eqb line_end (48 + n % 10) (omega arith))

name_one : (v : Name) → is_one_line (line_of v) ≡ true
unfolding has any
name_one (Manifest n) = rw (any_append (eqb line_end) (digits name_digits n) manifest_suffix, digits-one name_digits n)
name_one (Object n) = rw (any_append (eqb line_end) (digits name_digits n) object_suffix, digits-one name_digits n)

names-ones : (vs : List Name) → all is_one_line (lines_for vs) ≡ true
unfolding all
names-ones [] = refl
names-ones (v ∷ vs) = and_both (is_one_line (line_of v)) (all is_one_line (lines_for vs)) (name_one v) (names-ones vs)

names-ended : (vs : List Name) → last_only (lines_for vs) ≡ true
unfolding last_only
names-ended [] = refl
names-ended (v ∷ vs) = names-ended vs

text_lines : (vs : List Name) → lines_of (text_of vs) ≡ lines_for vs
text_lines vs = ap lines_of (text_joined vs) ∙ cut.only (lines_for vs) (names-ones vs) (names-ended vs)

-- ---- what they say, where the names rise

names-read : (vs : List Name) → all is_taken vs ≡ true → names_in (lines_for vs) ≡ vs
unfolding names_in all
names-read [] t = refl
names-read (v ∷ vs) t = rw (round_trip_lem.reads_written v (and_left (is_taken v) (all is_taken vs) t), names-read vs (and_right (is_taken v) (all is_taken vs) t))

-- none is bad behind a name that stands before them
good_behind_lem : (v : Name) (earlier : List Line) (vs : List Name) → is_taken v ≡ true → all is_taken vs ≡ true → chain is_before v vs ≡ true
    → good_behind (line_of v ∷ earlier) (lines_for vs) ≡ lines_for vs
unfolding good_behind all chain
good_behind_lem v earlier [] t u h = refl
good_behind_lem v earlier (w ∷ vs) t u h =
    let here = and_left (is_taken w) (all is_taken vs) u in
    let rest = good_behind_lem w (line_of v ∷ earlier) vs here (and_right (is_taken w) (all is_taken vs) u) (and_right (is_before v w) (chain is_before w vs) h) in
    rw (round_trip_lem.reads_written w here, order v w t here, and_left (is_before v w) (chain is_before w vs) h, rest)

all-good : (vs : List Name) → all is_taken vs ≡ true → rising vs ≡ true → good (lines_for vs) ≡ lines_for vs
unfolding good_behind all
all-good [] t h = refl
all-good (v ∷ vs) t h =
    let here = and_left (is_taken v) (all is_taken vs) t in
    rw (round_trip_lem.reads_written v here, good_behind_lem v [] vs here (and_right (is_taken v) (all is_taken vs) t) h)

text_said : (vs : List Name) → all is_taken vs ≡ true → rising vs ≡ true → listing_of (text_of vs) ≡ record { manifest = last_manifest vs; objects = objects_in vs; bad = None }
unfolding listing_of
text_said vs t h = rw (text_lines vs, all-good vs t h, names-read vs t, eq-eqb (length (lines_for vs)) (length (lines_for vs)) refl, highest-last vs h)

-- ---- a listing without a bad line

-- good lines are those of their names
good-lines : (earlier ls : List Line) → lines_for (names_in (good_behind earlier ls)) ≡ good_behind earlier ls
unfolding good_behind names_in
good-lines earlier [] = refl
good-lines earlier (l ∷ ls) = by (is_bad earlier l) refl (good-lines (l ∷ earlier) ls)
  where
    by : (bad : Bool) → is_bad earlier l ≡ bad → lines_for (names_in (good_behind (l ∷ earlier) ls)) ≡ good_behind (l ∷ earlier) ls
        → lines_for (names_in (cond bad [] (l ∷ good_behind (l ∷ earlier) ls))) ≡ cond bad [] (l ∷ good_behind (l ∷ earlier) ls)
    by true e f = refl
    by false e f =
        let g = not_bad earlier l e in
        let is : line_of g.name ≡ l = λ i. record { bytes = (round_trip_lem.writes_read l.bytes g.name g.read).1 i; ended = sym g.whole i } in
        rw (g.read, is, f)

-- as many good lines as lines: all of them
good-whole : (earlier ls : List Line) → length (good_behind earlier ls) ≡ length ls → good_behind earlier ls ≡ ls
unfolding good_behind
good-whole earlier [] e = refl
good-whole earlier (l ∷ ls) e = by (is_bad earlier l) (good-whole (l ∷ earlier) ls) e
  where
    by : (bad : Bool) → (length (good_behind (l ∷ earlier) ls) ≡ length ls → good_behind (l ∷ earlier) ls ≡ ls)
        → length (cond bad [] (l ∷ good_behind (l ∷ earlier) ls)) ≡ suc (length ls) → cond bad [] (l ∷ good_behind (l ∷ earlier) ls) ≡ l ∷ ls
    by true f e = absurd (omega arith)
    by false f e = ap (λ (r : List Line). l ∷ r) (f (omega arith))

bad_none : (ls : List Line) → first_bad ls ≡ None → good ls ≡ ls
bad_none ls e = good-whole [] ls (eqb-true (length (good ls)) (length ls) (by (eqb (length (good ls)) (length ls)) e))
  where
    by : (same : Bool) → cond same None (Some (length (good ls))) ≡ None → same ≡ true
    by true e = refl
    by false e = cc

-- objects are what stands in `wal/`
in_wal : (vs : List Name) → length (keep is_in_wal (lines_for vs)) ≡ objects_in vs
unfolding keep objects_in
in_wal [] = refl
in_wal (Manifest n ∷ vs) = in_wal vs
in_wal (Object n ∷ vs) = ap suc (in_wal vs)

module _ (bytes : List ℕ) (e : (listing_of bytes).bad ≡ None) where
  abbrev ls : List Line
  ls = lines_of bytes

  whole-good : good ls ≡ ls
  unfolding listing_of
  whole-good = bad_none ls e

  whole-lines : lines_for (names_in ls) ≡ ls
  whole-lines = rw whole-good at (good-lines [] ls)

  whole-read : (all is_taken (names_in ls) ≡ true) × (rising (names_in ls) ≡ true) × (text_of (names_in ls) ≡ bytes)
  whole-read = (names-taken ls, rw whole-good at (good-rising ls), text_joined (names_in ls) ∙ ap joined whole-lines ∙ cut.joins bytes)

  whole-last : (listing_of bytes).manifest ≡ last_manifest (names_in ls)
  unfolding listing_of
  whole-last = highest-good ls ∙ ap (λ (r : List Line). last_manifest (names_in r)) whole-good

  whole-count : (listing_of bytes).objects ≡ length (keep is_in_wal ls)
  unfolding listing_of
  whole-count = rw whole-good (sym (in_wal (names_in ls)) ∙ ap (λ (r : List Line). length (keep is_in_wal r)) whole-lines)

pub whole : Whole
whole = record { order = order; written = text_said; read = whole-read; last = whole-last; count = whole-count }
