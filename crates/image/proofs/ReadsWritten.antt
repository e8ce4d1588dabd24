-- An image that was written is read as its ledger: row by row, and then whole. Assumes nothing.
use mathlib.Core.Path.{◌≡◌, refl, sym, ap, ap₂, ◌∙◌, subst}
use mathlib.Core.Logic.{inl, inr}
use mathlib.Core.Bool.{Bool, true, false, cond}
use mathlib.Core.List.Memᴰ
use mathlib.Core.List.{List, [], ◌∷◌, ◌++◌, append_assoc, append-nil, map}
use Prim.Native.Nat.{ℕ, suc, ◌+◌, ◌^◌, ◌<◌}
use native.Mathlib.Omega.{arith}
use lib.Dec.{leb, ltb, eqb, lit<}
use lib.ListN.{length, get_or, drop, length-append, length-map}
use lib.Seq.{drop_at, drop-drop}
use borrow.Author.Tests.{le-leb, leb-true, lt-ltb, eq-eqb}
use Rattle.std.specs.Prelude.{Option, None, Some, is_some, unwrap_or, Ok, Err}
use Rattle.std.specs.Option.{option_map}
use Rattle.fields.specs.Fields.{field}
use Rattle.fields.proofs.Fields.{length-field, claimed-field}
use Rattle.rules.specs.declared.Object.{Object}
use Rattle.rules.specs.declared.Hold.{Hold}
use Rattle.rules.specs.Lists.{◌∈◌, all}
use Rattle.rules.specs.Limits.{limits, manifest_limit, word_bits, word_count}
use Rattle.rules.specs.State.{Manifest, State, free, occupied, kept}
use Rattle.rules.specs.Sound.{sound}
use Rattle.rules.proofs.Lists.{and_both}
use Rattle.rules.proofs.Shape.{Shape, shape_of}
use Rattle.rules.proofs.Bounds.{nine_enough}
use Rattle.objects.specs.Occupancy.{words_of}
use Rattle.manifests.specs.Manifests.{lay_manifests}
use Rattle.holds.specs.Holds.{lay_holds}
use Rattle.records.specs.Found.{is_whole}
use Rattle.records.proofs.WalkLaws.{behind-head}
use Rattle.records.proofs.RoundTripRecords.{all-below}
use Rattle.ledger.specs.Ledger.{lay}
use Rattle.ledger.proofs.SoundLaw.{lay-sound}
use Rattle.image.specs.declared.LoadError.TheVariants.{Malformed}
use Rattle.image.specs.Rows.{Rows, row_of, bytes_from, found_as}
use Rattle.image.specs.Fit.{fits}
use Rattle.image.specs.Format.{edition_row, clock_row, collected_row, edition, single, object_row, object_cells, manifest_row, manifest_cells, manifest_from, hold_row, hold_cells, hold_from}
use Rattle.image.specs.Image.{image_tag, head_bytes, place_bytes, manifest_bytes, hold_bytes, image_of}
use Rattle.image.specs.Reading.{number_at, place_at, manifest_at, hold_at, places_of, kept_of, holds_of, clock_at, collected_at, rows_begin, is_headed, kept_begin, holds_begin, rows_end, ledger_in, objects_of, sound_or, read_of}
use Rattle.image.specs.Form.{Said, spot_bytes, content as content_said, bytes_of, ledger_said, InForm}
use Rattle.image.specs.RoundTrip.{Fits}
use Rattle.image.proofs.RowLaws.{CellsFit, row_there, row_other, length-row}
use Rattle.image.proofs.Walks.{Each, rows_there}
use Rattle.image.proofs.Spots.{places-each}
use Rattle.image.proofs.Lengths.{length-head-rows, spots_bound, manifests_bound, length-holds, length_parts}
use Rattle.image.proofs.Heads.{headed_by, is_image_lem}

-- ---- a row of one number

single_fit : (tag w n : ℕ) → leb w 8 ≡ true → n < 256 ^ w → CellsFit (record { tag = tag; widths = w ∷ []; names = 0 }) (single n)
unfolding fits all
single_fit tag w n short h = record {
  narrow = and_both (leb w 8) true short refl;
  numbers = and_both (ltb n (256 ^ w)) true (lt-ltb n (256 ^ w) h) refl;
  names = λ i. lit< tt;
  few = omega arith;
  short = omega (arith, leb-true w 8 short);
}

-- it is read as its number
single_there : (tag w n : ℕ) (rest : List ℕ) → leb w 8 ≡ true → n < 256 ^ w
    → number_at (record { tag = tag; widths = w ∷ []; names = 0 }) (row_of (record { tag = tag; widths = w ∷ []; names = 0 }) (single n) ++ rest) ≡ Some n
single_there tag w n rest short h =
    ap (option_map (λ r. get_or r.value.numbers 0 0)) (row_there (record { tag = tag; widths = w ∷ []; names = 0 }) (single n) rest (single_fit tag w n short h))

-- ---- manifests and holds

manifests-each : (p : ℕ) (ms : List Manifest) (r : List ℕ) → ((m : Manifest) → m ∈ ms → CellsFit manifest_row (manifest_cells m)) → Each manifest_bytes manifest_at p ms r
unfolding Each manifest_bytes
manifests-each p [] r fit = tt
manifests-each p (m ∷ ms) r fit =
    let e = row_there manifest_row (manifest_cells m) (bytes_from manifest_bytes (suc p) ms ++ r) (fit m (Memᴰ.head refl)) in
    (ap (option_map (found_as manifest_from)) e, manifests-each (suc p) ms r (λ x k. fit x (Memᴰ.tail k)))

holds-each : (p : ℕ) (xs : List Hold) (r : List ℕ) → ((x : Hold) → x ∈ xs → CellsFit hold_row (hold_cells x)) → Each hold_bytes hold_at p xs r
unfolding Each hold_bytes
holds-each p [] r fit = tt
holds-each p (x ∷ xs) r fit =
    let e = row_there hold_row (hold_cells x) (bytes_from hold_bytes (suc p) xs ++ r) (fit x (Memᴰ.head refl)) in
    (ap (option_map (found_as (λ c. hold_from c.numbers))) e, holds-each (suc p) xs r (λ y k. fit y (Memᴰ.tail k)))

-- what a group of rows begins with
holds_begin_lem : (p : ℕ) (xs : List Hold) → get_or (bytes_from hold_bytes p xs) 0 0 ≡ 0x65 → ⊥
unfolding bytes_from hold_bytes
holds_begin_lem p [] e = omega (arith, e)
holds_begin_lem p (x ∷ xs) e = omega (arith, e)

later_begin : (p q : ℕ) (ms : List Manifest) (xs : List Hold) → get_or (bytes_from manifest_bytes p ms ++ bytes_from hold_bytes q xs) 0 0 ≡ 0x64 → ⊥
unfolding bytes_from manifest_bytes hold_bytes
later_begin p q [] [] e = omega (arith, e)
later_begin p q [] (x ∷ xs) e = omega (arith, e)
later_begin p q (m ∷ ms) xs e = omega (arith, e)

-- ---- bytes in the form of an image

module _ (s : Said) (fit : InForm s) where
  abbrev P : List ℕ
  P = bytes_from spot_bytes 0 s.spots

  abbrev M : List ℕ
  M = bytes_from manifest_bytes 0 s.manifests

  abbrev X : List ℕ
  X = bytes_from hold_bytes 0 s.holds

  abbrev r1 : List ℕ
  r1 = row_of edition_row (single edition)

  abbrev r2 : List ℕ
  r2 = row_of clock_row (single s.clock)

  abbrev r3 : List ℕ
  r3 = row_of collected_row (single s.collected)

  abbrev rest : List ℕ
  rest = P ++ (M ++ X)

  abbrev content : List ℕ
  content = content_said s

  -- the rows of one number
  edition_there : number_at edition_row content ≡ Some edition
  edition_there = ap (number_at edition_row) (append_assoc r1 (r2 ++ r3) rest) ∙ single_there 0x61 1 edition ((r2 ++ r3) ++ rest) refl (lit< tt)

  behind-first : drop clock_at content ≡ r2 ++ (r3 ++ rest)
  behind-first =
      ap (drop clock_at) (append_assoc r1 (r2 ++ r3) rest) ∙ drop_at r1 ((r2 ++ r3) ++ rest) clock_at (length-row edition_row (single edition) refl) ∙ append_assoc r2 r3 rest

  behind-second : drop collected_at content ≡ r3 ++ rest
  behind-second = sym (drop-drop 11 clock_at content) ∙ ap (drop 11) behind-first ∙ drop_at r2 (r3 ++ rest) 11 (length-row clock_row (single s.clock) refl)

  behind-head-rows : drop rows_begin content ≡ rest
  behind-head-rows = drop_at (head_bytes s.clock s.collected) rest rows_begin (length-head-rows s.clock s.collected)

  clock_there : number_at clock_row (drop clock_at content) ≡ Some s.clock
  clock_there = ap (number_at clock_row) behind-first ∙ single_there 0x62 8 s.clock (r3 ++ rest) refl fit.clock

  collected_there : number_at collected_row (drop collected_at content) ≡ Some s.collected
  collected_there = ap (number_at collected_row) behind-second ∙ single_there 0x63 8 s.collected rest refl fit.collected

  headed : is_headed content ≡ true
  headed = headed_by content edition_there clock_there collected_there

  -- the places
  places_there : places_of rest ≡ record { values = s.spots; size = length P }
  places_there =
      rows_there spot_bytes place_at limits.places 0 s.spots (M ++ X) (omega (arith, fit.places))
      (places-each 0 s.spots (M ++ X) (omega (arith, fit.places)) fit.objects (later_begin 0 0 s.manifests s.holds)) (inl fit.places)

  -- the manifests
  kept_there : kept_of (M ++ X) ≡ record { values = s.manifests; size = length M }
  unfolding all
  kept_there =
      rows_there manifest_bytes manifest_at (manifest_limit limits) 0 s.manifests X fit.keeps
      (manifests-each 0 s.manifests X (λ m i. record {
        narrow = refl;
        numbers = fit.manifests m i;
        names = all-below (2 ^ 64) m.names (lit< tt) (fit.names m i);
        few = fit.short m i;
        short = lit< tt;
      }))
      (inr (λ q. ap (option_map (found_as manifest_from)) (row_other manifest_row X (holds_begin_lem 0 s.holds))))

  -- the holds
  holds_there : holds_of X ≡ record { values = s.holds; size = length X }
  unfolding all
  holds_there =
      ap holds_of (sym (append-nil X))
      ∙ rows_there hold_bytes hold_at limits.holds 0 s.holds [] fit.few
      (holds-each 0 s.holds [] (λ x i. record {
        narrow = refl;
        numbers = fit.holds x i;
        names = λ j. lit< tt;
        few = omega arith;
        short = lit< tt;
      }))
      (inr (λ q. ap (option_map (found_as (λ c. hold_from c.numbers))) (row_other hold_row [] (λ e. omega (arith, e)))))

  -- where each group begins
  places-read : places_of (drop rows_begin content) ≡ record { values = s.spots; size = length P }
  places-read = ap places_of behind-head-rows ∙ places_there

  kept_begins : kept_begin content ≡ rows_begin + length P
  kept_begins = ap (λ (r : Rows (Option Object)). rows_begin + r.size) places-read

  behind_places : drop (kept_begin content) content ≡ M ++ X
  behind_places =
      ap (λ (n : ℕ). drop n content) kept_begins ∙ sym (drop-drop (length P) rows_begin content) ∙ ap (drop (length P)) behind-head-rows ∙ drop_at P (M ++ X) (length P) refl

  kept_read : kept_of (drop (kept_begin content) content) ≡ record { values = s.manifests; size = length M }
  kept_read = ap kept_of behind_places ∙ kept_there

  behind-kept : drop (holds_begin content) content ≡ X
  behind-kept =
      ap (λ (r : Rows Manifest). drop (kept_begin content + r.size) content) kept_read ∙ sym (drop-drop (length M) (kept_begin content) content)
      ∙ ap (drop (length M)) behind_places ∙ drop_at M X (length M) refl

  holds_read_lem : holds_of (drop (holds_begin content) content) ≡ record { values = s.holds; size = length X }
  holds_read_lem = ap holds_of behind-kept ∙ holds_there

  size : length content ≡ 26 + length P + length M + length X
  size = length_parts s.clock s.collected P M X

  ends : rows_end content ≡ length content
  ends = omega (arith, kept_begins, ap (λ (r : Rows Manifest). r.size) kept_read, ap (λ (r : Rows Hold). r.size) holds_read_lem, size)

  said : ledger_in content ≡ ledger_said s
  unfolding ledger_in
  said = λ i. record {
    clock = unwrap_or (clock_there i) 0;
    collected = unwrap_or (collected_there i) 0;
    objects = objects_of (places-read i).values;
    manifests = lay_manifests (kept_read i).values;
    holds = lay_holds (holds_read_lem i).values;
  }

  -- ---- whole

  short : length content < 65536
  short = omega (arith, size, spots_bound 0 s.spots, fit.places, manifests_bound 0 s.manifests fit.short, fit.keeps, length-holds 0 s.holds, fit.few)

  behind : drop 3 (bytes_of s) ≡ content
  behind = simp append-nil at (behind-head image_tag content [])

  whole : is_whole (bytes_of s) ≡ true
  whole =
      and_both _ _ (le-leb 3 (length (bytes_of s)) (omega (arith, length-field image_tag content)))
      (eq-eqb _ _ (rw append-nil at (claimed-field image_tag content [] short) ∙ omega (arith, length-field image_tag content)))

  pub formed : read_of (bytes_of s) ≡ sound_or (ledger_said s)
  unfolding read_of
  formed =
      ap (λ (b : Bool). cond b (sound_or (ledger_in (drop 3 (bytes_of s)))) (Err Malformed))
      (is_image_lem (bytes_of s) whole refl (ap is_headed behind ∙ headed) (ap (λ (c : List ℕ). eqb (rows_end c) (length c)) behind ∙ eq-eqb (rows_end content) (length content) ends))
      ∙ ap sound_or (ap ledger_in behind ∙ said)

-- ---- the image of a sound ledger

abbrev spot_of : Object → Option Object
spot_of o = cond (occupied o) (Some o) None

spots_of : (p : ℕ) (os : List Object) → bytes_from spot_bytes p (map spot_of os) ≡ bytes_from place_bytes p os
unfolding bytes_from place_bytes
spots_of p [] = refl
spots_of p (o ∷ os) = ap₂ (λ (u v : List ℕ). u ++ v) (by (occupied o)) (spots_of (suc p) os)
  where
    by : (b : Bool) → spot_bytes p (cond b (Some o) None) ≡ cond b (row_of object_row (object_cells p o)) []
    by true = refl
    by false = refl

takens : (os : List Object) → map is_some (map spot_of os) ≡ map occupied os
takens [] = refl
takens (o ∷ os) = λ i. by (occupied o) i ∷ takens os i
  where
    by : (b : Bool) → is_some (cond b (Some o) None) ≡ b
    by true = refl
    by false = refl

-- a free place is all zero
items : (os : List Object) → ((o : Object) → o ∈ os → occupied o ≡ false → o ≡ free) → map (λ s. unwrap_or s free) (map spot_of os) ≡ os
items [] unused = refl
items (o ∷ os) unused = λ i. by (occupied o) refl i ∷ items os (λ x k. unused x (Memᴰ.tail k)) i
  where
    by : (b : Bool) → occupied o ≡ b → unwrap_or (cond b (Some o) None) free ≡ o
    by true e = refl
    by false e = sym (unused o (Memᴰ.head refl) e)

-- an object that is there stands in its place
object-in : (os : List Object) (o : Object) → Some o ∈ map spot_of os → o ∈ os
object-in os o i = let x = Memᴰ.of_map spot_of os i in subst (λ y. y ∈ os) (by x.0 (occupied x.0) x.2) x.1
  where
    by : (x : Object) (b : Bool) → cond b (Some x) None ≡ Some o → x ≡ o
    by x true e = cc
    by x false e = cc

module _ (s : State) (good : sound limits s ≡ true) (fit : Fits s) where
  abbrev said_by : Said
  said_by = record { clock = s.clock; collected = s.highest_collected; spots = map spot_of s.places; manifests = kept s; holds = s.holds }

  shape : Shape limits s
  shape = shape_of limits s good

  in_form : InForm said_by
  in_form = record {
    clock = fit.clock;
    collected = fit.collected;
    places = length-map s.places spot_of ∙ shape.size;
    objects = λ o i. fit.objects o (object-in s.places o i);
    keeps = omega (arith, length-append s.older (s.current ∷ []), nine_enough limits s good);
    manifests = fit.manifests;
    short = shape.short;
    names = fit.names;
    few = shape.few;
    holds = fit.holds;
  }

  image_is : bytes_of said_by ≡ image_of s
  unfolding image_of
  image_is = ap (λ (p : List ℕ). field image_tag (head_bytes s.clock s.highest_collected ++ (p ++ (bytes_from manifest_bytes 0 (kept s) ++ bytes_from hold_bytes 0 s.holds)))) (spots_of 0 s.places)

  ledger_is : ledger_said said_by ≡ lay s
  ledger_is = λ i. record {
    clock = s.clock;
    collected = s.highest_collected;
    objects = record { occupancy = words_of word_bits word_count (takens s.places i); items = items s.places shape.unused i };
    manifests = lay_manifests (kept s);
    holds = lay_holds s.holds;
  }

  pub reads_written_lem : read_of (image_of s) ≡ Ok (lay s)
  reads_written_lem =
      ap read_of (sym image_is) ∙ formed said_by in_form ∙ ap sound_or ledger_is ∙ rw (lay-sound s good)
