-- What is read as a ledger is its image: row by row, and then whole. Assumes nothing.
use mathlib.Core.Path.{◌≡◌, refl, sym, ap, ap₂, ◌∙◌, subst, subst⁻¹}
use mathlib.Core.Bool.{Bool, true, false, cond}
use mathlib.Core.List.Memᴰ
use mathlib.Core.List.{List, [], ◌∷◌, ◌++◌, map}
use Prim.Native.Nat.{ℕ, ◌+◌, ◌-◌, ◌^◌, ◌≤◌, ◌<◌}
use native.Mathlib.Omega.{arith}
use lib.Dec.{leb, ltb, eqb, lit<}
use lib.ListN.{length, get_or, take, drop, length-drop, length-map, take-append-drop, drop_of_length-le}
use lib.Seq.{drop-cons, drop-drop, take-add, take_all}
use borrow.Author.Tests.{leb-true, eqb-true, ltb-true}
use Rattle.std.specs.Prelude.{Option, None, Some, is_some, unwrap_or, Result, Ok, Err}
use Rattle.fields.specs.Fields.{field, claimed}
use Rattle.fields.proofs.Bytes.{Below, below-drop}
use Rattle.rules.specs.declared.Object.{Object}
use Rattle.rules.specs.declared.Hold.{Hold}
use Rattle.rules.specs.Lists.{◌∈◌, all}
use Rattle.rules.specs.Limits.{limits, manifest_limit, word_bits, word_count}
use Rattle.rules.specs.State.{Manifest, State, free, occupied}
use Rattle.rules.specs.Sound.{sound}
use Rattle.rules.proofs.Lists.{AllTrue, and_left, and_right, and_both, conj-true}
use Rattle.objects.specs.Occupancy.{words_of, flags_of}
use Rattle.objects.proofs.Words.{flags-words}
use Rattle.objects.proofs.Places.{laid-words}
use Rattle.manifests.specs.Manifests.{lay_manifests}
use Rattle.manifests.proofs.Places.{some}
use Rattle.holds.specs.Holds.{lay_holds}
use Rattle.records.specs.RoundTrip.{are_bytes}
use Rattle.records.proofs.RoundTripRecords.{all-below, below_all, record_bytes}
use Rattle.ledger.specs.declared.Ledger.{Ledger}
use Rattle.ledger.specs.Ledger.{lay, view, is_sound}
use Rattle.ledger.proofs.View.{Laid, sound_parts, sound-view}
use Rattle.ledger.proofs.SoundLaw.{view-lay}
use Rattle.image.specs.declared.LoadError.{LoadError}
use Rattle.image.specs.declared.LoadError.TheVariants.{Unsound, Malformed}
use Rattle.image.specs.declared.rows.Found.{Found}
use Rattle.image.specs.Rows.{Format, Cells, row_of, row_at, bytes_from, found_as}
use Rattle.image.specs.Format.{edition_row, clock_row, collected_row, edition, single, object_row, object_cells, manifest_row, manifest_cells, manifest_from, hold_row, hold_cells, hold_from}
use Rattle.image.specs.Image.{image_tag, head_bytes, manifest_bytes, hold_bytes, content_of, image_of}
use Rattle.image.specs.Reading.{number_at, spot_at, spot_size, place_at, manifest_at, hold_at, places_of, kept_of, holds_of, clock_at, collected_at, rows_begin, is_headed, kept_begin, holds_begin, rows_end, ledger_in, is_image, read_of}
use Rattle.image.specs.Fit.{fits}
use Rattle.image.specs.RoundTrip.{Fits}
use Rattle.image.specs.Form.{Said, spot_bytes, content as content_said, bytes_of, InForm}
use Rattle.image.proofs.RowLaws.{row_back, row_sized, no_names}
use Rattle.image.proofs.Walks.{rows_back, rows_few, rows-each, rows_all}
use Rattle.image.proofs.Spots.{spots-bytes, spot_back, spot_fits}
use Rattle.image.proofs.Heads.{single-size, refused-by}
use Rattle.image.proofs.Things.{some_of, map-some}

-- ---- the numbers of a row

one : (v : List ℕ) → length v ≡ 1 → get_or v 0 0 ∷ [] ≡ v
one v e = sym (drop-cons v 0 0 (omega arith) ∙ ap (λ l. get_or v 0 0 ∷ l) (drop_of_length-le v {i = 1} (omega arith)))

three : (v : List ℕ) → length v ≡ 3 → get_or v 0 0 ∷ get_or v 1 0 ∷ get_or v 2 0 ∷ [] ≡ v
three v e =
    sym (drop-cons v 0 0 (omega arith) ∙ ap (λ l. get_or v 0 0 ∷ l) (drop-cons v 1 0 (omega arith) ∙ ap (λ l. get_or v 1 0 ∷ l) (drop-cons v 2 0 (omega arith)
    ∙ ap (λ l. get_or v 2 0 ∷ l) (drop_of_length-le v {i = 3} (omega arith)))))

-- a row of one number is that of its number, which fits
module _ (tag w : ℕ) (bs : List ℕ) (short : leb w 8 ≡ true) (h : Below 256 bs) (n : ℕ) (e : number_at (record { tag = tag; widths = w ∷ []; names = 0 }) bs ≡ Some n) where
  abbrev form : Format
  form = record { tag = tag; widths = w ∷ []; names = 0 }

  read : (r : Found Cells) × (row_at form bs ≡ Some r) × (get_or r.value.numbers 0 0 ≡ n)
  read = map-some (λ (r : Found Cells). get_or r.value.numbers 0 0) (row_at form bs) e

  numbers : read.0.value.numbers ≡ n ∷ []
  numbers = sym (one read.0.value.numbers (row_sized form bs read.0 read.1).columns) ∙ ap (λ k. k ∷ []) read.2

  single-back : take (3 + w) bs ≡ row_of form (single n)
  unfolding all
  single-back =
      let back = row_back form bs (and_both (leb w 8) true short refl) h read.0 read.1 in
      let s = row_sized form bs read.0 read.1 in
      ap (λ (k : ℕ). take k bs) (sym (single-size tag w bs read.0 read.1)) ∙ back.bytes
      ∙ (λ i. row_of form (record { numbers = numbers i; names = sym (no_names read.0.value.names s.few) i }))

  single-fits : n < 256 ^ w
  unfolding all fits
  single-fits =
      let back = row_back form bs (and_both (leb w 8) true short refl) h read.0 read.1 in
      let fit : fits (w ∷ []) (n ∷ []) ≡ true = ap (fits (w ∷ [])) (sym numbers) ∙ back.fit in
      ltb-true n (256 ^ w) (and_left (ltb n (256 ^ w)) true fit)

manifest-back : (p : ℕ) (bs : List ℕ) → Below 256 bs → (r : Found Manifest) → manifest_at p bs ≡ Some r → (take r.size bs ≡ manifest_bytes p r.value) × (r.size ≤ length bs)
unfolding manifest_bytes all
manifest-back p bs h r e =
    let x = map-some (found_as manifest_from) (row_at manifest_row bs) e in
    let back = row_back manifest_row bs refl h x.0 x.1 in
    let s = row_sized manifest_row bs x.0 x.1 in
    subst (λ (r : Found Manifest). (take r.size bs ≡ manifest_bytes p r.value) × (r.size ≤ length bs)) x.2
    (back.bytes ∙ (λ i. row_of manifest_row (record { numbers = sym (three x.0.value.numbers s.columns) i; names = x.0.value.names })), back.room)

hold-back : (p : ℕ) (bs : List ℕ) → Below 256 bs → (r : Found Hold) → hold_at p bs ≡ Some r → (take r.size bs ≡ hold_bytes p r.value) × (r.size ≤ length bs)
unfolding hold_bytes all
hold-back p bs h r e =
    let x = map-some (found_as (λ (c : Cells). hold_from c.numbers)) (row_at hold_row bs) e in
    let back = row_back hold_row bs refl h x.0 x.1 in
    let s = row_sized hold_row bs x.0 x.1 in
    subst (λ (r : Found Hold). (take r.size bs ≡ hold_bytes p r.value) × (r.size ≤ length bs)) x.2
    (back.bytes ∙ (λ i. row_of hold_row (record { numbers = sym (three x.0.value.numbers s.columns) i; names = sym (no_names x.0.value.names s.few) i })), back.room)

-- ---- a list of manifests that is not empty has a last one

last_of : (m : Manifest) (ms : List Manifest) → (older : List Manifest) × (current : Manifest) × (m ∷ ms ≡ older ++ current ∷ [])
last_of m [] = ([], m, refl)
last_of m (x ∷ xs) = let r = last_of x xs in (m ∷ r.0, r.1, ap (λ l. m ∷ l) r.2)

split-last : (ms : List Manifest) → 1 ≤ length ms → (older : List Manifest) × (current : Manifest) × (ms ≡ older ++ current ∷ [])
split-last [] h = absurd (omega (arith, h))
split-last (m ∷ ms) h = last_of m ms

-- ---- what the rows say, and that they are its bytes

abbrev pub said_in : List ℕ → Said
said_in cs = record {
  clock = unwrap_or (number_at clock_row (drop clock_at cs)) 0;
  collected = unwrap_or (number_at collected_row (drop collected_at cs)) 0;
  spots = (places_of (drop rows_begin cs)).values;
  manifests = (kept_of (drop (kept_begin cs) cs)).values;
  holds = (holds_of (drop (holds_begin cs) cs)).values;
}

-- what a manifest's and a hold's row say fits
record ManifestFit (m : Manifest) : Type 0 where
  fit : fits manifest_row.widths (manifest_cells m).numbers ≡ true
  short : length m.names ≤ limits.names
  names : all (λ n. ltb n (2 ^ 64)) m.names ≡ true

manifest-fits : (p : ℕ) (bs : List ℕ) → Below 256 bs → (r : Found Manifest) → manifest_at p bs ≡ Some r → ManifestFit r.value
unfolding all
manifest-fits p bs h r e =
    let x = map-some (found_as manifest_from) (row_at manifest_row bs) e in
    let back = row_back manifest_row bs refl h x.0 x.1 in
    let s = row_sized manifest_row bs x.0 x.1 in
    subst (λ (r : Found Manifest). ManifestFit r.value) x.2
    (record { fit = ap (fits manifest_row.widths) (three x.0.value.numbers s.columns) ∙ back.fit; short = s.few; names = below_all (2 ^ 64) x.0.value.names back.names })

hold-fits : (p : ℕ) (bs : List ℕ) → Below 256 bs → (r : Found Hold) → hold_at p bs ≡ Some r → fits hold_row.widths (hold_cells r.value).numbers ≡ true
unfolding all
hold-fits p bs h r e =
    let x = map-some (found_as (λ (c : Cells). hold_from c.numbers)) (row_at hold_row bs) e in
    let back = row_back hold_row bs refl h x.0 x.1 in
    subst (λ (r : Found Hold). fits hold_row.widths (hold_cells r.value).numbers ≡ true) x.2
    (ap (fits hold_row.widths) (three x.0.value.numbers (row_sized hold_row bs x.0 x.1).columns) ∙ back.fit)

-- the object of a place that is gone through is the one that stands there
place-fits : (p : ℕ) (bs : List ℕ) → Below 256 bs → (r : Found (Option Object)) → place_at p bs ≡ Some r → (o : Object) → r.value ≡ Some o → fits object_row.widths (object_cells 0 o).numbers ≡ true
place-fits p bs h r e o at = let same : spot_at p bs ≡ Some o = (let value : r.value ≡ spot_at p bs = cc in sym value ∙ at) in spot_fits p bs h o same

place-back : (p : ℕ) (bs : List ℕ) → Below 256 bs → (r : Found (Option Object)) → place_at p bs ≡ Some r → (take r.size bs ≡ spot_bytes p r.value) × (r.size ≤ length bs)
place-back p bs h r e = let same : ◌≡◌ {A = Found (Option Object)} (record { value = spot_at p bs; size = spot_size (is_some (spot_at p bs)) }) r = cc in subst (λ (r : Found (Option Object)). (take r.size bs ≡ spot_bytes p r.value) × (r.size ≤ length bs)) same (spot_back p bs h)

module _ (cs : List ℕ) (below : Below 256 cs) (headed : is_headed cs ≡ true) where
  tests : AllTrue (is_some (number_at edition_row cs) ∷ eqb (unwrap_or (number_at edition_row cs) 0) edition ∷ is_some (number_at clock_row (drop clock_at cs)) ∷ is_some (number_at collected_row (drop collected_at cs)) ∷ [])
  tests = conj-true _ headed

  -- the three numbers
  edition_read : number_at edition_row cs ≡ Some edition
  edition_read = let n = some_of (number_at edition_row cs) tests.0 in n.1 ∙ ap (λ k. Some k) (sym (ap (λ o. unwrap_or o 0) n.1) ∙ eqb-true (unwrap_or (number_at edition_row cs) 0) edition tests.1.0)

  clock_read : number_at clock_row (drop clock_at cs) ≡ Some (said_in cs).clock
  clock_read = let n = some_of (number_at clock_row (drop clock_at cs)) tests.1.1.0 in n.1 ∙ ap (λ k. Some k) (sym (ap (λ o. unwrap_or o 0) n.1))

  collected_read : number_at collected_row (drop collected_at cs) ≡ Some (said_in cs).collected
  collected_read = let n = some_of (number_at collected_row (drop collected_at cs)) tests.1.1.1.0 in n.1 ∙ ap (λ k. Some k) (sym (ap (λ o. unwrap_or o 0) n.1))

  pub said_in-form : InForm (said_in cs)
  said_in-form =
      let spots = rows-each place_at (λ (s : Option Object). (o : Object) → s ≡ Some o → fits object_row.widths (object_cells 0 o).numbers ≡ true) place-fits limits.places 0 (drop rows_begin cs) (below-drop 256 rows_begin cs below) in
      let kept-fit = rows-each manifest_at ManifestFit manifest-fits (manifest_limit limits) 0 (drop (kept_begin cs) cs) (below-drop 256 (kept_begin cs) cs below) in
      record {
        clock = single-fits 0x62 8 (drop clock_at cs) refl (below-drop 256 clock_at cs below) (said_in cs).clock clock_read;
        collected = single-fits 0x63 8 (drop collected_at cs) refl (below-drop 256 collected_at cs below) (said_in cs).collected collected_read;
        places = rows_all place_at (λ q bs. refl) limits.places 0 (drop rows_begin cs);
        objects = λ o i. spots (Some o) i o refl;
        keeps = rows_few manifest_at (manifest_limit limits) 0 (drop (kept_begin cs) cs);
        manifests = λ m i. (kept-fit m i).fit;
        short = λ m i. (kept-fit m i).short;
        names = λ m i. (kept-fit m i).names;
        few = rows_few hold_at limits.holds 0 (drop (holds_begin cs) cs);
        holds = rows-each hold_at (λ x. fits hold_row.widths (hold_cells x).numbers ≡ true) hold-fits limits.holds 0 (drop (holds_begin cs) cs) (below-drop 256 (holds_begin cs) cs below);
      }

  head-back : take 26 cs ≡ head_bytes (said_in cs).clock (said_in cs).collected
  head-back =
      let first = single-back 0x61 1 cs refl below edition edition_read in
      let second = single-back 0x62 8 (drop 4 cs) refl (below-drop 256 4 cs below) (said_in cs).clock clock_read in
      let third = single-back 0x63 8 (drop 15 cs) refl (below-drop 256 15 cs below) (said_in cs).collected collected_read in
      take-add 4 22 cs ∙ ap (λ (l : List ℕ). take 4 cs ++ l) (take-add 11 11 (drop 4 cs) ∙ ap (λ (l : List ℕ). take 11 (drop 4 cs) ++ take 11 l) (drop-drop 11 4 cs))
      ∙ (λ i. first i ++ (second i ++ third i))

  places-back : take (places_of (drop 26 cs)).size (drop 26 cs) ≡ bytes_from spot_bytes 0 (said_in cs).spots
  places-back = (rows_back spot_bytes place_at place-back limits.places 0 (drop 26 cs) (below-drop 256 26 cs below)).0

  kept_back : take (kept_of (drop (kept_begin cs) cs)).size (drop (kept_begin cs) cs) ≡ bytes_from manifest_bytes 0 (said_in cs).manifests
  kept_back = (rows_back manifest_bytes manifest_at manifest-back (manifest_limit limits) 0 (drop (kept_begin cs) cs) (below-drop 256 (kept_begin cs) cs below)).0

  holds-back : take (holds_of (drop (holds_begin cs) cs)).size (drop (holds_begin cs) cs) ≡ bytes_from hold_bytes 0 (said_in cs).holds
  holds-back = (rows_back hold_bytes hold_at hold-back limits.holds 0 (drop (holds_begin cs) cs) (below-drop 256 (holds_begin cs) cs below)).0

  pub content-back : rows_end cs ≡ length cs → content_said (said_in cs) ≡ cs
  content-back ends =
      let k = kept_begin cs in
      let h = holds_begin cs in
      let pn = (places_of (drop 26 cs)).size in
      let mn = (kept_of (drop k cs)).size in
      let xn = (holds_of (drop h cs)).size in
      let p2 : drop 26 cs ≡ bytes_from spot_bytes 0 (said_in cs).spots ++ drop k cs = sym (take-append-drop pn (drop 26 cs)) ∙ ap₂ (λ (u v : List ℕ). u ++ v) places-back (drop-drop pn 26 cs) in
      let m2 : drop k cs ≡ bytes_from manifest_bytes 0 (said_in cs).manifests ++ drop h cs = sym (take-append-drop mn (drop k cs)) ∙ ap₂ (λ (u v : List ℕ). u ++ v) kept_back (drop-drop mn k cs) in
      let x2 : drop h cs ≡ bytes_from hold_bytes 0 (said_in cs).holds = sym (take_all xn (drop h cs) (omega (arith, ends, length-drop h cs))) ∙ holds-back in
      sym (sym (take-append-drop 26 cs) ∙ ap₂ (λ (u v : List ℕ). u ++ v) head-back
      (p2 ∙ ap (λ (l : List ℕ). bytes_from spot_bytes 0 (said_in cs).spots ++ l) (m2 ∙ ap (λ (l : List ℕ). bytes_from manifest_bytes 0 (said_in cs).manifests ++ l) x2)))

-- ---- the ledger that rows say, where it is sound, is a layout

module _ (cs : List ℕ) (good : is_sound (ledger_in cs) ≡ true) where
  abbrev ss : List (Option Object)
  ss = (places_of (drop rows_begin cs)).values

  abbrev ms : List Manifest
  ms = (kept_of (drop (kept_begin cs) cs)).values

  abbrev xs : List Hold
  xs = (holds_of (drop (holds_begin cs) cs)).values

  parts : Laid (ledger_in cs)
  parts = sound_parts (ledger_in cs) good

  last : (older : List Manifest) × (current : Manifest) × (ms ≡ older ++ current ∷ [])
  unfolding ledger_in
  last = split-last ms (some (lay_manifests ms) parts.manifests)

  pub state_in : State
  state_in = record {
    clock = unwrap_or (number_at clock_row (drop clock_at cs)) 0;
    highest_collected = unwrap_or (number_at collected_row (drop collected_at cs)) 0;
    places = map (λ s. unwrap_or s free) ss;
    older = last.0;
    current = last.1;
    holds = xs;
  }

  words_same : words_of word_bits word_count (map is_some ss) ≡ words_of word_bits word_count (map occupied (map (λ s. unwrap_or s free) ss))
  unfolding ledger_in
  words_same = laid-words (ledger_in cs).objects parts.objects

  pub laid : ledger_in cs ≡ lay state_in
  unfolding ledger_in state_in
  laid = λ i. record {
    clock = state_in.clock;
    collected = state_in.highest_collected;
    objects = record { occupancy = words_same i; items = map (λ s. unwrap_or s free) ss };
    manifests = lay_manifests (last.2 i);
    holds = lay_holds xs;
  }

  pub view_is : view (ledger_in cs) ≡ state_in
  view_is = ap view laid ∙ view-lay state_in

  -- a place is taken exactly where its object is there
  taken-same : map is_some ss ≡ map occupied (map (λ s. unwrap_or s free) ss)
  taken-same =
      let many : length ss ≡ limits.places = rows_all place_at (λ q bs. refl) limits.places 0 (drop rows_begin cs) in
      sym (flags-words word_bits word_count (map is_some ss) (length-map ss is_some ∙ many))
      ∙ ap (flags_of word_bits) words_same
      ∙ flags-words word_bits word_count (map occupied (map (λ s. unwrap_or s free) ss)) (length-map (map (λ s. unwrap_or s free) ss) occupied ∙ length-map ss (λ s. unwrap_or s free) ∙ many)

  -- its numbers fit their columns, as those of what the rows say do
  state-fits : InForm (said_in cs) → Fits state_in
  unfolding state_in fits
  state-fits f = record {
    clock = f.clock;
    collected = f.collected;
    objects = λ o i. let k = Memᴰ.of_map (λ s. unwrap_or s free) ss i in object_fits k.0 k.1 o k.2;
    manifests = λ m i. f.manifests m (subst⁻¹ (λ (l : List Manifest). m ∈ l) last.2 i);
    names = λ m i. f.names m (subst⁻¹ (λ (l : List Manifest). m ∈ l) last.2 i);
    holds = f.holds;
  }
    where
      -- a free place is all zero
      object_fits : (s : Option Object) → s ∈ ss → (o : Object) → unwrap_or s free ≡ o → fits object_row.widths (object_cells 0 o).numbers ≡ true
      object_fits None i o e = subst (λ (x : Object). fits object_row.widths (object_cells 0 x).numbers ≡ true) e refl
      object_fits (Some x) i o e = subst (λ (x : Object). fits object_row.widths (object_cells 0 x).numbers ≡ true) e (f.objects x i)

  -- its content is that of what the rows say
  pub content_is : content_of state_in ≡ content_said (said_in cs)
  unfolding state_in
  content_is = λ i. head_bytes (said_in cs).clock (said_in cs).collected ++ (sym (spots-bytes 0 ss taken-same) i ++ (bytes_from manifest_bytes 0 (sym last.2 i) ++ bytes_from hold_bytes 0 xs))

-- ---- whole

-- bytes of an image are those of what its rows say
image_back : (bs : List ℕ) → are_bytes bs ≡ true → is_image bs ≡ true → InForm (said_in (drop 3 bs)) × (bytes_of (said_in (drop 3 bs)) ≡ bs)
unfolding is_image
image_back bs bytes e =
    let cs = drop 3 bs in
    let f = conj-true _ e in
    let below = all-below 256 bs (lit< tt) bytes in
    let rest = below-drop 256 3 bs below in
    let headed = f.1.1.0 in
    let content = content-back cs rest headed (eqb-true (rows_end cs) (length cs) f.1.1.1.0) in (
      said_in-form cs rest headed,
      ap (field image_tag) content ∙ ap (λ (t : ℕ). field t cs) (sym (eqb-true (get_or bs 0 0) image_tag f.1.0))
          ∙ record_bytes bs below (leb-true 3 (length bs) (and_left (leb 3 (length bs)) _ f.0)) (eqb-true (claimed bs) (length bs - 3) (and_right (leb 3 (length bs)) (eqb (claimed bs) (length bs - 3)) f.0)),
    )

-- so bytes in no such form are refused with 2
pub refuses : (bs : List ℕ) → are_bytes bs ≡ true → ((r : Said) → InForm r → bytes_of r ≡ bs → ⊥) → read_of bs ≡ Err Malformed
refuses bs bytes never = by (is_image bs) refl
  where
    by : (b : Bool) → is_image bs ≡ b → read_of bs ≡ Err Malformed
    by true e = let r = image_back bs bytes e in absurd (never (said_in (drop 3 bs)) r.0 r.1)
    by false e = refused-by bs e

-- what was read is sound, and what the rows say
read_as : (bs : List ℕ) (l : Ledger) → read_of bs ≡ Ok l → (is_image bs ≡ true) × (is_sound (ledger_in (drop 3 bs)) ≡ true) × (ledger_in (drop 3 bs) ≡ l)
unfolding read_of
read_as bs l = by (is_image bs) (is_sound (ledger_in (drop 3 bs))) refl refl
  where
    answer : Bool → Bool → Result Ledger LoadError
    answer b t = cond b (cond t (Ok (ledger_in (drop 3 bs))) (Err Unsound)) (Err Malformed)

    by : (b t : Bool) → is_image bs ≡ b → is_sound (ledger_in (drop 3 bs)) ≡ t → answer b t ≡ Ok l
        → (is_image bs ≡ true) × (is_sound (ledger_in (drop 3 bs)) ≡ true) × (ledger_in (drop 3 bs) ≡ l)
    by true true e f g = (e, f, cc)
    by true false e f g = cc
    by false t e f g = cc

-- a ledger that was read is the layout of a sound state
pub read-laid : (bs : List ℕ) (l : Ledger) → read_of bs ≡ Ok l → (s : State) × (l ≡ lay s) × (sound limits s ≡ true)
read-laid bs l e =
    let r = read_as bs l e in
    let cs = drop 3 bs in
    (state_in cs r.1, sym r.2 ∙ laid cs r.1, ap (sound limits) (sym (view_is cs r.1)) ∙ sound-view (ledger_in cs) r.1)

-- so are the numbers of what was read
pub read_fits : (bs : List ℕ) (l : Ledger) → are_bytes bs ≡ true → read_of bs ≡ Ok l → Fits (view l)
read_fits bs l bytes e =
    let r = read_as bs l e in
    let cs = drop 3 bs in
    subst Fits (sym (view_is cs r.1) ∙ ap view r.2) (state-fits cs r.1 (image_back bs bytes r.0).0)

pub writes_read_lem : (bs : List ℕ) (l : Ledger) → are_bytes bs ≡ true → read_of bs ≡ Ok l → (is_sound l ≡ true) × (image_of (view l) ≡ bs)
unfolding image_of
writes_read_lem bs l bytes e =
    let r = read_as bs l e in
    let cs = drop 3 bs in (
      ap is_sound (sym r.2) ∙ r.1,
      ap (λ (m : Ledger). field image_tag (content_of (view m))) (sym r.2) ∙ ap (λ (s : State). field image_tag (content_of s)) (view_is cs r.1)
          ∙ ap (field image_tag) (content_is cs r.1) ∙ (image_back bs bytes r.0).1,
    )
