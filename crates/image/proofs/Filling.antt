-- What a loop that reads rows into places knows, over what a row is; and the loop over the objects' places, which fills their words too.
-- Assumes nothing.
use mathlib.Core.Path.{◌≡◌, refl, sym, ap, ◌∙◌}
use mathlib.Core.Bool.{true, false}
use mathlib.Core.List.{List, [], ◌∷◌, ◌++◌, map}
use Prim.Native.Nat.{ℕ, zero, suc, ◌+◌, ◌≤◌, ◌<◌}
use native.Mathlib.Omega.{arith}
use native.Mathlib.Numerals.{add-one}
use lib.ListN.{length, get_or, set, drop, replicate, length-map, length-replicate, get_or-eq_default}
use lib.Seq.{set-get_or, set-append_seam, append_snoc, drop-cons}
use Rattle.std.specs.Prelude.{Option, None, Some, is_some, unwrap_or}
use Rattle.rules.specs.declared.Object.{Object}
use Rattle.rules.specs.declared.Hold.{Hold}
use Rattle.rules.specs.Limits.{limits, manifest_limit, word_bits, word_count}
use Rattle.rules.specs.State.{free, occupied}
use Rattle.arrays.specs.Arrays.{pad}
use Rattle.arrays.proofs.Lists.{pad-none, pad-set, pad-full, get_d_pad, length-pad, map-append}
use Rattle.objects.specs.declared.Objects.{Objects}
use Rattle.objects.specs.Occupancy.{words_of, with_flag}
use Rattle.objects.specs.Objects.{lay_places}
use Rattle.objects.proofs.Words.{occupancy-by_words}
use Rattle.manifests.specs.declared.KeptManifest.{KeptManifest}
use Rattle.manifests.specs.declared.Manifests.{Manifests}
use Rattle.manifests.specs.Manifests.{lay_manifest, no_manifest, lay_manifests}
use Rattle.holds.specs.declared.Holds.{Holds}
use Rattle.holds.specs.Holds.{no_hold, lay_holds}
use Rattle.image.specs.declared.rows.Found.{Found}
use Rattle.image.specs.Rows.{rows_from}
use Rattle.image.specs.Format.{object_size}
use Rattle.image.specs.Reading.{objects_of, place_at, spot_at, spot_size, manifest_at, hold_at, places_of, kept_of, holds_of}
use Rattle.image.specs.Code.{found_manifest, Filled}
use Rattle.image.proofs.RowLaws.{pad_front}
use Rattle.image.proofs.Walks.{Going, going_none, going_next, going_end, going_full, rows_all, rows_from-as}

-- ---- places that were there

module _ {A : Type 0} (at : ℕ → List ℕ → Option (Found A)) (old : List A) (s : List ℕ) where
  pub record Filling (i pos : ℕ) (items : List A) : Type 0 where
    pub done : List A
    pub going : Going at (length old) s i pos done
    pub places : items ≡ done ++ drop i old

  abbrev pub filling_none : Filling 0 0 old
  filling_none = record { done = []; going = going_none at (length old) s; places = refl }

  module _ {i pos : ℕ} {items : List A} (g : Filling i pos items) where
    abbrev pub filling_next : i < length old → (r : Found A) → at i (drop pos s) ≡ Some r → r.size ≤ length (drop pos s) → Filling (i + 1) (pos + r.size) (set items i r.value)
    filling_next h r e fits = record {
      done = g.done ++ r.value ∷ [];
      going = going_next at (length old) s g.going h r e fits;
      places = rw (g.places, drop-cons old i r.value h, sym g.going.many, set-append_seam, add-one) (sym (append_snoc g.done r.value (drop (suc (length g.done)) old)));
    }

    whole : (g.done ≡ (rows_from at (length old) 0 s).values) × (pos ≡ (rows_from at (length old) 0 s).size)
        → Filled (rows_from at (length old) 0 s) old items (record { value = i; size = pos })
    whole e = record { count = sym g.going.many ∙ ap length e.0; size = e.1; places = rw (← e.0, g.going.many) g.places }

    pub filling_end : i < length old → at i (drop pos s) ≡ None → Filled (rows_from at (length old) 0 s) old items (record { value = i; size = pos })
    filling_end h none = whole (going_end at (length old) s g.going h none)

    pub filling_full : length old ≤ i → Filled (rows_from at (length old) 0 s) old items (record { value = i; size = pos })
    filling_full h = whole (going_full at (length old) s g.going h)

-- places that were all z
module _ {A : Type 0} (at : ℕ → List ℕ → Option (Found A)) (n : ℕ) (z : A) (s : List ℕ) where
  pub record Padded (items : List A) (r : Found ℕ) : Type 0 where
    pub count : r.value ≡ length (rows_from at n 0 s).values
    pub array : items ≡ pad n z (rows_from at n 0 s).values
    pub size : r.size ≡ (rows_from at n 0 s).size

  pub filled-padded : {old items : List A} {r : Found ℕ} → old ≡ replicate n z → Filled (rows_from at (length old) 0 s) old items r → Padded items r
  filled-padded {old} {items} {r} e f =
      let many : length old ≡ n = ap length e ∙ length-replicate n z in
      let rs = rows_from at n 0 s in
      let there : Filled rs (replicate n z) items r = rw (many, e) at f in
      record { count = there.count; size = there.size; array = there.places ∙ pad_front n (length rs.values) z rs.values rs.values refl refl }

-- ---- the objects' places and their words

-- what is not filled is as it was
pad_more : {A : Type 0} (n : ℕ) (z : A) (xs : List A) → length xs < n → pad n z xs ≡ pad n z (xs ++ z ∷ [])
pad_more n z xs h =
    let none : get_or (pad n z xs) (length xs) z ≡ z = get_d_pad n z xs (length xs) ∙ get_or-eq_default xs z {n = length xs} (omega arith) in
    sym (set-get_or (pad n z xs) (length xs) z) ∙ ap (set (pad n z xs) (length xs)) none ∙ pad-set n z xs z h

map-replicate : {A B : Type 0} (f : A → B) (n : ℕ) (x : A) → map f (replicate n x) ≡ replicate n (f x)
map-replicate f zero x = refl
map-replicate f (suc n) x = ap (λ r. f x ∷ r) (map-replicate f n x)

abbrev places_said : List (Option Object) → List Object
places_said ss = map (λ s. unwrap_or s free) ss

abbrev words_said : List (Option Object) → List ℕ
words_said ss = words_of word_bits word_count (pad limits.places false (map is_some ss))

module _ (s : List ℕ) where
  pub record Places (p pos : ℕ) (objects : Objects) : Type 0 where
    pub done : List (Option Object)
    pub going : Going place_at limits.places s p pos done
    pub items : objects.items ≡ pad limits.places free (places_said done)
    pub words : objects.occupancy ≡ words_said done

  pub places-none : (objects : Objects) → objects ≡ lay_places (replicate limits.places free) → Places 0 0 objects
  places-none objects e = record {
    done = [];
    going = going_none place_at limits.places s;
    items = ap (λ (o : Objects). o.items) e ∙ sym (pad-none limits.places free);
    words = ap (λ (o : Objects). o.occupancy) e ∙ ap (words_of word_bits word_count) (map-replicate occupied limits.places free ∙ sym (pad-none limits.places false));
  }

  module _ {p pos : ℕ} {objects : Objects} (g : Places p pos objects) (h : p < limits.places) where
    few : {B : Type 0} (f : Option Object → B) → length (map f g.done) ≡ p
    few f = length-map g.done f ∙ g.going.many

    -- the place is free
    pub places-free : spot_at p (drop pos s) ≡ None → Places (p + 1) pos objects
    places-free none =
        let room : 0 ≤ length (drop pos s) = omega arith in
        let next = going_next place_at limits.places s g.going h (record { value = None; size = 0 }) (λ i. Some (record { value = none i; size = spot_size (is_some (none i)) })) room in
        let end : pos + 0 ≡ pos = omega arith in
        record {
          done = g.done ++ None ∷ [];
          going = rw end at next;
          items = g.items ∙ pad_more limits.places free (places_said g.done) (omega (arith, few (λ s. unwrap_or s free), h)) ∙ ap (pad limits.places free) (sym (map-append (λ s. unwrap_or s free) g.done (None ∷ [])));
          words = g.words ∙ ap (words_of word_bits word_count) (pad_more limits.places false (map is_some g.done) (omega (arith, few is_some, h)) ∙ ap (pad limits.places false) (sym (map-append is_some g.done (None ∷ []))));
        }

    -- an object stands there
    pub places-taken : (o : Object) → spot_at p (drop pos s) ≡ Some o → object_size ≤ length (drop pos s)
        → Places (p + 1) (pos + object_size) (record { occupancy = with_flag word_bits true p objects.occupancy; items = set objects.items p o })
    places-taken o e fits =
        let ts = map is_some g.done in
        let long : length (pad limits.places false ts) ≡ limits.places = length-pad limits.places false ts (omega (arith, few is_some, h)) in
        record {
          done = g.done ++ Some o ∷ [];
          going = going_next place_at limits.places s g.going h (record { value = Some o; size = object_size }) (λ i. Some (record { value = e i; size = spot_size (is_some (e i)) })) fits;
          items = rw (g.items, ← few (λ s. unwrap_or s free)) (pad-set limits.places free (places_said g.done) o (omega (arith, few (λ s. unwrap_or s free), h))) ∙ ap (pad limits.places free) (sym (map-append (λ s. unwrap_or s free) g.done (Some o ∷ [])));
          words = ap (with_flag word_bits true p) g.words ∙ (occupancy-by_words word_bits word_count (pad limits.places false ts) (omega arith) long).change true p (omega (arith, long, h))
              ∙ ap (words_of word_bits word_count) (ap (λ (j : ℕ). set (pad limits.places false ts) j true) (sym (few is_some)) ∙ pad-set limits.places false ts true (omega (arith, few is_some, h)) ∙ ap (pad limits.places false) (sym (map-append is_some g.done (Some o ∷ []))));
        }

  module _ {p pos : ℕ} {objects : Objects} (g : Places p pos objects) (h : limits.places ≤ p) where
    abbrev vs : List (Option Object)
    vs = (places_of s).values

    all : (g.done ≡ vs) × (pos ≡ (places_of s).size)
    all = going_full place_at limits.places s g.going h

    long : length vs ≡ limits.places
    long = rows_all place_at (λ q bs. refl) limits.places 0 s

    pub places_objects : objects ≡ objects_of vs
    places_objects =
        let items-all : objects.items ≡ places_said vs =
        g.items ∙ ap (λ (l : List (Option Object)). pad limits.places free (places_said l)) all.0 ∙ pad-full limits.places free (places_said vs) (length-map vs (λ s. unwrap_or s free) ∙ long) in
        let words-all : objects.occupancy ≡ words_of word_bits word_count (map is_some vs) =
        g.words ∙ ap words_said all.0 ∙ ap (words_of word_bits word_count) (pad-full limits.places false (map is_some vs) (length-map vs is_some ∙ long)) in
        λ i. record { occupancy = words-all i; items = items-all i }

    pub places_size : pos ≡ (places_of s).size
    places_size = all.1

-- ---- the places of the manifests and of the holds

pub filled_manifests : (s : List ℕ) {old items : List KeptManifest} {r : Found ℕ} → old ≡ replicate (manifest_limit limits) no_manifest
    → Filled (rows_from (λ p bs. found_manifest (manifest_at p bs)) (length old) 0 s) old items r
    → (◌≡◌ {A = Manifests} (record { count = r.value; items = items }) (lay_manifests (kept_of s).values)) × (r.size ≡ (kept_of s).size)
filled_manifests s {old} {items} {r} e filled =
    let n = manifest_limit limits in
    let f = filled-padded (λ p bs. found_manifest (manifest_at p bs)) n no_manifest s e filled in
    let rows = rows_from-as lay_manifest manifest_at n 0 s in
    let count : r.value ≡ length (kept_of s).values = f.count ∙ ap (λ rs. length rs.values) rows ∙ length-map (kept_of s).values lay_manifest in
    let places : items ≡ pad n no_manifest (map lay_manifest (kept_of s).values) = f.array ∙ ap (λ rs. pad n no_manifest rs.values) rows in
    ((λ i. record { count = count i; items = places i }), f.size ∙ ap (λ rs. rs.size) rows)

pub filled_holds : (s : List ℕ) {old items : List Hold} {r : Found ℕ} → old ≡ replicate limits.holds no_hold → Filled (rows_from hold_at (length old) 0 s) old items r
    → (◌≡◌ {A = Holds} (record { count = r.value; items = items }) (lay_holds (holds_of s).values)) × (r.size ≡ (holds_of s).size)
filled_holds s e filled =
    let f = filled-padded hold_at limits.holds no_hold s e filled in
    ((λ i. record { count = f.count i; items = f.array i }), f.size)
