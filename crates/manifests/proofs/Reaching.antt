-- The loops of the reach test: what is left of a list says what the whole list says, and each list passed has its count.
-- Assumes nothing.
use mathlib.Core.Path.{◌≡◌, refl, sym, ap, ap₂, ◌∙◌}
use mathlib.Core.Bool.{Bool, true, false, cond, ◌||◌}
use mathlib.Core.List.{List, [], ◌∷◌, ◌++◌, append-nil, map}
use Prim.Native.Nat.{ℕ, zero, suc, ◌+◌, ◌-◌, ◌/◌, ◌^◌, ◌≤◌, ◌<◌}
use native.Mathlib.Nat.{le_of_suc-le-suc}
use native.Mathlib.Numerals.{add-one}
use native.Mathlib.Omega.{arith}
use borrow.Author.Tests.{eq-eqb, ne_eqb, lt-ltb, le-ltb, le-leb, leb-true, eqb-true}
use lib.Dec.{leb, ltb, eqb}
use lib.ListN.{length, take, drop, get_or, set, length-map, length-take, get_or-eq_default}
use lib.Seq.{slice, slice_empty, length-slice, length-take-le, split_at, take-nil, take-suc, take-add, take-take, drop-drop, drop_at, get_or-take, get_or-drop, get_or-set_same, set-get_or, set-set}
use Rattle.rules.specs.Limits.{limits, manifest_limit}
use Rattle.rules.specs.Lists.{any, all, has, rising_above}
use Rattle.rules.specs.State.{Manifest}
use Rattle.rules.proofs.Lists.{and_left, and_right, and_both, or_false-left, or_false_right}
use Rattle.rules.proofs.Typed.{padded-room}
use Rattle.arrays.specs.Arrays.{pad}
use Rattle.arrays.proofs.Lists.{get_d_pad, map-append, any_found, Filled}
use Rattle.manifests.specs.declared.KeptManifest.{KeptManifest}
use Rattle.manifests.specs.declared.Manifests.{Manifests}
use Rattle.manifests.specs.declared.Reach.{Reach}
use Rattle.manifests.specs.Manifests.{manifest_of, manifests_of, is_list_laid, is_laid}
use Rattle.manifests.specs.Search.{Search, over, after_read, middle, part, search}
use Rattle.manifests.specs.Reach.{reached, reads_of, reach_of, ReachByHalves, names_at, counts_at, lists_in, Searchable}
use Rattle.manifests.proofs.Places.{all-at, has_room, Long, few as kept-few, padded}
use Rattle.manifests.proofs.Searching.{search-none, search-next, search-by_halves}

-- One turn of the search, on the names from low up to high

pub search_empty : (n : ℕ) (l : List ℕ) (low high : ℕ) → low ≡ high → search n (slice low high l) ≡ over false
search_empty n l low high e = ap (λ (k : ℕ). search n (slice k high l)) e ∙ ap (search n) (slice_empty high l) ∙ search-none n

module _ (n : ℕ) (l : List ℕ) {low high : ℕ} (some : low < high) (room : high ≤ length l) where
  abbrev at : ℕ
  at = low + (high - low) / 2

  abbrev left : List ℕ
  left = slice low high l

  long : length left ≡ high - low
  long = length-slice low high l room

  read : middle left ≡ get_or l at 0
  read = ap (λ (k : ℕ). get_or left (k / 2) 0) long ∙ get_or-drop low (take high l) ((high - low) / 2) 0 ∙ get_or-take high l at 0 (omega arith)

  parts : (b : Bool) → part b left ≡ cond b (slice (at + 1) high l) (slice low at l)
  parts true =
      let past : low + suc ((high - low) / 2) ≡ at + 1 = omega arith in
      ap (λ (k : ℕ). drop (suc (k / 2)) left) long ∙ drop-drop (suc ((high - low) / 2)) low (take high l) ∙ ap (λ (k : ℕ). drop k (take high l)) past
  parts false =
      ap (λ (k : ℕ). take (k / 2) left) long
      ∙ sym (ap (drop low) (sym (take-take at high l (omega arith)) ∙ take-add low ((high - low) / 2) (take high l))
      ∙ drop_at (take low (take high l)) _ low (length-take-le low (take high l) (omega (arith, length-take-le high l room))))

  next : (b c : Bool) → eqb n (get_or l at 0) ≡ b → ltb (get_or l at 0) n ≡ c
      → search n left ≡ after_read (cond b (over true) (search n (cond c (slice (at + 1) high l) (slice low at l))))
  next b c e f =
      search-next n left (omega (arith, long))
      ∙ ap (λ (k : ℕ). after_read (cond (eqb n k) (over true) (search n (part (ltb k n) left)))) read
      ∙ ap₂ (λ (x y : Bool). after_read (cond x (over true) (search n (part y left)))) e f
      ∙ ap (λ (x : List ℕ). after_read (cond b (over true) (search n x))) (parts c)

  pub here : get_or l at 0 ≡ n → search n left ≡ after_read (over true)
  here e = next true (ltb (get_or l at 0) n) (eq-eqb _ _ (sym e)) refl

  pub up : (get_or l at 0 ≡ n → ⊥) → get_or l at 0 < n → search n left ≡ after_read (search n (slice (at + 1) high l))
  up d h = next false true (ne_eqb _ _ (λ e. d (sym e))) (lt-ltb _ _ h)

  pub down : (get_or l at 0 ≡ n → ⊥) → n ≤ get_or l at 0 → search n left ≡ after_read (search n (slice low at l))
  down d h = next false false (ne_eqb _ _ (λ e. d (sym e))) (le-ltb _ _ h)

-- The count so far, and what the rest of the list says, are what the whole list says

-- k names were read, and then this
abbrev after : ℕ → Search → Search
after k s = record { found = s.found; reads = k + s.reads }

after_read_lem : (k : ℕ) (s : Search) → after k (after_read s) ≡ after (k + 1) s
after_read_lem k s = let same : k + suc s.reads ≡ k + 1 + s.reads = omega arith in λ i. record { found = s.found; reads = same i }

-- part is the search of what is left; counts has the count so far at place i, and else what first had
pub record Searched (whole part : Search) (i : ℕ) (first counts : List ℕ) : Type 0 where
  pub says : after (get_or counts i 0) part ≡ whole
  pub elsewhere : counts ≡ set first i (get_or counts i 0)

pub searched_none : {whole : Search} (i : ℕ) (counts : List ℕ) → get_or counts i 0 ≡ 0 → Searched whole whole i counts counts
searched_none {whole} i counts z = record {
  says = let same : get_or counts i 0 + whole.reads ≡ whole.reads = omega (arith, z) in λ j. record { found = whole.found; reads = same j };
  elsewhere = sym (set-get_or counts i 0);
}

module _ {whole part : Search} {i : ℕ} {first counts : List ℕ} (s : Searched whole part i first counts) where
  pub searched_read : i < length counts → {rest : Search} → part ≡ after_read rest → Searched whole rest i first (set counts i (get_or counts i 0 + 1))
  searched_read room {rest} e =
      let one : get_or (set counts i (get_or counts i 0 + 1)) i 0 ≡ get_or counts i 0 + 1 = get_or-set_same counts i _ 0 room in
      record {
        says = ap (λ (k : ℕ). after k rest) one ∙ sym (after_read_lem (get_or counts i 0) rest) ∙ ap (after (get_or counts i 0)) (sym e) ∙ s.says;
        elsewhere = ap (λ (l : List ℕ). set l i (get_or counts i 0 + 1)) s.elsewhere ∙ set-set first i _ _ ∙ ap (set first i) (sym one);
      }

  pub searched_over : {b : Bool} → part ≡ over b → (whole.found ≡ b) × (counts ≡ set first i whole.reads)
  searched_over e =
      let all : get_or counts i 0 ≡ whole.reads = omega (arith, ap (λ (w : Search). w.reads) s.says, ap (λ (w : Search). w.reads) e) in
      (ap (λ (w : Search). w.found) (sym s.says ∙ ap (after (get_or counts i 0)) e), s.elsewhere ∙ ap (set first i) all)

-- The counts of the lists passed, none of which has the object

-- the next list has no count yet
pub filled_empty : {A : Type 0} (k : ℕ) (f : A → ℕ) (l : List A) (i : ℕ) {counts : List ℕ} → Filled k 0 f l i counts → get_or counts i 0 ≡ 0
filled_empty k f l i e =
    ap (λ (a : List ℕ). get_or a i 0) e ∙ get_d_pad k 0 (map f (take i l)) i
    ∙ get_or-eq_default (map f (take i l)) 0 (omega (arith, length-map (take i l) f, length-take i l))

module _ (n : ℕ) where
  abbrev pub finds : List ℕ → Bool
  finds l = (search n l).found

  abbrev pub counted : List ℕ → ℕ
  counted l = (search n l).reads

  reads_passed : (ls rest : List (List ℕ)) → any finds ls ≡ false → reads_of (ls ++ rest) n ≡ map counted ls ++ reads_of rest n
  unfolding any reads_of
  reads_passed [] rest e = refl
  reads_passed (l ∷ ls) rest e =
      ap (λ (b : Bool). counted l ∷ cond b [] (reads_of (ls ++ rest) n)) (or_false-left (finds l) (any finds ls) e)
      ∙ ap (λ (r : List ℕ). counted l ∷ r) (reads_passed ls rest (or_false_right (finds l) (any finds ls) e))

  -- the test's answer where no list has it, and where the one at i is the first
  pub reach-none : {found : Bool} {reads : List ℕ} (ls : List (List ℕ)) → found ≡ false → any finds ls ≡ false → reads ≡ pad (manifest_limit limits) 0 (map counted ls)
      → ◌≡◌ {A = Reach} (record { found = found; reads = reads }) (reach_of ls n)
  unfolding reached reads_of
  reach-none ls e none all = λ j. record {
    found = (e ∙ sym none) j;
    reads = (all ∙ ap (pad (manifest_limit limits) 0) (sym same)) j;
  }
    where
      same : reads_of ls n ≡ map counted ls
      same = ap (λ (l : List (List ℕ)). reads_of l n) (sym (append-nil ls)) ∙ reads_passed ls [] none ∙ append-nil (map counted ls)

  pub reach-found : {reads : List ℕ} (ls : List (List ℕ)) (i : ℕ) → i < length ls
      → any finds (take i ls) ≡ false → finds (get_or ls i []) ≡ true → reads ≡ pad (manifest_limit limits) 0 (map counted (take (i + 1) ls))
      → ◌≡◌ {A = Reach} (record { found = true; reads = reads }) (reach_of ls n)
  unfolding reached reads_of
  reach-found {reads} ls i h none here all = λ j. record {
    found = sym (any_found finds ls i [] h here) j;
    reads = (all ∙ ap (pad (manifest_limit limits) 0) (sym same)) j;
  }
    where
      l : List ℕ
      l = get_or ls i []

      rest : List (List ℕ)
      rest = drop (suc i) ls

      one : reads_of (l ∷ rest) n ≡ counted l ∷ []
      one = ap (λ (b : Bool). counted l ∷ cond b [] (reads_of rest n)) here

      same : reads_of ls n ≡ map counted (take (i + 1) ls)
      same =
          ap (λ (a : List (List ℕ)). reads_of a n) (split_at ls i [] h) ∙ reads_passed (take i ls) (l ∷ rest) none
          ∙ ap (λ (r : List ℕ). map counted (take i ls) ++ r) one ∙ sym (map-append counted (take i ls) (l ∷ []))
          ∙ ap (map counted) (sym (take-suc ls i [] h) ∙ ap (λ (k : ℕ). take k ls) (sym (add-one i)))

-- The lists in their places

pub lists_long : (names : List (List ℕ)) (counts : List ℕ) → length counts ≤ length names → length (lists_in names counts) ≡ length counts
unfolding lists_in
lists_long [] [] h = refl
lists_long [] (n ∷ counts) h = absurd (omega arith)
lists_long (a ∷ rest) [] h = refl
lists_long (a ∷ rest) (n ∷ counts) h = ap suc (lists_long rest counts (le_of_suc-le-suc h))

pub list_at_lem : (names : List (List ℕ)) (counts : List ℕ) (i : ℕ) → get_or (lists_in names counts) i [] ≡ take (get_or counts i 0) (get_or names i [])
unfolding lists_in
list_at_lem [] counts i = sym (take-nil (get_or counts i 0))
list_at_lem (a ∷ rest) [] i = refl
list_at_lem (a ∷ rest) (n ∷ counts) zero = refl
list_at_lem (a ∷ rest) (n ∷ counts) (suc i) = list_at_lem rest counts i

-- what is asked of the counts, at i
pub list_few : {names : List (List ℕ)} {counts : List ℕ} (s : Searchable names counts) (i : ℕ) → i < length counts → get_or counts i 0 ≤ limits.names
list_few {counts = counts} s i h = leb-true _ _ (all-at (λ n. leb n limits.names) counts s.lists i 0 h)

-- The lists of the kept manifests

lists_of : (k : ℕ) (ms : List KeptManifest) → lists_in (names_at ms) (take k (counts_at ms)) ≡ map (λ (m : Manifest). m.names) (map manifest_of (take k ms))
unfolding lists_in
lists_of zero [] = refl
lists_of zero (m ∷ ms) = refl
lists_of (suc k) [] = refl
lists_of (suc k) (m ∷ ms) = ap (λ (ls : List (List ℕ)). take m.count m.names ∷ ls) (lists_of k ms)

pub lists-laid : (ms : Manifests) → lists_in (names_at ms.items) (take ms.count (counts_at ms.items)) ≡ map (λ (m : Manifest). m.names) (manifests_of ms)
lists-laid ms = lists_of ms.count ms.items

-- each list fits its array, and each array is whole
counts-few : (k : ℕ) (ms : List KeptManifest) → all has_room ms ≡ true → all is_list_laid (take k ms) ≡ true → all (λ n. leb n limits.names) (take k (counts_at ms)) ≡ true
unfolding all
counts-few zero ms r e = refl
counts-few (suc k) [] r e = refl
counts-few (suc k) (m ∷ ms) r e =
    let fits = padded-room m.count m.names (and_left (is_list_laid m) _ e) in
    and_both (leb m.count limits.names) _ (le-leb m.count limits.names (omega (arith, eqb-true (length m.names) limits.names (and_left (has_room m) _ r))))
    (counts-few k ms (and_right (has_room m) _ r) (and_right (is_list_laid m) _ e))

arrays-whole : (ms : List KeptManifest) → all has_room ms ≡ true → all (λ a. eqb (length a) limits.names) (names_at ms) ≡ true
unfolding all
arrays-whole [] r = refl
arrays-whole (m ∷ ms) r = and_both (has_room m) _ (and_left (has_room m) _ r) (arrays-whole ms (and_right (has_room m) _ r))

pub searchable : (ms : Manifests) → Long ms → is_laid ms ≡ true → Searchable (names_at ms.items) (take ms.count (counts_at ms.items))
searchable ms l e =
    let counts = counts_at ms.items in
    let short = length-take ms.count counts in
    record {
      arrays = omega (arith, length-map ms.items (λ (m : KeptManifest). m.count), length-map ms.items (λ (m : KeptManifest). m.names));
      places = omega (arith, kept-few ms e);
      lists = counts-few ms.count ms.items l.names (padded ms l e);
      whole = arrays-whole ms.items l.names;
    }

-- Rising lists keep the answer, and each list's count is within its own bound

keeps : (ls : List (List ℕ)) (n : ℕ) → all (rising_above 0) ls ≡ true → reached ls n ≡ any (has n) ls
unfolding all any reached
keeps [] n e = refl
keeps (l ∷ ls) n e = ap₂ ◌||◌ (search-by_halves.keeps 0 n l (and_left (rising_above 0 l) _ e)) (keeps ls n (and_right (rising_above 0 l) _ e))

few : (ls : List (List ℕ)) (n i r : ℕ) → length (get_or ls i []) < 2 ^ r → get_or (reads_of ls n) i 0 ≤ r
unfolding reads_of
few [] n i r h = omega arith
few (l ∷ ls) n zero r h = search-by_halves.few n l r h
few (l ∷ ls) n (suc i) r h = later (search n l).found (reads_of ls n) (few ls n i r h)
  where
    later : (b : Bool) (l : List ℕ) → get_or l i 0 ≤ r → get_or (cond b [] l) i 0 ≤ r
    later true l k = omega arith
    later false l k = k

pub reach-by_halves : ReachByHalves
reach-by_halves = record { keeps = keeps; few = λ ls n i r h. rw (get_d_pad (manifest_limit limits) 0 (reads_of ls n) i) (few ls n i r h) }
