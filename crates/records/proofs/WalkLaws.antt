-- Laws of inner fields, each over the list of fields: how long they are, that a walk finds what was written, and that what a walk finds is written as the bytes.
-- Assumes nothing.
use Rattle.std.proofs.Common.{Option, Some, None}
use mathlib.Core.Path.{◌≡◌, refl, sym, ap, ap₂, ◌∙◌}
use mathlib.Core.Bool.{Bool, true, false, not, cond, ◌&&◌, ◌||◌}
use mathlib.Core.List.{List, [], ◌∷◌, ◌++◌, map, append_assoc}
use Prim.Native.Nat.{ℕ, suc, ◌+◌, ◌*◌, ◌^◌, ◌/◌, ◌%◌, ◌≤◌, ◌<◌}
use native.Mathlib.Nat.{pow-le-pow_right, lt_of_lt_of_le}
use native.Mathlib.Omega.{arith}
use lib.Dec.{ltb, eqb, lit<}
use lib.ListN.{length, get_or, take, drop, length-append, length-drop, take-append-drop}
use lib.Seq.{take_at, drop_at, length-take-le}
use borrow.Author.Tests.{leb-true, eq-eqb, eqb-true, ltb-true, lt-ltb, not-true}
use Rattle.fields.specs.Bytes.{be, value_of, kept64, words, words_of}
use Rattle.fields.specs.Fields.{field, claimed, head_of}
use Rattle.fields.proofs.Bytes.{Below, below-drop, below-take, length-be, length-words, value-be-fits, value-below, kept, kept-value, be-value, words_of-words, words-words_of, words_of-below}
use Rattle.fields.proofs.Fields.{length-field, claimed-field, head-field, head_read, field-head}
use Rattle.rules.specs.Lists.{all, any}
use Rattle.rules.specs.Limits.{limits}
use Rattle.rules.proofs.Lists.{and_left, and_right, and_both, or_left, or_right, true-false}
use Rattle.records.specs.declared.Field.{Field}
use Rattle.records.specs.Format.{inner, is_narrow, content, bytes_of}
use Rattle.records.specs.Walk.{Walked, Found, Broken, number_then, list_then, head_then, field_then, walk}
use Rattle.records.specs.RoundTrip.{fits}
use Rattle.records.proofs.Pieces.{content-short}

-- by whether a test passes
pub split : {A : Type 0} (b : Bool) → (b ≡ true → A) → (b ≡ false → A) → A
split true f g = f refl
split false f g = g refl

-- ---- tags and widths

abbrev pub is_list : Field → Bool
is_list f = eqb f.width 0

-- the field with the number 0
abbrev pub blank : Field → Field
blank f = inner f.tag f.width 0

abbrev pub number : Field → ℕ
number f = f.number

-- the list that fields hold: none, where none of them is the list
abbrev pub list_in : List Field → List ℕ → List ℕ
list_in fs l = cond (any is_list fs) l []

-- a walk looks at tags and widths alone
head-blank : (f : Field) (bs : List ℕ) (h : Option ℕ) (w : Walked) → head_then (blank f) bs h w ≡ head_then f bs h w
head-blank f bs None w = refl
head-blank f bs (Some n) w = refl

pub walk-blank : (fs : List Field) (bs : List ℕ) → walk (map blank fs) bs ≡ walk fs bs
unfolding walk
walk-blank [] [] = refl
walk-blank [] (b ∷ bs) = refl
walk-blank (f ∷ fs) bs = rw (walk-blank fs (drop (3 + claimed bs) bs)) (head-blank f bs (head_of f.tag bs) (walk fs (drop (3 + claimed bs) bs)))

-- ---- how long fields are

-- the length of a field's value, beside a list of so many numbers
abbrev pub size_of : ℕ → Field → ℕ
size_of n f = cond (is_list f) (8 * n) f.width

-- and of fields, one behind the other
unfoldable pub total : ℕ → List Field → ℕ
total n [] = 0
total n (f ∷ fs) = 3 + size_of n f + total n fs

pub length-content : (l : List ℕ) (f : Field) → length (content l f) ≡ size_of (length l) f
length-content l f = step (is_list f)
  where
    step : (b : Bool) → length (cond b (words l) (be f.width f.number)) ≡ cond b (8 * length l) f.width
    step true = length-words l
    step false = length-be f.width f.number

pub length-bytes : (fs : List Field) (l : List ℕ) → length (bytes_of fs l) ≡ total (length l) fs
unfolding bytes_of total
length-bytes [] l = refl
length-bytes (f ∷ fs) l = rw (length-append (field f.tag (content l f)) (bytes_of fs l), length-field, length-content, length-bytes fs l)

pub total_mono : (fs : List Field) (m n : ℕ) → m ≤ n → total m fs ≤ total n fs
unfolding total
total_mono [] m n h = omega arith
total_mono (f ∷ fs) m n h = step (is_list f) (total_mono fs m n h)
  where
    step : (b : Bool) → total m fs ≤ total n fs → 3 + cond b (8 * m) f.width + total m fs ≤ 3 + cond b (8 * n) f.width + total n fs
    step true k = omega arith
    step false k = omega arith

-- ---- a walk finds what was written

pub behind-head : (tag : ℕ) (v rest : List ℕ) → drop 3 (field tag v ++ rest) ≡ v ++ rest
behind-head tag v rest = rw (append_assoc (be 2 (length v)) v rest) (drop_at (be 2 (length v)) (v ++ rest) 2 (length-be 2 (length v)))

-- a number of no bytes, as the list's, is 0
pub list-zero : {n : ℕ} → n < 1 → n ≡ 0
list-zero h = omega arith

-- a field that was written is read, before what was found behind it
module _ (f : Field) (l rest ns k : List ℕ) (narrow : is_narrow f ≡ true) (fit : fits f ≡ true) (below : Below (2 ^ 64) l) where
  list_read : is_list f ≡ true → field_then f (field f.tag (words l) ++ rest) (length (words l)) (Found ns k) ≡ Found (f.number ∷ ns) l
  list_read e =
      let nought : f.number ≡ 0 = list-zero (rw (eqb-true f.width 0 e) at (ltb-true f.number (256 ^ f.width) fit)) in
      let whole : 8 * length l % 8 ≡ 0 = omega arith in
      let many : 8 * length l / 8 ≡ length l = omega arith in
      rw (e, behind-head f.tag (words l) rest, length-words, eq-eqb (8 * length l % 8) 0 whole, many, words_of-words l rest below, nought)

  number_read : is_list f ≡ false
      → field_then f (field f.tag (be f.width f.number) ++ rest) (length (be f.width f.number)) (Found ns k) ≡ Found (f.number ∷ ns) k
  number_read e =
      let w = f.width in
      let n = f.number in
      let fitting = ltb-true n (256 ^ w) fit in
      let less : n < 2 ^ 64 = lt_of_lt_of_le fitting (pow-le-pow_right (lit< tt) (leb-true w 8 narrow)) in
      rw (e, behind-head f.tag (be w n) rest, length-be, eq-eqb w w refl, take_at (be w n) rest w (length-be w n), value-be-fits w n fitting, kept n less)

  field-read : field_then f (field f.tag (content l f) ++ rest) (length (content l f)) (Found ns k) ≡ Found (f.number ∷ ns) (cond (is_list f) l k)
  field-read = split (is_list f) (λ e. rw e (rw e at (list_read e))) (λ e. rw e (rw e at (number_read e)))

pub walk-written : (fs : List Field) (l : List ℕ) → Below (2 ^ 64) l → length l ≤ limits.places → all is_narrow fs ≡ true → all fits fs ≡ true
    → walk fs (bytes_of fs l) ≡ Found (map number fs) (list_in fs l)
unfolding walk bytes_of all any
walk-written [] l below few narrow fit = refl
walk-written (f ∷ fs) l below few narrow fit =
    let v = content l f in
    let rest = bytes_of fs l in
    let slim = and_left (is_narrow f) (all is_narrow fs) narrow in
    let first = and_left (fits f) (all fits fs) fit in
    let short : length v < 65536 = omega (arith, content-short l f slim few) in
    let next = walk-written fs l below few (and_right (is_narrow f) (all is_narrow fs) narrow) (and_right (fits f) (all fits fs) fit) in
    rw (head-field f.tag v rest short, claimed-field f.tag v rest short, drop_at (field f.tag v) rest (3 + length v) (length-field f.tag v), next)
    (field-read f l rest (map number fs) (list_in fs l) slim first below ∙ ap (Found (map number (f ∷ fs))) (or_list (is_list f) (any is_list fs)))
  where
    or_list : (b c : Bool) → cond b l (cond c l []) ≡ cond (b || c) l []
    or_list true c = refl
    or_list false c = refl

-- ---- what a walk finds is written as the bytes

-- fields with these numbers, from the i-th on
unfoldable pub filled_from : ℕ → List Field → List ℕ → List Field
filled_from i [] ns = []
filled_from i (f ∷ fs) ns = inner f.tag f.width (get_or ns i 0) ∷ filled_from (suc i) fs ns

abbrev pub filled : List Field → List ℕ → List Field
filled fs ns = filled_from 0 fs ns

filled-behind : (i : ℕ) (fs : List Field) (n : ℕ) (ns : List ℕ) → filled_from (suc i) fs (n ∷ ns) ≡ filled_from i fs ns
unfolding filled_from
filled-behind i [] n ns = refl
filled-behind i (f ∷ fs) n ns = ap (λ (gs : List Field). inner f.tag f.width (get_or ns i 0) ∷ gs) (filled-behind (suc i) fs n ns)

-- at most one of them is the list
unfoldable pub single : List Field → Bool
single [] = true
single (f ∷ fs) = single fs && not (is_list f && any is_list fs)

-- what a walk found in bytes: the fields with these numbers are written as the bytes, beside the list found or, where none of them is the list, any other
pub record Undone (fs : List Field) (bs ns l : List ℕ) : Type 0 where
  pub bytes : (m : List ℕ) → (any is_list fs ≡ true → m ≡ l) → bytes_of (filled fs ns) m ≡ bs
  pub fit : all fits (filled fs ns) ≡ true
  pub words : Below (2 ^ 64) l

-- a field at the front that was read is written as the front, before what was found behind it
module _ (f : Field) (fs : List Field) (bs ns k : List ℕ) (n : ℕ) (below : Below 256 bs) (head : head_of f.tag bs ≡ Some n)
    (behind : Undone fs (drop (3 + claimed bs) bs) ns k) where
  value : List ℕ
  value = take n (drop 3 bs)

  room : 3 + n ≤ length bs
  room = (head_read f.tag n bs head).2

  seam : field f.tag value ++ drop (3 + claimed bs) bs ≡ bs
  unfolding value
  seam =
      ap₂ ◌++◌ (sym (field-head f.tag n bs below head)) (ap (λ (k : ℕ). drop (3 + k) bs) (head_read f.tag n bs head).1) ∙ take-append-drop (3 + n) bs

  list_back : is_list f ≡ true → n % 8 ≡ 0 → any is_list fs ≡ false → Undone (f ∷ fs) bs (0 ∷ ns) (words_of (n / 8) (drop 3 bs))
  unfolding bytes_of all any filled_from value
  list_back e whole alone =
      let many : 8 * (n / 8) ≡ n = omega arith in
      let said : words (words_of (n / 8) (drop 3 bs)) ≡ value =
      rw many at (words-words_of (n / 8) (drop 3 bs) (below-drop 256 3 bs below) (omega (arith, room, length-drop 3 bs)))
      in
      record {
        bytes = λ m same. rw (e, filled-behind 0 fs 0 ns, behind.bytes m (λ t. true-false (any is_list fs) t alone), same (or_left (is_list f) (any is_list fs) e), said) seam;
        fit = rw (filled-behind 0 fs 0 ns, eqb-true f.width 0 e) behind.fit;
        words = words_of-below (n / 8) (drop 3 bs);
      }

  number-back : is_list f ≡ false → n ≡ f.width → is_narrow f ≡ true → Undone (f ∷ fs) bs (kept64 (value_of (take n (drop 3 bs))) ∷ ns) k
  unfolding bytes_of all any filled_from value
  number-back e width narrow =
      let long : length value ≡ f.width = length-take-le n (drop 3 bs) (omega (arith, room, length-drop 3 bs)) ∙ width in
      let under = below-take 256 n (drop 3 bs) (below-drop 256 3 bs below) in
      let whole = kept-value value under (rw long (leb-true f.width 8 narrow)) in
      let said : be f.width (value_of value) ≡ value = rw long at (be-value value under) in
      let fitting : ltb (value_of value) (256 ^ f.width) ≡ true = lt-ltb _ _ (rw long at (value-below value under)) in
      record {
        bytes = λ m same. rw (e, filled-behind 0 fs (kept64 (value_of value)) ns, behind.bytes m (λ t. same (or_right (is_list f) (any is_list fs) t)), whole, said) seam;
        fit = rw (filled-behind 0 fs (kept64 (value_of value)) ns, whole) (and_both _ _ fitting behind.fit);
        words = behind.words;
      }

abbrev pub UndoneBy : List Field → List ℕ → Walked → Type 0
UndoneBy fs bs Broken = Unit {0}
UndoneBy fs bs (Found ns l) = Undone fs bs ns l

pub walk_undone : (fs : List Field) (bs : List ℕ) → Below 256 bs → all is_narrow fs ≡ true → single fs ≡ true → UndoneBy fs bs (walk fs bs)
unfolding walk bytes_of all any filled_from single
walk_undone [] [] below narrow one = record { bytes = λ m same. refl; fit = refl; words = λ i. lit< tt }
walk_undone [] (b ∷ bs) below narrow one = tt
walk_undone (f ∷ fs) bs below narrow one =
    let behind = walk_undone fs rest (below-drop 256 (3 + claimed bs) bs below) (and_right (is_narrow f) (all is_narrow fs) narrow) (and_left (single fs) alone one) in
    read (head_of f.tag bs) refl (walk fs rest) behind
  where
    rest : List ℕ
    rest = drop (3 + claimed bs) bs

    alone : Bool
    alone = not (is_list f && any is_list fs)

    only : is_list f ≡ true → any is_list fs ≡ false
    only e = not-true (any is_list fs) (rw e at (and_right (single fs) alone one))

    choose : (n : ℕ) → head_of f.tag bs ≡ Some n → (b : Bool) → is_list f ≡ b → (c : Bool) → eqb (n % 8) 0 ≡ c → (d : Bool) → eqb n f.width ≡ d
        → (w : Walked) → UndoneBy fs rest w
        → UndoneBy (f ∷ fs) bs (cond b (cond c (list_then (words_of (n / 8) (drop 3 bs)) w) Broken) (cond d (number_then (kept64 (value_of (take n (drop 3 bs)))) w) Broken))
    choose n head true e true g d q Broken behind = tt
    choose n head true e true g d q (Found v k) behind = list_back f fs bs v k n below head behind e (eqb-true (n % 8) 0 g) (only e)
    choose n head true e false g d q w behind = tt
    choose n head false e c g true q Broken behind = tt
    choose n head false e c g true q (Found v k) behind = number-back f fs bs v k n below head behind e (eqb-true n f.width q) (and_left (is_narrow f) (all is_narrow fs) narrow)
    choose n head false e c g false q w behind = tt

    read : (t : Option ℕ) → head_of f.tag bs ≡ t → (w : Walked) → UndoneBy fs rest w → UndoneBy (f ∷ fs) bs (head_then f bs t w)
    read None head w behind = tt
    read (Some n) head w behind = choose n head (is_list f) refl (eqb (n % 8) 0) refl (eqb n f.width) refl w behind
