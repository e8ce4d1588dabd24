-- Laws of a row, over any form: its numbers from i on, its length, that a row at the front is read as it was written, and that what is read is the row
-- of what it says. Assumes nothing.
use mathlib.Core.Path.{◌≡◌, refl, sym, ap, ◌∙◌, subst}
use mathlib.Core.Bool.{Bool, true, false, cond, ◌&&◌, and-false, false≢true}
use mathlib.Core.List.{List, [], ◌∷◌, ◌++◌, append_assoc}
use Prim.Native.Nat.{ℕ, zero, suc, ◌+◌, ◌-◌, ◌*◌, ◌/◌, ◌%◌, ◌^◌, ◌≤◌, ◌<◌}
use native.Mathlib.Nat.{sub-zero, lt_of_lt_of_le, pow-le-pow_right}
use native.Mathlib.Numerals.{add-one}
use native.Mathlib.Omega.{arith}
use lib.Dec.{leb, ltb, eqb, lit<}
use lib.ListN.{length, get_or, take, drop, replicate, drop_of_length-le, length-append, length-take, length-drop}
use lib.Seq.{drop-cons, drop-drop, take_at, drop_at, take-add, length-take-le}
use borrow.Author.Tests.{le-leb, lt-leb, leb-true, eq-eqb, ne_eqb, eqb-true, ltb-true, lt-ltb}
use Rattle.std.specs.Prelude.{Option, None, Some}
use Rattle.std.specs.Option.{option_map}
use Rattle.fields.specs.Bytes.{be, value_of, kept64, words, words_of}
use Rattle.fields.specs.Fields.{field, head_of, over}
use Rattle.fields.proofs.Bytes.{Below, below-take, below-drop, length-be, value-be-fits, be-value, value-below, kept, kept-value, length-words, length-words_of, words_of-words, words_of-below, words-words_of}
use Rattle.fields.proofs.Fields.{head-other, head-field, head_read, field-head, length-field}
use Rattle.records.proofs.Pieces.{behind, over-all, length-head, length_over}
use Rattle.arrays.specs.Arrays.{pad}
use Rattle.rules.specs.Lists.{all}
use Rattle.rules.proofs.Lists.{and_left, and_right, and_both}
use Rattle.image.specs.declared.rows.Found.{Found}
use Rattle.image.specs.Rows.{Format, Cells, bare, total, numbers_of, row_of, has_form, formed_by, row_head, present, row_at}
use Rattle.image.specs.Fit.{narrow, fits}
use Rattle.image.proofs.Laying.{over_more}

-- ---- numbers in their widths

pub length-bare : (ws ns : List ℕ) → length ws ≡ length ns → length (bare ws ns) ≡ total ws
unfolding bare
length-bare [] ns e = refl
length-bare (w ∷ ws) [] e = absurd (omega (arith, e))
length-bare (w ∷ ws) (n ∷ ns) e = omega (arith, length-append (be w n) (bare ws ns), length-be w n, length-bare ws ns (omega (arith, e)))

pub total-from : (ws : List ℕ) (i : ℕ) → i < length ws → total (drop i ws) ≡ get_or ws i 0 + total (drop (i + 1) ws)
total-from ws i h = rw (add-one, drop-cons ws i 0 h)

pub numbers-from : (ws bs : List ℕ) (i : ℕ) → i < length ws
    → numbers_of (drop i ws) bs ≡ kept64 (value_of (take (get_or ws i 0) bs)) ∷ numbers_of (drop (i + 1) ws) (drop (get_or ws i 0) bs)
unfolding numbers_of
numbers-from ws bs i h = rw (add-one, drop-cons ws i 0 h)

-- the first of them, and then the others behind it
pub numbers_at_lem : (w : ℕ) (ws : List ℕ) (k : ℕ) (bs : List ℕ) → numbers_of (w ∷ ws) (drop k bs) ≡ kept64 (value_of (take w (drop k bs))) ∷ numbers_of ws (drop (k + w) bs)
unfolding numbers_of
numbers_at_lem w ws k bs = ap (λ (l : List ℕ). kept64 (value_of (take w (drop k bs))) ∷ numbers_of ws l) (drop-drop w k bs)

pub numbers_end : (ws bs : List ℕ) (i : ℕ) → length ws ≤ i → numbers_of (drop i ws) bs ≡ []
unfolding numbers_of
numbers_end ws bs i h = rw (drop_of_length-le ws h)

pub length-numbers : (ws bs : List ℕ) → length (numbers_of ws bs) ≡ length ws
unfolding numbers_of
length-numbers [] bs = refl
length-numbers (w ∷ ws) bs = ap suc (length-numbers ws (drop w bs))

pub fits-length : (ws ns : List ℕ) → fits ws ns ≡ true → length ws ≡ length ns
unfolding fits
fits-length [] [] e = refl
fits-length [] (n ∷ ns) e = absurd (false≢true e)
fits-length (w ∷ ws) [] e = absurd (false≢true e)
fits-length (w ∷ ws) (n ∷ ns) e = ap suc (fits-length ws ns (and_right (ltb n (256 ^ w)) (fits ws ns) e))

-- ---- reading undoes writing, and writing reading

pub numbers-bare : (ws ns rest : List ℕ) → narrow ws ≡ true → fits ws ns ≡ true → numbers_of ws (bare ws ns ++ rest) ≡ ns
unfolding numbers_of bare fits all
numbers-bare [] [] rest t e = refl
numbers-bare [] (n ∷ ns) rest t e = absurd (false≢true e)
numbers-bare (w ∷ ws) [] rest t e = absurd (false≢true e)
numbers-bare (w ∷ ws) (n ∷ ns) rest t e =
    let small = ltb-true n (256 ^ w) (and_left (ltb n (256 ^ w)) (fits ws ns) e) in
    let short = leb-true w 8 (and_left (leb w 8) (narrow ws) t) in
    let first : kept64 (value_of (be w n)) ≡ n = rw (value-be-fits w n small) (kept n (lt_of_lt_of_le small (pow-le-pow_right (lit< tt) {i = w} {j = 8} short))) in
    rw (append_assoc, take_at (be w n) (bare ws ns ++ rest) w (length-be w n), drop_at (be w n) (bare ws ns ++ rest) w (length-be w n), first, numbers-bare ws ns rest (and_right (leb w 8) (narrow ws) t) (and_right (ltb n (256 ^ w)) (fits ws ns) e))

pub bare-numbers : (ws bs : List ℕ) → narrow ws ≡ true → Below 256 bs → total ws ≤ length bs → bare ws (numbers_of ws bs) ≡ take (total ws) bs
unfolding numbers_of bare all
bare-numbers [] bs t h room = refl
bare-numbers (w ∷ ws) bs t h room =
    let short = leb-true w 8 (and_left (leb w 8) (narrow ws) t) in
    let long : length (take w bs) ≡ w = length-take-le w bs (omega arith) in
    let bytes = below-take 256 w bs h in
    let first : be w (value_of (take w bs)) ≡ take w bs = rw long at (be-value (take w bs) bytes) in
    rw (take-add w (total ws) bs, kept-value (take w bs) bytes (omega arith), first, bare-numbers ws (drop w bs) (and_right (leb w 8) (narrow ws) t) (below-drop 256 w bs h) (omega (arith, length-drop w bs)))

pub fits-numbers : (ws bs : List ℕ) → narrow ws ≡ true → Below 256 bs → total ws ≤ length bs → fits ws (numbers_of ws bs) ≡ true
unfolding numbers_of fits all
fits-numbers [] bs t h room = refl
fits-numbers (w ∷ ws) bs t h room =
    let short = leb-true w 8 (and_left (leb w 8) (narrow ws) t) in
    let long : length (take w bs) ≡ w = length-take-le w bs (omega arith) in
    let bytes = below-take 256 w bs h in
    let small : value_of (take w bs) < 256 ^ w = rw long at (value-below (take w bs) bytes) in
    and_both (ltb (kept64 (value_of (take w bs))) (256 ^ w)) (fits ws (numbers_of ws (drop w bs)))
    (rw (kept-value (take w bs) bytes (omega arith)) (lt-ltb (value_of (take w bs)) (256 ^ w) small))
    (fits-numbers ws (drop w bs) (and_right (leb w 8) (narrow ws) t) (below-drop 256 w bs h) (omega (arith, length-drop w bs)))

-- ---- the reader's cases

module _ (tag w most : ℕ) (bs : List ℕ) where
  pub head_bad : head_of tag bs ≡ None → row_head tag w most bs ≡ None
  unfolding row_head
  head_bad e = rw e

  module _ (n : ℕ) (held : head_of tag bs ≡ Some n) where
    head-not : has_form w most n ≡ false → row_head tag w most bs ≡ None
    unfolding row_head
    head-not e = rw held (ap (λ (b : Bool). cond b (Some n) None) e)

    pub head-short : n < w → row_head tag w most bs ≡ None
    head-short h = head-not (rw (lt-leb w n h))

    pub head_odd : ((n - w) % 8 ≡ 0 → ⊥) → row_head tag w most bs ≡ None
    head_odd h = head-not (rw (ne_eqb ((n - w) % 8) 0 h) (and-false (leb w n)))

    pub head_many : most < (n - w) / 8 → row_head tag w most bs ≡ None
    head_many h = head-not (rw (lt-leb ((n - w) / 8) most h, and-false (eqb ((n - w) % 8) 0)) (and-false (leb w n)))

    pub head-good : w ≤ n → (n - w) % 8 ≡ 0 → (n - w) / 8 ≤ most → row_head tag w most bs ≡ Some n
    unfolding row_head
    head-good h e g = rw (held, le-leb w n h, eq-eqb ((n - w) % 8) 0 e, le-leb ((n - w) / 8) most g)

  -- what a head that was found says of the bytes: its value has the form, and there is room for it
  pub record Formed (n : ℕ) : Type 0 where
    pub held : head_of tag bs ≡ Some n
    pub room : 3 + n ≤ length bs
    pub wide : w ≤ n
    pub whole : n ≡ w + 8 * ((n - w) / 8)
    pub few : (n - w) / 8 ≤ most

  pub head-formed : (n : ℕ) → row_head tag w most bs ≡ Some n → Formed n
  unfolding row_head
  head-formed n = by (head_of tag bs) refl
    where
      formed : head_of tag bs ≡ Some n → has_form w most n ≡ true → Formed n
      formed e g =
          let g1 = leb-true w n (and_left (leb w n) _ g) in
          let g2 = and_right (leb w n) (eqb ((n - w) % 8) 0 && leb ((n - w) / 8) most) g in
          let g3 = eqb-true ((n - w) % 8) 0 (and_left (eqb ((n - w) % 8) 0) (leb ((n - w) / 8) most) g2) in
          record { held = e; room = (head_read tag n bs e).2; wide = g1; whole = omega (arith, g1, g3); few = leb-true ((n - w) / 8) most (and_right (eqb ((n - w) % 8) 0) (leb ((n - w) / 8) most) g2) }

      by : (d : Option ℕ) → head_of tag bs ≡ d → formed_by w most d ≡ Some n → Formed n
      by None e z = cc
      by (Some m) e z = step (has_form w most m) refl z
        where
          step : (b : Bool) → has_form w most m ≡ b → cond b (Some m) None ≡ Some n → Formed n
          step true q z = let same : m ≡ n = cc in formed (cc) (cc)
          step false q z = cc

module _ (f : Format) (bs : List ℕ) where
  abbrev found-head : Option ℕ
  found-head = row_head f.tag (total f.widths) f.names bs

  pub row_bad : row_head f.tag (total f.widths) f.names bs ≡ None → row_at f bs ≡ None
  unfolding row_at
  row_bad e = rw e

  pub row_is : (n : ℕ) → row_head f.tag (total f.widths) f.names bs ≡ Some n → row_at f bs ≡ Some (present f bs n)
  unfolding row_at
  row_is n e = rw e

  -- what holds of every row that has the form holds of the row at the front
  row-found : (P : Found Cells → Type 0) → ((n : ℕ) → Formed f.tag (total f.widths) f.names bs n → P (present f bs n)) → (r : Found Cells) → row_at f bs ≡ Some r → P r
  unfolding row_at
  row-found P there r = by found-head refl
    where
      by : (d : Option ℕ) → found-head ≡ d → option_map (present f bs) d ≡ Some r → P r
      by None e z = cc
      by (Some n) e z = let same : present f bs n ≡ r = cc in subst P same (there n (head-formed f.tag (total f.widths) f.names bs n e))

  -- and of every row, where it holds of none
  row_any : (P : Option (Found Cells) → Type 0) → ((n : ℕ) → Formed f.tag (total f.widths) f.names bs n → P (Some (present f bs n))) → P None → P (row_at f bs)
  unfolding row_at
  row_any P there none = by found-head refl
    where
      by : (d : Option ℕ) → found-head ≡ d → P (option_map (present f bs) d)
      by None e = none
      by (Some n) e = there n (head-formed f.tag (total f.widths) f.names bs n e)

-- ---- a row

-- what a row says fits its form
pub record CellsFit (f : Format) (c : Cells) : Type 0 where
  pub narrow : narrow f.widths ≡ true
  pub numbers : fits f.widths c.numbers ≡ true
  pub names : Below (2 ^ 64) c.names
  pub few : length c.names ≤ f.names
  pub short : total f.widths + 8 * f.names < 65536

module _ (f : Format) (c : Cells) where
  abbrev content : List ℕ
  content = bare f.widths c.numbers ++ words c.names

  pub length-row : length f.widths ≡ length c.numbers → length (row_of f c) ≡ 3 + (total f.widths + 8 * length c.names)
  length-row e = omega (arith, length-field f.tag content, length-append (bare f.widths c.numbers) (words c.names), length-bare f.widths c.numbers e, length-words c.names)

  module _ (rest : List ℕ) (fit : CellsFit f c) where
    abbrev bytes : List ℕ
    bytes = row_of f c ++ rest

    many : length content ≡ total f.widths + 8 * length c.names
    many = omega (arith, length-append (bare f.widths c.numbers) (words c.names), length-bare f.widths c.numbers (fits-length f.widths c.numbers fit.numbers), length-words c.names)

    behind-head : drop 3 bytes ≡ content ++ rest
    behind-head = ap (drop 2) (append_assoc (be 2 (length content)) content rest) ∙ drop_at (be 2 (length content)) (content ++ rest) 2 (length-be 2 (length content))

    behind-numbers : drop (3 + total f.widths) bytes ≡ words c.names ++ rest
    behind-numbers =
        sym (drop-drop (total f.widths) 3 bytes) ∙ ap (drop (total f.widths)) (behind-head ∙ append_assoc (bare f.widths c.numbers) (words c.names) rest)
        ∙ drop_at (bare f.widths c.numbers) (words c.names ++ rest) (total f.widths) (length-bare f.widths c.numbers (fits-length f.widths c.numbers fit.numbers))

    count : (n : ℕ) → n ≡ total f.widths + 8 * length c.names → (n - total f.widths) / 8 ≡ length c.names
    count n e = omega arith

    said : (n : ℕ) → n ≡ total f.widths + 8 * length c.names → present f bytes n ≡ record { value = c; size = length (row_of f c) }
    said n e =
        let k = count n e in
        let long : 3 + n ≡ length (row_of f c) = omega (arith, length-row (fits-length f.widths c.numbers fit.numbers), e) in
        let numbers : numbers_of f.widths (drop 3 bytes) ≡ c.numbers =
        ap (numbers_of f.widths) (behind-head ∙ append_assoc (bare f.widths c.numbers) (words c.names) rest) ∙ numbers-bare f.widths c.numbers (words c.names ++ rest) fit.narrow fit.numbers in
        let names : words_of ((n - total f.widths) / 8) (drop (3 + total f.widths) bytes) ≡ c.names =
        ap (λ (j : ℕ). words_of j (drop (3 + total f.widths) bytes)) k ∙ ap (words_of (length c.names)) behind-numbers ∙ words_of-words c.names rest fit.names in
        λ i. record { value = record { numbers = numbers i; names = names i }; size = long i }

    pub row_there : row_at f bytes ≡ Some (record { value = c; size = length (row_of f c) })
    row_there =
        let n = length content in
        let held = head-field f.tag content rest (omega (arith, many, fit.few, fit.short)) in
        row_is f bytes n (head-good f.tag (total f.widths) f.names bytes n held (omega (arith, many)) (omega (arith, many)) (omega (arith, count n many, fit.few))) ∙ ap (λ (r : Found Cells). Some r) (said n many)

-- ---- a row in its places

drop-replicate : {A : Type 0} (k n : ℕ) (z : A) → drop k (replicate n z) ≡ replicate (n - k) z
drop-replicate zero n z = ap (λ (m : ℕ). replicate m z) (sym (sub-zero n))
drop-replicate (suc k) zero z =
    let none : 0 - suc k ≡ 0 = omega arith in
    rw none
drop-replicate (suc k) (suc n) z =
    let turn : suc n - suc k ≡ n - k = omega arith in
    rw turn (drop-replicate k n z)

-- the first k places filled, of n that were z
pub pad_front : {A : Type 0} (n k : ℕ) (z : A) (xs ys : List A) → ys ≡ xs → length xs ≡ k → ys ++ drop k (replicate n z) ≡ pad n z xs
unfolding pad
pad_front n k z xs ys e h = rw (e, drop-replicate k n z, h)

-- a row filled: the head, the numbers, and then the names
pub filled_row : (tag : ℕ) (x y out o ys zs : List ℕ) (w : ℕ) → length x ≡ w → 3 + w + length y ≡ length out → o ≡ over (tag ∷ be 2 (length out - 3)) out → ys ≡ x → zs ≡ y
    → (now : List ℕ) → now ≡ take 3 o ++ (ys ++ drop (3 + w - 3) (drop 3 o))
    → take (3 + w) now ++ (zs ++ drop (length now - (3 + w)) (drop (3 + w) now)) ≡ field tag (x ++ y)
filled_row tag x y out o ys zs w long room p q r now at =
    let head = tag ∷ be 2 (length out - 3) in
    let size : 3 + w - 3 ≡ w = omega arith in
    let first : now ≡ over (head ++ x) out = at ∙ rw (size, q, p) (behind 3 w head x out (length-head tag (length out - 3)) long (omega arith)) in
    let many : length (head ++ x) ≡ 3 + w = omega (arith, length-append head x, length-head tag (length out - 3)) in
    let same = ap length first ∙ length_over (head ++ x) out (omega (arith, many)) in
    let rest : length (take (length now - (3 + w)) (drop (3 + w) now)) ≡ length y = simp (length-take, length-drop) (omega (arith, same)) in
    let whole : length out - 3 ≡ length (x ++ y) = omega (arith, length-append x y) in
    over_more (head ++ x) y out now zs (3 + w) first (sym many) (r ∙ sym (over-all y (take (length now - (3 + w)) (drop (3 + w) now)) (sym rest)))
    ∙ over-all ((head ++ x) ++ y) out (omega (arith, length-append (head ++ x) y, many))
    ∙ append_assoc head x y ∙ ap (λ (k : ℕ). tag ∷ (be 2 k ++ (x ++ y))) whole

-- bytes that do not begin with the tag
pub row_other : (f : Format) (bs : List ℕ) → (get_or bs 0 0 ≡ f.tag → ⊥) → row_at f bs ≡ None
row_other f bs h = row_bad f bs (head_bad f.tag (total f.widths) f.names bs (head-other f.tag bs h))

-- ---- a row that was found

-- what a row that was read says of the bytes
pub record Back (f : Format) (bs : List ℕ) (r : Found Cells) : Type 0 where
  pub room : r.size ≤ length bs
  pub bytes : take r.size bs ≡ row_of f r.value
  pub fit : fits f.widths r.value.numbers ≡ true
  pub names : Below (2 ^ 64) r.value.names

pub row_back : (f : Format) (bs : List ℕ) → narrow f.widths ≡ true → Below 256 bs → (r : Found Cells) → row_at f bs ≡ Some r → Back f bs r
row_back f bs t h = row-found f bs (λ r. Back f bs r) there
  where
    there : (n : ℕ) → Formed f.tag (total f.widths) f.names bs n → Back f bs (present f bs n)
    there n g =
        let w = total f.widths in
        let k = (n - w) / 8 in
        let below = below-drop 256 3 bs h in
        let room : length (drop 3 bs) ≡ length bs - 3 = length-drop 3 bs in
        let first : bare f.widths (numbers_of f.widths (drop 3 bs)) ≡ take w (drop 3 bs) = bare-numbers f.widths (drop 3 bs) t below (omega (arith, g.room, room, g.wide)) in
        let second : words (words_of k (drop (3 + w) bs)) ≡ take (8 * k) (drop w (drop 3 bs)) =
        words-words_of k (drop (3 + w) bs) (below-drop 256 (3 + w) bs h) (omega (arith, g.room, g.whole, length-drop (3 + w) bs)) ∙ ap (take (8 * k)) (sym (drop-drop w 3 bs)) in
        record {
          room = g.room;
          fit = fits-numbers f.widths (drop 3 bs) t below (omega (arith, g.room, room, g.wide));
          names = words_of-below k (drop (3 + w) bs);
          bytes = field-head f.tag n bs h g.held ∙ ap (field f.tag) (ap (λ (j : ℕ). take j (drop 3 bs)) g.whole ∙ take-add w (8 * k) (drop 3 bs) ∙ sym (λ i. first i ++ second i));
        }

-- how many numbers and names a row that was read has, its bytes, and where its names stand
pub record Sized (f : Format) (bs : List ℕ) (r : Found Cells) : Type 0 where
  pub size : r.size ≡ 3 + (total f.widths + 8 * length r.value.names)
  pub few : length r.value.names ≤ f.names
  pub columns : length r.value.numbers ≡ length f.widths
  pub names : words_of (length r.value.names) (drop (3 + total f.widths) bs) ≡ r.value.names

pub row_sized : (f : Format) (bs : List ℕ) → (r : Found Cells) → row_at f bs ≡ Some r → Sized f bs r
row_sized f bs = row-found f bs (λ r. Sized f bs r) there
  where
    there : (n : ℕ) → Formed f.tag (total f.widths) f.names bs n → Sized f bs (present f bs n)
    there n g =
        let w = total f.widths in
        let k = length-words_of ((n - w) / 8) (drop (3 + w) bs) in
        record {
          size = omega (arith, g.whole, k);
          few = omega (arith, k, g.few);
          columns = length-numbers f.widths (drop 3 bs);
          names = ap (λ (j : ℕ). words_of j (drop (3 + w) bs)) k;
        }

-- a row without names
pub no_names : (l : List ℕ) → length l ≤ 0 → [] ≡ l
no_names [] h = refl
no_names (n ∷ l) h = absurd (omega (arith, h))
