-- Laws of a place's row: that it is there, that it is read as it was written, and written as it was read. Assumes nothing.
use mathlib.Core.Path.{◌≡◌, refl, sym, ap, ap₂, ◌∙◌, subst}
use mathlib.Core.Bool.{Bool, true, false, not, cond}
use mathlib.Core.List.Memᴰ
use mathlib.Core.List.{List, [], ◌∷◌, ◌++◌, append_assoc, map, head-eq_of_cons-eq, tail-eq_of_cons-eq}
use Prim.Native.Nat.{ℕ, suc, ◌+◌, ◌^◌, ◌≤◌, ◌<◌}
use native.Mathlib.Nat.{mod-eq_of_lt}
use native.Mathlib.Omega.{arith}
use lib.Dec.{eqb, leb, ltb, lit<}
use lib.ListN.{length, get_or, take, drop_of_length-le}
use lib.Seq.{drop-cons}
use borrow.Author.Tests.{eq-eqb, ne_eqb, eqb-true, eqb-false, leb-true, lt-ltb, ltb-true}
use Rattle.std.specs.Prelude.{Option, None, Some, is_some, unwrap_or}
use Rattle.fields.proofs.Bytes.{Below}
use Rattle.rules.specs.declared.Role.{Role}
use Rattle.rules.specs.declared.Role.TheVariants.{Writer, Compactor}
use Rattle.rules.specs.declared.Object.{Object}
use Rattle.rules.specs.Lists.{◌∈◌, conj, all}
use Rattle.rules.specs.State.{free, occupied}
use Rattle.rules.proofs.Lists.{and_left, and_right, and_both, conj-true, true-conj}
use Rattle.image.specs.declared.rows.Found.{Found}
use Rattle.image.specs.Rows.{Cells, row_of, row_at, bytes_from}
use Rattle.image.specs.Fit.{fits}
use Rattle.image.specs.Form.{spot_bytes}
use Rattle.records.specs.Format.{role_code}
use Rattle.image.specs.Format.{object_row, flag, object_cells, is_object_at, object_from, object_size}
use Rattle.image.specs.Image.{place_bytes}
use Rattle.image.specs.Reading.{object_in, spot_at, spot_size, place_at}
use Rattle.image.proofs.RowLaws.{CellsFit, row_sized, row_there, row_other, row_back, fits-length, no_names}
use Rattle.image.proofs.Walks.{Each}
use Rattle.image.proofs.Lengths.{length-object}
use Rattle.image.proofs.Things.{spot_none, spot_row, spot_cases}

-- a row that has no names has the bytes of its columns
pub object_size_lem : (bs : List ℕ) (r : Found Cells) → row_at object_row bs ≡ Some r → r.size ≡ object_size
object_size_lem bs r e =
    let s = row_sized object_row bs r e in
    omega (arith, s.size, s.few)

-- ---- an object and the numbers of its row

role-back : (r : Role) → ◌≡◌ {A = Role} (cond (eqb (role_code r) 0) Writer Compactor) r
role-back Writer = refl
role-back Compactor = refl

role_small : (r : Role) → leb (role_code r) 1 ≡ true
role_small Writer = refl
role_small Compactor = refl

flag-back : (b : Bool) → not (eqb (flag b) 0) ≡ b
flag-back true = refl
flag-back false = refl

flag_small : (b : Bool) → leb (flag b) 1 ≡ true
flag_small true = refl
flag_small false = refl

-- a number of 0 or 1 is that of a role, and of a mark
role_number_lem : (n : ℕ) → n ≤ 1 → role_code (cond (eqb n 0) Writer Compactor) ≡ n
role_number_lem n h = by (eqb n 0) refl
  where
    by : (b : Bool) → eqb n 0 ≡ b → role_code (cond b Writer Compactor) ≡ n
    by true e = sym (eqb-true n 0 e)
    by false e = omega (arith, eqb-false n 0 e)

flag-number : (n : ℕ) → n ≤ 1 → flag (not (eqb n 0)) ≡ n
flag-number n h = by (eqb n 0) refl
  where
    by : (b : Bool) → eqb n 0 ≡ b → flag (not b) ≡ n
    by true e = sym (eqb-true n 0 e)
    by false e = omega (arith, eqb-false n 0 e)

module _ (p : ℕ) (o : Object) (h : p < 256) (fit : fits object_row.widths (object_cells 0 o).numbers ≡ true) where
  pub object_fit : CellsFit object_row (object_cells p o)
  unfolding fits all
  object_fit = record {
    narrow = refl;
    numbers = and_both (ltb p (256 ^ 1)) _ (lt-ltb p (256 ^ 1) h) (and_right (ltb 0 (256 ^ 1)) _ fit);
    names = λ i. lit< tt;
    few = omega arith;
    short = lit< tt;
  }

  currency_small : o.currency < 65536
  unfolding fits
  currency_small =
      let f1 = and_right (ltb 0 (256 ^ 1)) _ fit in
      let f2 = and_right (ltb o.number (256 ^ 8)) _ f1 in
      let f3 = and_right (ltb (role_code o.role) (256 ^ 1)) _ f2 in
      let f4 = and_right (ltb o.epoch (256 ^ 8)) _ f3 in
      ltb-true o.currency (256 ^ 2) (and_left (ltb o.currency (256 ^ 2)) _ f4)

  object-back : object_from (object_cells p o).numbers ≡ o
  object-back = λ i. record {
    number = o.number;
    role = role-back o.role i;
    epoch = o.epoch;
    currency = mod-eq_of_lt {n = o.currency} {m = 65536} currency_small i;
    named = flag-back o.named i;
  }

  object_is : is_object_at p (object_cells p o).numbers ≡ true
  unfolding is_object_at
  object_is = true-conj _ (eq-eqb p p refl, (role_small o.role, (flag_small o.named, tt)))

  module _ (rest : List ℕ) where
    abbrev bytes : List ℕ
    bytes = row_of object_row (object_cells p o) ++ rest

    -- at any place its row says what it says
    read : (q : ℕ) → spot_at q bytes ≡ object_in q (object_cells p o)
    read q = spot_row q bytes _ (row_there object_row (object_cells p o) rest object_fit)

    -- its row at the front is read as the object at its place
    pub spot_there : spot_at p bytes ≡ Some o
    spot_there = read p ∙ rw object_is (ap (λ (x : Object). Some x) object-back)

    -- and as none at another place
    pub spot_elsewhere : (q : ℕ) → (p ≡ q → ⊥) → spot_at q bytes ≡ None
    unfolding is_object_at conj
    spot_elsewhere q ne = read q ∙ rw (ne_eqb p q ne)

-- ---- the places as spots

-- their bytes are those of the places, where one is taken exactly when its object is there
pub spots-bytes : (p : ℕ) (ss : List (Option Object)) → map is_some ss ≡ map occupied (map (λ s. unwrap_or s free) ss)
    → bytes_from spot_bytes p ss ≡ bytes_from place_bytes p (map (λ s. unwrap_or s free) ss)
unfolding bytes_from place_bytes
spots-bytes p [] e = refl
spots-bytes p (None ∷ ss) e = spots-bytes (suc p) ss (tail-eq_of_cons-eq e)
spots-bytes p (Some o ∷ ss) e =
    ap₂ (λ (b : Bool) (l : List ℕ). cond b (row_of object_row (object_cells p o)) [] ++ l) (head-eq_of_cons-eq e) (spots-bytes (suc p) ss (tail-eq_of_cons-eq e))

-- ---- reading what was written

-- the numbers of each object fit
abbrev pub AllFit : List (Option Object) → Type 0
AllFit ss = (o : Object) → Some o ∈ ss → fits object_row.widths (object_cells 0 o).numbers ≡ true

-- before the rows of later places there is none of this one
absent-before : (p q : ℕ) (ss : List (Option Object)) (r : List ℕ) → p < q → q + length ss ≤ 256 → AllFit ss → (get_or r 0 0 ≡ 0x64 → ⊥)
    → spot_at p (bytes_from spot_bytes q ss ++ r) ≡ None
unfolding bytes_from
absent-before p q [] r h room fit other = spot_none p r (row_other object_row r other)
absent-before p q (None ∷ ss) r h room fit other = absent-before p (suc q) ss r (omega (arith, h)) (omega (arith, room)) (λ o i. fit o (Memᴰ.tail i)) other
absent-before p q (Some o ∷ ss) r h room fit other =
    let rest = bytes_from spot_bytes (suc q) ss in
    ap (spot_at p) (append_assoc (row_of object_row (object_cells q o)) rest r)
    ∙ spot_elsewhere q o (omega (arith, room)) (fit o (Memᴰ.head refl)) (rest ++ r) p (λ z. omega (arith, z, h))

pub places-each : (p : ℕ) (ss : List (Option Object)) (r : List ℕ) → p + length ss ≤ 256 → AllFit ss → (get_or r 0 0 ≡ 0x64 → ⊥) → Each spot_bytes place_at p ss r
unfolding Each bytes_from
places-each p [] r room fit other = tt
places-each p (None ∷ ss) r room fit other =
    let none = absent-before p (suc p) ss r (omega arith) (omega (arith, room)) (λ o i. fit o (Memᴰ.tail i)) other in
    ((λ i. Some (record { value = none i; size = spot_size (is_some (none i)) })), places-each (suc p) ss r (omega (arith, room)) (λ o i. fit o (Memᴰ.tail i)) other)
places-each p (Some o ∷ ss) r room fit other =
    let there = spot_there p o (omega (arith, room)) (fit o (Memᴰ.head refl)) (bytes_from spot_bytes (suc p) ss ++ r) in
    let long : object_size ≡ length (row_of object_row (object_cells p o)) = sym (length-object p o) in (
      (λ i. Some (record { value = there i; size = spot_size (is_some (there i)) })) ∙ (λ i. Some (record { value = Some o; size = long i })),
      places-each (suc p) ss r (omega (arith, room)) (λ x i. fit x (Memᴰ.tail i)) other,
    )

-- ---- writing what was read

-- six numbers that fit, with their place, role and mark, are those of an object
six : (v : List ℕ) → length v ≡ 6 → v ≡ get_or v 0 0 ∷ get_or v 1 0 ∷ get_or v 2 0 ∷ get_or v 3 0 ∷ get_or v 4 0 ∷ get_or v 5 0 ∷ []
six v e =
    drop-cons v 0 0 (omega arith) ∙ ap (λ l. get_or v 0 0 ∷ l) (drop-cons v 1 0 (omega arith) ∙ ap (λ l. get_or v 1 0 ∷ l) (drop-cons v 2 0 (omega arith)
    ∙ ap (λ l. get_or v 2 0 ∷ l) (drop-cons v 3 0 (omega arith) ∙ ap (λ l. get_or v 3 0 ∷ l) (drop-cons v 4 0 (omega arith)
    ∙ ap (λ l. get_or v 4 0 ∷ l) (drop-cons v 5 0 (omega arith) ∙ ap (λ l. get_or v 5 0 ∷ l) (drop_of_length-le v {i = 6} (omega arith)))))))

fifth : (v : List ℕ) → fits object_row.widths v ≡ true → get_or v 4 0 < 65536
unfolding fits
fifth v fit =
    let e = rw (six v (sym (fits-length object_row.widths v fit))) at fit in
    let f1 = and_right (ltb (get_or v 0 0) (256 ^ 1)) _ e in
    let f2 = and_right (ltb (get_or v 1 0) (256 ^ 8)) _ f1 in
    let f3 = and_right (ltb (get_or v 2 0) (256 ^ 1)) _ f2 in
    let f4 = and_right (ltb (get_or v 3 0) (256 ^ 8)) _ f3 in
    ltb-true (get_or v 4 0) (256 ^ 2) (and_left (ltb (get_or v 4 0) (256 ^ 2)) _ f4)

cells-back : (p : ℕ) (v : List ℕ) → fits object_row.widths v ≡ true → is_object_at p v ≡ true → (object_cells p (object_from v)).numbers ≡ v
unfolding is_object_at
cells-back p v fit is =
    let f = conj-true _ is in
    let place = sym (eqb-true (get_or v 0 0) p f.0) in
    let role = role_number_lem (get_or v 2 0) (leb-true (get_or v 2 0) 1 f.1.0) in
    let named = flag-number (get_or v 5 0) (leb-true (get_or v 5 0) 1 f.1.1.0) in
    let currency = mod-eq_of_lt {n = get_or v 4 0} {m = 65536} (fifth v fit) in
    (λ i. place i ∷ get_or v 1 0 ∷ role i ∷ get_or v 3 0 ∷ currency i ∷ named i ∷ []) ∙ sym (six v (sym (fits-length object_row.widths v fit)))

pub spot_back : (p : ℕ) (bs : List ℕ) → Below 256 bs → (take (spot_size (is_some (spot_at p bs))) bs ≡ spot_bytes p (spot_at p bs)) × (spot_size (is_some (spot_at p bs)) ≤ length bs)
unfolding all
spot_back p bs h =
    spot_cases p bs (λ o. (take (spot_size (is_some o)) bs ≡ spot_bytes p o) × (spot_size (is_some o) ≤ length bs)) (refl, omega arith)
    (λ r e is.
    let back = row_back object_row bs refl h r e in
    let size = object_size_lem bs r e in
    let s = row_sized object_row bs r e in
    let same : row_of object_row r.value ≡ row_of object_row (object_cells p (object_from r.value.numbers)) =
    λ i. row_of object_row (record { numbers = sym (cells-back p r.value.numbers back.fit is) i; names = sym (no_names r.value.names s.few) i }) in
    (ap (λ (n : ℕ). take n bs) (sym size) ∙ back.bytes ∙ same, omega (arith, size, back.room)))

-- what was read fits
pub spot_fits : (p : ℕ) (bs : List ℕ) → Below 256 bs → (o : Object) → spot_at p bs ≡ Some o → fits object_row.widths (object_cells 0 o).numbers ≡ true
unfolding all fits
spot_fits p bs h =
    spot_cases p bs (λ s. (o : Object) → s ≡ Some o → fits object_row.widths (object_cells 0 o).numbers ≡ true) (λ o e. cc)
    (λ r e is o same.
    let back = row_back object_row bs refl h r e in
    let object : object_from r.value.numbers ≡ o = cc in
    let all_fit : fits object_row.widths (object_cells p (object_from r.value.numbers)).numbers ≡ true = ap (fits object_row.widths) (cells-back p r.value.numbers back.fit is) ∙ back.fit in
    subst (λ x. fits object_row.widths (object_cells 0 x).numbers ≡ true) object (and_both (ltb 0 (256 ^ 1)) _ refl (and_right (ltb p (256 ^ 1)) _ all_fit)))
