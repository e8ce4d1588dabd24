-- Laws of rows one behind the other, over what a row is: their bytes up to i, that they are read as they were written and written as they were read, and
-- what a loop that reads them knows. Assumes nothing.
use mathlib.Core.Path.{◌≡◌, refl, sym, ap, ◌∙◌, subst⁻¹}
use mathlib.Core.Logic.{◌⊎◌, inl, inr, ⊎_elim}
use mathlib.Core.Bool.{Bool, true, false≢true}
use mathlib.Core.List.Memᴰ
use mathlib.Core.List.{List, [], ◌∷◌, ◌++◌, append_assoc, append-nil, map}
use Prim.Native.Nat.{ℕ, zero, suc, ◌+◌, ◌-◌, ◌≤◌, ◌<◌}
use native.Mathlib.Nat.{add-zero, zero-add, sub-zero}
use native.Mathlib.Numerals.{add-one}
use native.Mathlib.Omega.{arith}
use lib.ListN.{length, get_or, take, drop, length-append, length-drop, take-append-drop}
use lib.Seq.{drop-drop, take-suc, drop_at, take-add, append_snoc, length-take-le, take_all}
use Rattle.fields.proofs.Bytes.{Below, below-drop}
use Rattle.rules.specs.Lists.{◌∈◌, all}
use Rattle.manifests.proofs.Places.{all-at}
use Rattle.std.specs.Prelude.{Option, None, Some, is_some}
use Rattle.std.specs.Option.{option_map}
use Rattle.image.specs.declared.rows.Found.{Found}
use Rattle.image.specs.Rows.{Rows, bytes_from, no_rows, and_then, rows_from, found_as}

module _ {A : Type 0} (f : ℕ → A → List ℕ) where
  pub bytes-append : (p : ℕ) (xs ys : List A) → bytes_from f p (xs ++ ys) ≡ bytes_from f p xs ++ bytes_from f (p + length xs) ys
  unfolding bytes_from
  bytes-append p [] ys = rw add-zero
  bytes-append p (x ∷ xs) ys =
      let turn : suc p + length xs ≡ p + suc (length xs) = omega arith in
      rw (bytes-append (suc p) xs ys, turn) (sym (append_assoc (f p x) (bytes_from f (suc p) xs) (bytes_from f (p + suc (length xs)) ys)))

  -- one row more
  module _ (xs : List A) (i : ℕ) (x : A) (h : i < length xs) (e : x ≡ get_or xs i x) where
    pub bytes_next : bytes_from f 0 (take (i + 1) xs) ≡ bytes_from f 0 (take i xs) ++ f i x
    unfolding bytes_from
    bytes_next =
        let long : 0 + length (take i xs) ≡ i = omega (arith, length-take-le i xs (omega arith)) in
        rw (add-one, take-suc xs i x h, bytes-append 0 (take i xs) (get_or xs i x ∷ []), long, append-nil, ← e)

    pub count_next : length (bytes_from f 0 (take (i + 1) xs)) ≡ length (bytes_from f 0 (take i xs)) + length (f i x)
    count_next = ap length bytes_next ∙ length-append (bytes_from f 0 (take i xs)) (f i x)

  pub bytes-some : (xs : List A) (i : ℕ) → length (bytes_from f 0 (take i xs)) ≤ length (bytes_from f 0 xs)
  bytes-some xs i =
      omega (arith, ap (λ (l : List A). length (bytes_from f 0 l)) (take-append-drop i xs), ap length (bytes-append 0 (take i xs) (drop i xs)), length-append (bytes_from f 0 (take i xs)) (bytes_from f (0 + length (take i xs)) (drop i xs)))

  pub bytes-all : (xs : List A) (i : ℕ) → length xs ≤ i → bytes_from f 0 (take i xs) ≡ bytes_from f 0 xs
  bytes-all xs i h = ap (bytes_from f 0) (take_all i xs h)

-- what a test finds of all it finds of each
pub all-here : {A : Type 0} (p : A → Bool) (xs : List A) → all p xs ≡ true → (i : ℕ) (x : A) → i < length xs → x ≡ get_or xs i x → p x ≡ true
all-here p xs all i x h e = subst⁻¹ (λ y. p y ≡ true) e (all-at p xs all i x h)

-- the rows of what is said in other words
pub bytes-map : {A B : Type 0} (f : ℕ → B → List ℕ) (g : A → B) (p : ℕ) (xs : List A) → bytes_from (λ i x. f i (g x)) p xs ≡ bytes_from f p (map g xs)
unfolding bytes_from
bytes-map f g p [] = refl
bytes-map f g p (x ∷ xs) = ap (λ (l : List ℕ). f p (g x) ++ l) (bytes-map f g (suc p) xs)

-- ---- rows that are read as they were written

module _ {A : Type 0} (f : ℕ → A → List ℕ) (at : ℕ → List ℕ → Option (Found A)) where
  -- each is found, as it is, before those behind it
  unfoldable pub Each : ℕ → List A → List ℕ → Type 0
  Each p [] rest = Unit {0}
  Each p (x ∷ xs) rest = (at p (f p x ++ (bytes_from f (suc p) xs ++ rest)) ≡ Some (record { value = x; size = length (f p x) })) × Each (suc p) xs rest

  -- nothing more is taken: there are as many as there may be, or what comes next is no row
  pub rows_there : (k p : ℕ) (xs : List A) (rest : List ℕ) → length xs ≤ k → Each p xs rest → (length xs ≡ k) ⊎ ((q : ℕ) → at q rest ≡ None)
      → rows_from at k p (bytes_from f p xs ++ rest) ≡ record { values = xs; size = length (bytes_from f p xs) }
  unfolding rows_from bytes_from Each
  rows_there zero p [] rest h each stop = refl
  rows_there zero p (x ∷ xs) rest h each stop = absurd (omega (arith, h))
  rows_there (suc k) p [] rest h each (inl e) = absurd (omega (arith, e))
  rows_there (suc k) p [] rest h each (inr none) = rw (none p)
  rows_there (suc k) p (x ∷ xs) rest h each stop =
      let bytes = bytes_from f (suc p) xs in
      let next = rows_there k (suc p) xs rest (omega (arith, h)) each.1 (fewer stop) in
      let front : at p ((f p x ++ bytes) ++ rest) ≡ Some (record { value = x; size = length (f p x) }) = ap (at p) (append_assoc (f p x) bytes rest) ∙ each.0 in
      let behind : drop (length (f p x)) ((f p x ++ bytes) ++ rest) ≡ bytes ++ rest =
      ap (drop (length (f p x))) (append_assoc (f p x) bytes rest) ∙ drop_at (f p x) (bytes ++ rest) (length (f p x)) refl in
      rw (front, behind, next) (λ i. record { values = x ∷ xs; size = sym (length-append (f p x) bytes) i })
    where
      fewer : (suc (length xs) ≡ suc k) ⊎ ((q : ℕ) → at q rest ≡ None) → (length xs ≡ k) ⊎ ((q : ℕ) → at q rest ≡ None)
      fewer (inl e) = inl (omega (arith, e))
      fewer (inr none) = inr none

  -- ---- and written as they were read

  module _ (back : (p : ℕ) (bs : List ℕ) → Below 256 bs → (r : Found A) → at p bs ≡ Some r → (take r.size bs ≡ f p r.value) × (r.size ≤ length bs)) where
    pub rows_back : (k p : ℕ) (bs : List ℕ) → Below 256 bs
        → (take (rows_from at k p bs).size bs ≡ bytes_from f p (rows_from at k p bs).values) × ((rows_from at k p bs).size ≤ length bs)
    unfolding rows_from bytes_from
    rows_back zero p bs h = (refl, omega arith)
    rows_back (suc k) p bs h = step (at p bs) refl (λ n. rows_back k (suc p) (drop n bs) (below-drop 256 n bs h))
      where
        behind : ℕ → Rows A
        behind n = rows_from at k (suc p) (drop n bs)

        step : (o : Option (Found A)) → at p bs ≡ o
            → ((n : ℕ) → (take (behind n).size (drop n bs) ≡ bytes_from f (suc p) (behind n).values) × ((behind n).size ≤ length (drop n bs)))
            → (take (and_then o behind).size bs ≡ bytes_from f p (and_then o behind).values) × ((and_then o behind).size ≤ length bs)
        step None e next = (refl, omega arith)
        step (Some r) e next =
            let b = back p bs h r e in
            let n = next r.size in
            (take-add r.size (behind r.size).size bs ∙ (λ i. b.0 i ++ n.0 i), omega (arith, b.1, n.1, length-drop r.size bs))

-- ---- how many are read, and that they are there

module _ {A : Type 0} (at : ℕ → List ℕ → Option (Found A)) where
  -- what holds where there is none, and with one more where it holds of those behind it, holds of all
  module _ (P : ℕ → ℕ → List ℕ → Rows A → Type 0) (none : (k p : ℕ) (bs : List ℕ) → P k p bs no_rows)
      (more : (k p : ℕ) (bs : List ℕ) (r : Found A) → at p bs ≡ Some r → (rest : Rows A) → P k (suc p) (drop r.size bs) rest → P (suc k) p bs (record { values = r.value ∷ rest.values; size = r.size + rest.size })) where
    by_rows : (k p : ℕ) (bs : List ℕ) → P k p bs (rows_from at k p bs)
    unfolding rows_from
    by_rows zero p bs = none zero p bs
    by_rows (suc k) p bs = step (at p bs) refl (λ n. by_rows k (suc p) (drop n bs))
      where
        behind : ℕ → Rows A
        behind n = rows_from at k (suc p) (drop n bs)

        step : (o : Option (Found A)) → at p bs ≡ o → ((n : ℕ) → P k (suc p) (drop n bs) (behind n)) → P (suc k) p bs (and_then o behind)
        step None e next = none (suc k) p bs
        step (Some r) e next = more k p bs r e (behind r.size) (next r.size)

  pub rows_few : (k p : ℕ) (bs : List ℕ) → length (rows_from at k p bs).values ≤ k
  rows_few = by_rows (λ k p bs rs. length rs.values ≤ k) (λ k p bs. omega arith) (λ k p bs r e rest h. omega arith)

  -- what holds of each row that is found holds of all
  pub rows-each : (Q : A → Type 0) → ((p : ℕ) (bs : List ℕ) → Below 256 bs → (r : Found A) → at p bs ≡ Some r → Q r.value)
      → (k p : ℕ) (bs : List ℕ) → Below 256 bs → (x : A) → x ∈ (rows_from at k p bs).values → Q x
  rows-each Q each =
      by_rows (λ k p bs rs. Below 256 bs → (x : A) → x ∈ rs.values → Q x) (λ k p bs h x i. absurd (Memᴰ.not-nil i))
      (λ k p bs r e rest next h x i. ⊎_elim (λ z. subst⁻¹ Q z (each p bs h r e)) (next (below-drop 256 r.size bs h) x) (Memᴰ.cases_cons i))

  pub rows_all : ((p : ℕ) (bs : List ℕ) → is_some (at p bs) ≡ true) → (k p : ℕ) (bs : List ℕ) → length (rows_from at k p bs).values ≡ k
  unfolding rows_from
  rows_all all zero p bs = refl
  rows_all all (suc k) p bs = step (at p bs) (all p bs) (λ n. rows_all all k (suc p) (drop n bs))
    where
      step : (o : Option (Found A)) → is_some o ≡ true → ((n : ℕ) → length (rows_from at k (suc p) (drop n bs)).values ≡ k)
          → length (and_then o (λ n. rows_from at k (suc p) (drop n bs))).values ≡ suc k
      step None e next = absurd (false≢true e)
      step (Some r) e next = ap suc (next r.size)

  -- ---- a loop that reads: what was read and what is left say what all says

  module _ (k : ℕ) (s : List ℕ) where
    pub record Going (i pos : ℕ) (done : List A) : Type 0 where
      pub many : length done ≡ i
      pub room : pos ≤ length s
      pub values : done ++ (rows_from at (k - i) i (drop pos s)).values ≡ (rows_from at k 0 s).values
      pub size : pos + (rows_from at (k - i) i (drop pos s)).size ≡ (rows_from at k 0 s).size

    pub going_none : Going 0 0 []
    going_none = record {
      many = refl;
      room = omega arith;
      values = ap (λ (j : ℕ). (rows_from at j 0 s).values) (sub-zero k);
      size = zero-add _ ∙ ap (λ (j : ℕ). (rows_from at j 0 s).size) (sub-zero k);
    }

    module _ {i pos : ℕ} {done : List A} (g : Going i pos done) where
      -- the rows from here on
      here : i < k → rows_from at (k - i) i (drop pos s) ≡ and_then (at i (drop pos s)) (λ n. rows_from at (k - (i + 1)) (i + 1) (drop n (drop pos s)))
      unfolding rows_from
      here h =
          let turn : k - i ≡ suc (k - (i + 1)) = omega arith in
          rw (turn, add-one)

      pub going_next : i < k → (r : Found A) → at i (drop pos s) ≡ Some r → r.size ≤ length (drop pos s) → Going (i + 1) (pos + r.size) (done ++ r.value ∷ [])
      going_next h r e fits =
          let rest = rows_from at (k - (i + 1)) (i + 1) (drop (pos + r.size) s) in
          let now : rows_from at (k - i) i (drop pos s) ≡ record { values = r.value ∷ rest.values; size = r.size + rest.size } = here h ∙ rw (e, drop-drop r.size pos s) in
          record {
            many = length-append done (r.value ∷ []) ∙ omega (arith, g.many);
            room = omega (arith, fits, g.room, length-drop pos s);
            values = append_snoc done r.value rest.values ∙ ap (λ (t : Rows A). done ++ t.values) (sym now) ∙ g.values;
            size = (let whole : r.size + rest.size ≡ (rows_from at (k - i) i (drop pos s)).size = ap (λ (t : Rows A). t.size) (sym now) in omega (arith, whole, g.size));
          }

      none_left_lem : rows_from at (k - i) i (drop pos s) ≡ no_rows → (done ≡ (rows_from at k 0 s).values) × (pos ≡ (rows_from at k 0 s).size)
      none_left_lem e = (
        sym (append-nil done) ∙ ap (λ (t : Rows A). done ++ t.values) (sym e) ∙ g.values,
        sym (add-zero pos) ∙ ap (λ (t : Rows A). pos + t.size) (sym e) ∙ g.size,
      )

      pub going_end : i < k → at i (drop pos s) ≡ None → (done ≡ (rows_from at k 0 s).values) × (pos ≡ (rows_from at k 0 s).size)
      going_end h e = none_left_lem (here h ∙ rw e)

      pub going_full : k ≤ i → (done ≡ (rows_from at k 0 s).values) × (pos ≡ (rows_from at k 0 s).size)
      unfolding rows_from
      going_full h = let none : k - i ≡ 0 = omega arith in none_left_lem (ap (λ (j : ℕ). rows_from at j i (drop pos s)) none)

-- ---- rows that are said in other words

module _ {A B : Type 0} (f : A → B) (at : ℕ → List ℕ → Option (Found A)) where
  abbrev pub rows_as : Rows A → Rows B
  rows_as rs = record { values = map f rs.values; size = rs.size }

  pub rows_from-as : (k p : ℕ) (bs : List ℕ) → rows_from (λ p bs. option_map (found_as f) (at p bs)) k p bs ≡ rows_as (rows_from at k p bs)
  unfolding rows_from
  rows_from-as zero p bs = refl
  rows_from-as (suc k) p bs = step (at p bs) (λ n. rows_from-as k (suc p) (drop n bs))
    where
      step : (o : Option (Found A)) → ((n : ℕ) → rows_from (λ p bs. option_map (found_as f) (at p bs)) k (suc p) (drop n bs) ≡ rows_as (rows_from at k (suc p) (drop n bs)))
          → and_then (option_map (found_as f) o) (λ n. rows_from (λ p bs. option_map (found_as f) (at p bs)) k (suc p) (drop n bs)) ≡ rows_as (and_then o (λ n. rows_from at k (suc p) (drop n bs)))
      step None next = refl
      step (Some r) next = λ i. record { values = f r.value ∷ (next r.size i).values; size = r.size + (next r.size i).size }
