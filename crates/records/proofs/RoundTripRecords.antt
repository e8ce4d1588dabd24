-- Laws of a record, for steps and verdicts alike: it is read as the fields that it was written of, and the fields read of it are written as it.
-- Assumes nothing.
use mathlib.Core.Path.{◌≡◌, refl, sym, ◌∙◌, subst}
use mathlib.Core.Bool.{Bool, true, false, cond, ◌&&◌, false≢true}
use mathlib.Core.List.{List, [], ◌∷◌, map, append-nil}
use Prim.Native.Nat.{ℕ, zero, suc, ◌+◌, ◌-◌, ◌^◌, ◌≤◌, ◌<◌}
use native.Mathlib.Omega.{arith}
use lib.Dec.{leb, ltb, eqb, lit<}
use lib.ListN.{length, get_or, drop, length-drop}
use lib.Seq.{take_all}
use borrow.Author.Tests.{le-leb, leb-true, eq-eqb, eqb-true, ltb-true, lt-ltb}
use Rattle.fields.specs.Fields.{field, claimed}
use Rattle.fields.proofs.Bytes.{Below, below-drop}
use Rattle.fields.proofs.Fields.{length-field, claimed-field, head-holds, field-head}
use Rattle.rules.specs.Lists.{conj, all, none, rising_above}
use Rattle.rules.specs.Limits.{limits}
use Rattle.rules.proofs.Lists.{and_left, and_right, and_both, conj-true}
use Rattle.records.specs.declared.Field.{Field}
use Rattle.records.specs.Format.{inner, is_narrow, bytes_of, record_of}
use Rattle.records.specs.Found.{is_whole}
use Rattle.records.specs.Walk.{Walked, Found, Broken, walk}
use Rattle.records.specs.RoundTrip.{fits, all_fit, are_bytes}
use Rattle.records.proofs.Places.{all-at}
use Rattle.records.proofs.WalkLaws.{blank, number, list_in, total, length-bytes, total_mono, behind-head, single, filled, UndoneBy, walk-blank, walk-written, walk_undone}

-- ---- tests

-- what holds of both that a test picks from
pub picked : {A : Type 0} (P : A → Type 0) (b : Bool) (x y : A) → (b ≡ true → P x) → (b ≡ false → P y) → P (cond b x y)
picked P true x y f g = f refl
picked P false x y f g = g refl

pub all-below : (m : ℕ) (l : List ℕ) → 0 < m → all (λ n. ltb n m) l ≡ true → Below m l
unfolding all
all-below m [] some h i = some
all-below m (n ∷ l) some h zero = ltb-true n m (and_left (ltb n m) (all (λ n. ltb n m) l) h)
all-below m (n ∷ l) some h (suc i) = all-below m l some (and_right (ltb n m) (all (λ n. ltb n m) l) h) i

pub below_all : (m : ℕ) (l : List ℕ) → Below m l → all (λ n. ltb n m) l ≡ true
unfolding all
below_all m [] h = refl
below_all m (n ∷ l) h = and_both (ltb n m) (all (λ n. ltb n m) l) (lt-ltb n m (h zero)) (below_all m l (λ i. h (suc i)))

pub fields_fit : (fs : List Field) (l : List ℕ) → all_fit fs l ≡ true → all fits fs ≡ true
fields_fit fs l h = and_left (all fits fs) (all (λ n. ltb n (2 ^ 64)) l) h

pub fit_at : (fs : List Field) (i : ℕ) → all fits fs ≡ true → i < length fs → (get_or fs i (inner 0 0 0)).number < 256 ^ (get_or fs i (inner 0 0 0)).width
fit_at fs i fit inside = ltb-true _ _ (all-at fits fs i (inner 0 0 0) fit inside)

-- ---- what every line of the tables says: numbers of at most eight bytes, at most one list, and a length that two bytes can say

abbrev pub is_tidy : List Field → Bool
is_tidy fs = all is_narrow fs && (single fs && ltb (total limits.places fs) 65536)

tidy_parts : (fs : List Field) → is_tidy fs ≡ true → (all is_narrow fs ≡ true) × (single fs ≡ true) × (total limits.places fs < 65536)
tidy_parts fs h =
    let size = total limits.places fs in
    let rest = and_right (all is_narrow fs) (single fs && ltb size 65536) h in
    (and_left (all is_narrow fs) (single fs && ltb size 65536) h, and_left (single fs) (ltb size 65536) rest, ltb-true size 65536 (and_right (single fs) (ltb size 65536) rest))

-- ---- the list that stands beside the fields of a record: a short one, and none where no field is the list

abbrev pub Beside : List Field → List ℕ → Type 0
Beside fs l = (length l ≤ limits.places) × (list_in fs l ≡ l)

pub empty : (l : List ℕ) → none l ≡ true → (length l ≤ limits.places) × ([] ≡ l)
unfolding none
empty [] h = (omega arith, refl)
empty (n ∷ l) h = absurd (false≢true h)

pub first_empty : (l : List ℕ) (tests : List Bool) → conj (none l ∷ tests) ≡ true → (length l ≤ limits.places) × ([] ≡ l)
first_empty l tests h = empty l (conj-true (none l ∷ tests) h).0

pub rising-short : (most : ℕ) (l : List ℕ) → conj (rising_above 0 l ∷ leb (length l) most ∷ []) ≡ true → length l ≤ most
rising-short most l h = leb-true (length l) most (conj-true (rising_above 0 l ∷ leb (length l) most ∷ []) h).1.0

-- ---- a record that was written is whole, and its fields are found

pub length_record : (tag : ℕ) (fs : List Field) (l : List ℕ) → length (record_of tag fs l) ≡ 3 + total (length l) fs
length_record tag fs l = omega (arith, length-field tag (bytes_of fs l), length-bytes fs l)

pub record Written (tag : ℕ) (fs : List Field) (l : List ℕ) : Type 0 where
  pub long : leb 3 (length (record_of tag fs l)) ≡ true
  pub whole : eqb (claimed (record_of tag fs l)) (length (record_of tag fs l) - 3) ≡ true
  pub found : walk (map blank fs) (drop 3 (record_of tag fs l)) ≡ Found (map number fs) l

pub record_written : (tag : ℕ) (fs : List Field) (l : List ℕ) → is_tidy fs ≡ true → all_fit fs l ≡ true → Beside fs l → Written tag fs l
record_written tag fs l tidy fit beside =
    let t = tidy_parts fs tidy in
    let v = bytes_of fs l in
    let short : length v < 65536 = omega (arith, length-bytes fs l, total_mono fs (length l) limits.places beside.0) in
    let value : drop 3 (field tag v) ≡ v = simp append-nil at (behind-head tag v []) in
    let words = all-below (2 ^ 64) l (lit< tt) (and_right (all fits fs) (all (λ n. ltb n (2 ^ 64)) l) fit) in
    record {
      long = le-leb 3 (length (field tag v)) (omega (arith, length-field tag v));
      whole = eq-eqb _ _ (rw append-nil at (claimed-field tag v [] short) ∙ omega (arith, length-field tag v));
      found = rw (value, walk-blank fs v, walk-written fs l words beside.0 t.0 (fields_fit fs l fit), beside.1);
    }

-- ---- and what is found in a record is written as its bytes

pub record_bytes : (bs : List ℕ) → Below 256 bs → 3 ≤ length bs → claimed bs ≡ length bs - 3 → field (get_or bs 0 0) (drop 3 bs) ≡ bs
record_bytes bs below long whole =
    let front = field-head (get_or bs 0 0) (claimed bs) bs below (head-holds (get_or bs 0 0) bs refl (omega arith)) in
    rw (take_all (3 + claimed bs) bs (omega arith), take_all (claimed bs) (drop 3 bs) (omega (arith, length-drop 3 bs))) at (sym front)

-- the fields fit, and behind the outer tag that the bytes have they are written as the bytes
abbrev pub Rewrites : List ℕ → List ℕ → List Field → Type 0
Rewrites bs l fs = (all_fit fs l ≡ true) × (record_of (get_or bs 0 0) fs l ≡ bs)

abbrev pub RewritesBy : List ℕ → List Field → Walked → Type 0
RewritesBy bs fs Broken = Unit {0}
RewritesBy bs fs (Found ns l) = Rewrites bs l (filled fs ns)

pub record_read : (fs : List Field) (bs : List ℕ) → is_tidy fs ≡ true → are_bytes bs ≡ true → is_whole bs ≡ true → RewritesBy bs fs (walk fs (drop 3 bs))
record_read fs bs tidy bytes whole =
    let t = tidy_parts fs tidy in
    step (walk fs (drop 3 bs)) (walk_undone fs (drop 3 bs) (below-drop 256 3 bs below) t.0 t.1)
  where
    below : Below 256 bs
    below = all-below 256 bs (lit< tt) bytes

    same : field (get_or bs 0 0) (drop 3 bs) ≡ bs
    same =
        let long = leb 3 (length bs) in
        let claims = eqb (claimed bs) (length bs - 3) in
        record_bytes bs below (leb-true 3 (length bs) (and_left long claims whole)) (eqb-true (claimed bs) (length bs - 3) (and_right long claims whole))

    step : (w : Walked) → UndoneBy fs (drop 3 bs) w → RewritesBy bs fs w
    step Broken u = tt
    step (Found ns l) u = (and_both _ _ u.fit (below_all (2 ^ 64) l u.words), rw (u.bytes l (λ e. refl)) same)

-- so are other fields that these are, where they fit
pub rewrites_as : (bs l : List ℕ) (fs gs : List Field) → Rewrites bs l fs → (all fits fs ≡ true → fs ≡ gs) → Rewrites bs l gs
rewrites_as bs l fs gs r same = subst (Rewrites bs l) (same (fields_fit fs l r.0)) r
