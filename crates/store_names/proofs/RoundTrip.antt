-- Reading and writing store names undo each other, and all else is refused.
-- Assumes nothing.
use mathlib.Core.Path.{◌≡◌, refl, sym, ap, ap₂, ◌∙◌}
use mathlib.Core.Bool.{Bool, true, false, not, cond, ◌&&◌, and-eq-true_iff}
use mathlib.Core.List.{List, ◌++◌, append_assoc}
use Prim.Native.Nat.{ℕ, ◌≤◌}
use native.Mathlib.Omega.{arith}
use lib.Dec.{eqb, leb}
use lib.ListN.{length, take, drop, length-append, take-append-drop}
use lib.Seq.{take_at, drop_at, length-take-le}
use borrow.Author.Tests.{le-leb, leb-true, not-true}
use Rattle.std.specs.Prelude.{bytes_eq, Option, Some, None}
use Rattle.std.proofs.lemmas.Slice.Eq.{bytes_eq-Decides}
use Rattle.store_names.specs.declared.Name.{Name}
use Rattle.store_names.specs.declared.Name.TheVariants.{Manifest, Object}
use Rattle.store_names.specs.Decimal.{largest, digits, decimal}
use Rattle.store_names.specs.Names.{name_digits, manifest_folder, object_folder, manifest_suffix, object_suffix, number_before, number_in, object_read, manifest_or, encode, is_taken, decode}
use Rattle.store_names.specs.RoundTrip.{RoundTrip}
use Rattle.store_names.proofs.Digits.{length_digits, decimal-digits, read_behind, digits_decimal}

-- ---- reading what was written

-- digits and a suffix are a number before that suffix
number_before_lem : (suffix : List ℕ) (n : ℕ) → n ≤ largest → number_before suffix (digits name_digits n ++ suffix) ≡ Some n
unfolding number_before
number_before_lem suffix n taken =
    let long = length_digits name_digits n in
    let room : name_digits ≤ length (digits name_digits n ++ suffix) = omega (arith, length-append (digits name_digits n) suffix) in
    rw (le-leb _ _ room, drop_at (digits name_digits n) suffix name_digits long, (bytes_eq-Decides suffix suffix).1 refl, take_at (digits name_digits n) suffix name_digits long, decimal-digits name_digits n (omega arith) taken)

-- and behind a folder one in that folder
number_in_lem : (folder suffix : List ℕ) (n : ℕ) → n ≤ largest → number_in folder suffix (folder ++ digits name_digits n ++ suffix) ≡ Some n
unfolding number_in
number_in_lem folder suffix n taken =
    let behind = digits name_digits n ++ suffix in
    let split : folder ++ digits name_digits n ++ suffix ≡ folder ++ behind = append_assoc folder (digits name_digits n) suffix in
    rw split (simp (take_at folder behind (length folder) refl, (bytes_eq-Decides folder folder).1 refl, drop_at folder behind (length folder) refl) (number_before_lem suffix n taken))

-- an object's folder is no manifest's
crossed : (suffix behind : List ℕ) → number_in manifest_folder suffix (object_folder ++ behind) ≡ None
unfolding number_in
crossed suffix behind = refl

reads_written_lem : (v : Name) → is_taken v ≡ true → decode (encode v) ≡ Some v
unfolding decode
reads_written_lem (Manifest n) t = rw (number_in_lem manifest_folder manifest_suffix n (leb-true n largest t))
reads_written_lem (Object n) t =
    let both = (and-eq-true_iff (not (eqb n 0)) (leb n largest)).0 t in
    rw (crossed manifest_suffix (digits name_digits n ++ object_suffix), number_in_lem object_folder object_suffix n (leb-true n largest both.1), not-true (eqb n 0) both.0)

-- ---- writing what was read

number_read : (suffix bytes : List ℕ) (n : ℕ) → number_before suffix bytes ≡ Some n → (n ≤ largest) × (digits name_digits n ++ suffix ≡ bytes)
unfolding number_before
number_read suffix bytes n h =
    let r = read_behind (leb name_digits (length bytes) && bytes_eq (drop name_digits bytes) suffix) (decimal (take name_digits bytes)) n h in
    let both = (and-eq-true_iff (leb name_digits (length bytes)) (bytes_eq (drop name_digits bytes) suffix)).0 r.0 in
    let long = length-take-le name_digits bytes (leb-true name_digits (length bytes) both.0) in
    let d = digits_decimal (take name_digits bytes) n r.1 in
    (d.0, ap₂ ◌++◌ (ap (λ (k : ℕ). digits k n) (sym long) ∙ d.1) (sym ((bytes_eq-Decides (drop name_digits bytes) suffix).0 both.1)) ∙ take-append-drop name_digits bytes)

number-read_in : (folder suffix bytes : List ℕ) (n : ℕ) → number_in folder suffix bytes ≡ Some n → (n ≤ largest) × (folder ++ digits name_digits n ++ suffix ≡ bytes)
unfolding number_in
number-read_in folder suffix bytes n h =
    let r = read_behind (bytes_eq (take (length folder) bytes) folder) (number_before suffix (drop (length folder) bytes)) n h in
    let d = number_read suffix (drop (length folder) bytes) n r.1 in
    (d.0, append_assoc folder (digits name_digits n) suffix ∙ ap₂ ◌++◌ (sym ((bytes_eq-Decides (take (length folder) bytes) folder).0 r.0)) d.1 ∙ take-append-drop (length folder) bytes)

-- an object was read where its number isn't 0
object_read_lem : (zero : Bool) (n : ℕ) (v : Name) → cond zero None (Some (Object n)) ≡ Some v → (zero ≡ false) × (Object n ≡ v)
object_read_lem true n v h = ((cc), (cc))
object_read_lem false n v h = (refl, (cc))

writes_read_lem : (bytes : List ℕ) (v : Name) → decode bytes ≡ Some v → (is_taken v ≡ true) × (encode v ≡ bytes)
unfolding decode
writes_read_lem bytes v = read (number_in manifest_folder manifest_suffix bytes) refl (number_in object_folder object_suffix bytes) refl
  where
    read : (m : Option ℕ) → number_in manifest_folder manifest_suffix bytes ≡ m → (o : Option ℕ) → number_in object_folder object_suffix bytes ≡ o → manifest_or m (object_read o) ≡ Some v → (is_taken v ≡ true) × (encode v ≡ bytes)
    read (Some n) is o other h =
        let r = number-read_in manifest_folder manifest_suffix bytes n is in
        let name : v ≡ Manifest n = cc in
        rw name (le-leb n largest r.0, r.1)
    read None isn't (Some n) is h =
        let r = number-read_in object_folder object_suffix bytes n is in
        let o = object_read_lem (eqb n 0) n v h in
        rw (sym o.1) (rw (o.0, le-leb n largest r.0), r.1)
    read None isn't None neither h = ((cc), (cc))

-- ---- all else

refuses-other : (bytes : List ℕ) → ((v : Name) → is_taken v ≡ true → encode v ≡ bytes → ⊥) → decode bytes ≡ None
refuses-other bytes none = read (decode bytes) refl
  where
    read : (r : Option Name) → decode bytes ≡ r → decode bytes ≡ None
    read None h = h
    read (Some v) h =
        let w = writes_read_lem bytes v h in
        absurd (none v w.0 w.1)

pub round_trip_lem : RoundTrip
round_trip_lem = record { reads_written = reads_written_lem; writes_read = writes_read_lem; refuses = refuses-other }
