-- What the reader's tests say of the definition, and that what is read is well formed.
-- Assumes nothing.
use Rattle.std.proofs.Common.{Option, Some, None}
use mathlib.Core.Path.{◌≡◌, refl, subst}
use mathlib.Core.Bool.{true, false, ◌&&◌, and-false}
use mathlib.Core.List.{List}
use Prim.Native.Nat.{ℕ, ◌-◌}
use lib.Dec.{eqb}
use lib.ListN.{length, drop, get_or}
use Rattle.records.specs.Format.{most_fields}
use Rattle.records.specs.Found.{is_whole, placed_all}
use Rattle.records.specs.Walk.{Walked, Found, Broken, walk}
use Rattle.records.proofs.Places.{padded_get}
use Rattle.records.proofs.RoundTripRecords.{picked}
use Rattle.sheets.specs.declared.Sheet.{Sheet}
use Rattle.sheets.specs.Sheets.{sheet_tag, sheet_fields, sheet_formed, sheet_from, blank_sheet, sheet_of_walk, decode_sheet}

pub decode-torn : (bs : List ℕ) → is_whole bs ≡ false → decode_sheet bs ≡ None
unfolding decode_sheet
decode-torn bs e = rw e

pub decode-other : (bs : List ℕ) → eqb (get_or bs 0 0) sheet_tag ≡ false → decode_sheet bs ≡ None
unfolding decode_sheet
decode-other bs e = rw (e, and-false (is_whole bs))

pub decode-whole : (bs : List ℕ) → is_whole bs ≡ true → eqb (get_or bs 0 0) sheet_tag ≡ true → decode_sheet bs ≡ sheet_of_walk (walk (sheet_fields blank_sheet) (drop 3 bs))
unfolding decode_sheet
decode-whole bs e t = rw (e, t)

-- numbers in their places say what they say
pub sheet_placed : (w : Walked) → sheet_of_walk (placed_all w) ≡ sheet_of_walk w
sheet_placed Broken = refl
sheet_placed (Found v l) =
    let k = most_fields - length v in
    rw (padded_get v k 0, padded_get v k 1, padded_get v k 2, padded_get v k 3)

-- ---- what is read is well formed

abbrev FormedBy : Option Sheet → Type 0
FormedBy None = Unit {0}
FormedBy (Some s) = sheet_formed s ≡ true

formed_by_lem : (w : Walked) → FormedBy (sheet_of_walk w)
formed_by_lem Broken = tt
formed_by_lem (Found v l) = picked FormedBy (sheet_formed (sheet_from v)) (Some (sheet_from v)) None (λ e. e) (λ e. tt)

decode-formed : (bs : List ℕ) → FormedBy (decode_sheet bs)
unfolding decode_sheet
decode-formed bs =
    picked FormedBy (is_whole bs && eqb (get_or bs 0 0) sheet_tag) (sheet_of_walk (walk (sheet_fields blank_sheet) (drop 3 bs))) None
    (λ e. formed_by_lem (walk (sheet_fields blank_sheet) (drop 3 bs))) (λ e. tt)

pub read-formed : (bs : List ℕ) (s : Sheet) → decode_sheet bs ≡ Some s → sheet_formed s ≡ true
read-formed bs s e = subst FormedBy e (decode-formed bs)
