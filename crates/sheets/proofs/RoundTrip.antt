-- Reading and writing sheets undo each other, and all else is refused: the laws of every record, at the fields of a sheet.
-- Assumes nothing.
use Rattle.std.proofs.Common.{Option, Some, None}
use mathlib.Core.Path.{◌≡◌, refl, subst}
use mathlib.Core.Bool.{true, ◌&&◌}
use mathlib.Core.List.{List, []}
use Prim.Native.Nat.{ℕ, ◌<◌}
use native.Mathlib.Nat.{mod-eq_of_lt}
use native.Mathlib.Omega.{arith}
use lib.Dec.{eqb, lit<, lit≤}
use lib.ListN.{length, get_or, drop}
use borrow.Author.Tests.{eqb-true}
use Rattle.fields.proofs.Fields.{length-field}
use Rattle.rules.specs.Lists.{all, any}
use Rattle.rules.proofs.Lists.{and_left, and_right, and_both}
use Rattle.records.specs.Format.{bytes_of}
use Rattle.records.specs.Found.{is_whole}
use Rattle.records.specs.Walk.{Walked, Found, Broken, walk}
use Rattle.records.specs.RoundTrip.{fits, all_fit, are_bytes}
use Rattle.records.proofs.WalkLaws.{total, length-bytes, single, filled_from, filled}
use Rattle.records.proofs.RoundTripRecords.{picked, fields_fit, fit_at, is_tidy, record_written, RewritesBy, record_read, rewrites_as}
use Rattle.sheets.specs.declared.Sheet.{Sheet}
use Rattle.sheets.specs.Sheets.{sheet_tag, sheet_fields, sheet_formed, encode_sheet, sheet_from, blank_sheet, sheet_of_walk, decode_sheet}
use Rattle.sheets.specs.RoundTrip.{SheetRoundTrip}
use Rattle.sheets.proofs.Reading.{decode-whole}

tidy : (s : Sheet) → is_tidy (sheet_fields s) ≡ true
unfolding all any single total
tidy s = refl

-- ---- reading what was written

reads_written_lem : (s : Sheet) → sheet_formed s ≡ true → all_fit (sheet_fields s) [] ≡ true → decode_sheet (encode_sheet s) ≡ Some s
unfolding any
reads_written_lem s well fit =
    let w = record_written sheet_tag (sheet_fields s) [] (tidy s) fit (lit≤ tt, refl) in
    let two : s.currency < 65536 = fit_at (sheet_fields s) 1 (fields_fit (sheet_fields s) [] fit) (lit< tt) in
    rw (decode-whole (encode_sheet s) (and_both _ _ w.long w.whole) refl, w.found, mod-eq_of_lt {n = s.currency} {m = 65536} two, well)

-- ---- writing what was read

-- what bytes are read as is well formed, fits, and is written as the bytes
abbrev WrittenAs : List ℕ → Option Sheet → Type 0
WrittenAs bs None = Unit {0}
WrittenAs bs (Some s) = (sheet_formed s ≡ true) × (all_fit (sheet_fields s) [] ≡ true) × (encode_sheet s ≡ bs)

-- the fields of a sheet that was read have the numbers read
sheet_read : (v : List ℕ) → all fits (filled (sheet_fields blank_sheet) v) ≡ true → filled (sheet_fields blank_sheet) v ≡ sheet_fields (sheet_from v)
unfolding filled_from
sheet_read v fit = rw (mod-eq_of_lt {n = get_or v 1 0} {m = 65536} (fit_at (filled (sheet_fields blank_sheet) v) 1 fit (lit< tt)))

module _ (bs : List ℕ) (tag : get_or bs 0 0 ≡ sheet_tag) where
  -- a sheet has no list
  walked : (w : Walked) → RewritesBy bs (sheet_fields blank_sheet) w → WrittenAs bs (sheet_of_walk w)
  unfolding all bytes_of
  walked Broken u = tt
  walked (Found v l) u =
      let r = rewrites_as bs l (filled (sheet_fields blank_sheet) v) (sheet_fields (sheet_from v)) u (sheet_read v) in
      picked (WrittenAs bs) (sheet_formed (sheet_from v)) (Some (sheet_from v)) None (λ e. (e, and_both _ true (fields_fit (sheet_fields (sheet_from v)) l r.0) refl, rw tag at r.1)) (λ e. tt)

writes : (bs : List ℕ) → are_bytes bs ≡ true → WrittenAs bs (decode_sheet bs)
unfolding decode_sheet
writes bs bytes =
    let tagged = eqb (get_or bs 0 0) sheet_tag in
    let found = walk (sheet_fields blank_sheet) (drop 3 bs) in
    picked (WrittenAs bs) (is_whole bs && tagged) (sheet_of_walk found) None
    (λ e. walked bs (eqb-true (get_or bs 0 0) sheet_tag (and_right (is_whole bs) tagged e)) found (record_read (sheet_fields blank_sheet) bs (tidy blank_sheet) bytes (and_left (is_whole bs) tagged e)))
    (λ e. tt)

writes_read_lem : (bs : List ℕ) (s : Sheet) → are_bytes bs ≡ true → decode_sheet bs ≡ Some s → WrittenAs bs (Some s)
writes_read_lem bs s bytes h = subst (WrittenAs bs) h (writes bs bytes)

-- ---- all else

refuses-other : (bs : List ℕ) → are_bytes bs ≡ true → ((s : Sheet) → sheet_formed s ≡ true → all_fit (sheet_fields s) [] ≡ true → encode_sheet s ≡ bs → ⊥) → decode_sheet bs ≡ None
refuses-other bs bytes never = read (decode_sheet bs) (writes bs bytes)
  where
    read : (d : Option Sheet) → WrittenAs bs d → d ≡ None
    read None w = refl
    read (Some s) w = absurd (never s w.0 w.1 w.2)

size : (s : Sheet) → length (encode_sheet s) ≡ 41
unfolding total
size s = omega (arith, length-field sheet_tag (bytes_of (sheet_fields s) []), length-bytes (sheet_fields s) [])

pub sheet_round_trip : SheetRoundTrip
sheet_round_trip = record { reads_written = reads_written_lem; writes_read = writes_read_lem; refuses = refuses-other; size = size }
