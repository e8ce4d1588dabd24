-- Reading and writing sheets undo each other, and all else is refused (the customer's second demand, for sheets). Numbers fit their fields and bytes
-- are below 256, as the types have it. Proved in proofs/RoundTrip.antt. Assumes nothing.
use Rattle.std.specs.Prelude.{Some, None, ◌≡◌, true, List, [], ℕ, length}
use Rattle.records.specs.RoundTrip.{all_fit, are_bytes}
use Rattle.sheets.specs.declared.Sheet.{Sheet}
use Rattle.sheets.specs.Sheets.{sheet_fields, sheet_formed, encode_sheet, decode_sheet}

pub record SheetRoundTrip : Type 0 where
  -- reading what was written gives the sheet
  pub reads_written : (s : Sheet) → sheet_formed s ≡ true → all_fit (sheet_fields s) [] ≡ true → decode_sheet (encode_sheet s) ≡ Some s
  -- what was read is well formed, and writing it gives the bytes
  pub writes_read : (bs : List ℕ) (s : Sheet) → are_bytes bs ≡ true → decode_sheet bs ≡ Some s
      → (sheet_formed s ≡ true) × (all_fit (sheet_fields s) [] ≡ true) × (encode_sheet s ≡ bs)
  -- bytes that no sheet is written as are refused
  pub refuses : (bs : List ℕ) → are_bytes bs ≡ true → ((s : Sheet) → sheet_formed s ≡ true → all_fit (sheet_fields s) [] ≡ true → encode_sheet s ≡ bs → ⊥)
      → decode_sheet bs ≡ None
  -- every sheet has 41 bytes
  pub size : (s : Sheet) → length (encode_sheet s) ≡ 41
