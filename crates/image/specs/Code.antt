-- What the code keeps of what Rows.antt, Image.antt and Reading.antt define: rows in their places. Assumes nothing.
use Rattle.std.specs.Prelude.{◌≡◌, cond, ◌&&◌, List, ◌++◌, ℕ, eqb, length, drop, Option, None, Some}
use Rattle.std.specs.Option.{option_map}
use Rattle.fields.specs.Fields.{over}
use Rattle.rules.specs.State.{Manifest}
use Rattle.manifests.specs.declared.KeptManifest.{KeptManifest}
use Rattle.manifests.specs.Manifests.{lay_manifest}
use Rattle.ledger.specs.declared.Ledger.{Ledger}
use Rattle.image.specs.declared.rows.Form.{Form}
use Rattle.image.specs.declared.rows.Line.{Line}
use Rattle.image.specs.declared.rows.Found.{Found}
use Rattle.image.specs.Rows.{Format, Cells, Rows, found_as}
use Rattle.image.specs.Reading.{is_headed, rows_end, ledger_in}

-- the form that the code has of a row
abbrev pub format_of : {n : ℕ} → Form n → Format
format_of f = record { tag = f.tag; widths = f.widths; names = f.names }

-- a row as the code has it: its names are left out, and how many they are stands for them
abbrev pub line : {n : ℕ} → Cells → Line n
line c = record { numbers = c.numbers; names = length c.names }

abbrev pub found_line : {n : ℕ} → Option (Found Cells) → Option (Found (Line n))
found_line r = option_map (found_as line) r

abbrev pub found_manifest : Option (Found Manifest) → Option (Found KeptManifest)
found_manifest r = option_map (found_as lay_manifest) r

-- rows that were read into places: how many they are and their bytes, and behind them what was there
pub record Filled {A : Type 0} (rs : Rows A) (before after : List A) (r : Found ℕ) : Type 0 where
  pub count : r.value ≡ length rs.values
  pub size : r.size ≡ rs.size
  pub places : after ≡ rs.values ++ drop (length rs.values) before

-- the ledger of the rows, where the first three are there and nothing stands behind the last
abbrev pub rows_read : List ℕ → Option Ledger
rows_read bs = cond (is_headed bs && eqb (rows_end bs) (length bs)) (Some (ledger_in bs)) None

-- bytes laid over the start of a buffer, and how many they are
pub record Put (bytes before after : List ℕ) (n : ℕ) : Type 0 where
  pub count : n ≡ length bytes
  pub laid : after ≡ over bytes before
