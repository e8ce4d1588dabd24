-- The rows of an image, edition 1 (document 02, request 6), each with what it says of an object, a manifest or a hold. This file alone knows their columns.
-- Assumes nothing.
use Rattle.std.specs.Prelude.{Bool, true, false, not, cond, List, [], ◌∷◌, ℕ, ◌+◌, ◌%◌, leb, eqb, get_or}
use Rattle.rules.specs.declared.Role.TheVariants.{Writer, Compactor}
use Rattle.rules.specs.declared.Object.{Object}
use Rattle.rules.specs.declared.Hold.{Hold}
use Rattle.rules.specs.Lists.{conj}
use Rattle.rules.specs.Limits.{limits}
use Rattle.rules.specs.State.{Manifest}
use Rattle.records.specs.Format.{role_code}
use Rattle.image.specs.Rows.{Format, Cells}

-- "61 edition (1 byte, 1), 62 clock, 63 request [1]'s number"
abbrev pub edition_row : Format
edition_row = record { tag = 0x61; widths = 1 ∷ []; names = 0 }

abbrev pub clock_row : Format
clock_row = record { tag = 0x62; widths = 8 ∷ []; names = 0 }

abbrev pub collected_row : Format
collected_row = record { tag = 0x63; widths = 8 ∷ []; names = 0 }

abbrev pub edition : ℕ
edition = 1

-- a row of one number
abbrev pub single : ℕ → Cells
single n = record { numbers = n ∷ []; names = [] }

-- "place (1 byte, from 0), object, role, epoch, currency, named (1 byte; it and role 0 or 1)"
abbrev pub object_row : Format
object_row = record { tag = 0x64; widths = 1 ∷ 8 ∷ 1 ∷ 8 ∷ 2 ∷ 1 ∷ []; names = 0 }

abbrev pub flag : Bool → ℕ
flag true = 1
flag false = 0

abbrev pub object_cells : ℕ → Object → Cells
object_cells p o = record { numbers = p ∷ o.number ∷ role_code o.role ∷ o.epoch ∷ o.currency ∷ flag o.named ∷ []; names = [] }

-- the row of an object at that place
unfoldable pub is_object_at : ℕ → List ℕ → Bool
is_object_at p v = conj (eqb (get_or v 0 0) p ∷ leb (get_or v 2 0) 1 ∷ leb (get_or v 5 0) 1 ∷ [])

abbrev pub object_from : List ℕ → Object
object_from v = record { number = get_or v 1 0; role = cond (eqb (get_or v 2 0) 0) Writer Compactor; epoch = get_or v 3 0; currency = get_or v 4 0 % 65536; named = not (eqb (get_or v 5 0) 0) }

-- the bytes of its row: three of its head, and the columns
abbrev pub object_size : ℕ
object_size = 3 + 21

-- "manifest, writer epoch, compactor epoch, list"
abbrev pub manifest_row : Format
manifest_row = record { tag = 0x65; widths = 8 ∷ 8 ∷ 8 ∷ []; names = limits.names }

abbrev pub manifest_cells : Manifest → Cells
manifest_cells m = record { numbers = m.number ∷ m.writer_epoch ∷ m.compactor_epoch ∷ []; names = m.names }

abbrev pub manifest_from : Cells → Manifest
manifest_from c = record { number = get_or c.numbers 0 0; writer_epoch = get_or c.numbers 1 0; compactor_epoch = get_or c.numbers 2 0; names = c.names }

-- the bytes of its row, without its names
abbrev pub manifest_size : ℕ
manifest_size = 3 + 24

-- "hold, manifest, expiry"
abbrev pub hold_row : Format
hold_row = record { tag = 0x66; widths = 8 ∷ 8 ∷ 8 ∷ []; names = 0 }

abbrev pub hold_cells : Hold → Cells
hold_cells x = record { numbers = x.number ∷ x.manifest ∷ x.expiry ∷ []; names = [] }

abbrev pub hold_from : List ℕ → Hold
hold_from v = record { number = get_or v 0 0; manifest = get_or v 1 0; expiry = get_or v 2 0 }

abbrev pub hold_size : ℕ
hold_size = 3 + 24
