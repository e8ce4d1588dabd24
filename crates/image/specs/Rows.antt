-- A row: a field whose value is numbers that stand bare, each in its width, and then names of eight bytes each. Rows one behind the other, as many as
-- there are. Every row of an image is one of these, so its bytes and its reader are written once. Assumes nothing.
use Rattle.std.specs.Prelude.{Bool, cond, ◌&&◌, List, [], ◌∷◌, ◌++◌, ℕ, zero, suc, ◌+◌, ◌-◌, ◌/◌, ◌%◌, leb, eqb, take, drop, Option, None, Some}
use Rattle.std.specs.Option.{option_map}
use Rattle.fields.specs.Bytes.{be, value_of, kept64, words, words_of}
use Rattle.fields.specs.Fields.{field, head_of}
use Rattle.image.specs.declared.rows.Found.{Found}

-- tag: of the field; widths: of its numbers, in bytes; names: how many it has behind them at most
pub record Format : Type 0 where
  pub tag : ℕ
  pub widths : List ℕ
  pub names : ℕ

-- what a row says
pub record Cells : Type 0 where
  pub numbers : List ℕ
  pub names : List ℕ

-- numbers in these widths, one behind the other
unfoldable pub bare : List ℕ → List ℕ → List ℕ
bare [] ns = []
bare (w ∷ ws) [] = []
bare (w ∷ ws) (n ∷ ns) = be w n ++ bare ws ns

-- the bytes that these widths take
abbrev pub total : List ℕ → ℕ
total [] = 0
total (w ∷ ws) = w + total ws

-- the numbers that bytes say in these widths
unfoldable pub numbers_of : List ℕ → List ℕ → List ℕ
numbers_of [] bs = []
numbers_of (w ∷ ws) bs = kept64 (value_of (take w bs)) ∷ numbers_of ws (drop w bs)

-- the bytes of a row
abbrev pub row_of : Format → Cells → List ℕ
row_of f c = field f.tag (bare f.widths c.numbers ++ words c.names)

-- What stands at the front of bytes, if it is there

-- a value of n bytes has numbers of w bytes in all and then whole names, not too many
abbrev pub has_form : ℕ → ℕ → ℕ → Bool
has_form w most n = leb w n && (eqb ((n - w) % 8) 0 && leb ((n - w) / 8) most)

abbrev pub formed_by : ℕ → ℕ → Option ℕ → Option ℕ
formed_by w most None = None
formed_by w most (Some n) = cond (has_form w most n) (Some n) None

-- how many bytes the value of the row at the front has, which has to have this tag and this form
unfoldable pub row_head : ℕ → ℕ → ℕ → List ℕ → Option ℕ
row_head tag w most bs = formed_by w most (head_of tag bs)

abbrev pub present : Format → List ℕ → ℕ → Found Cells
present f bs n = record {
  value = record {
    numbers = numbers_of f.widths (drop 3 bs);
    names = words_of ((n - total f.widths) / 8) (drop (3 + total f.widths) bs);
  };
  size = 3 + n;
}

unfoldable pub row_at : Format → List ℕ → Option (Found Cells)
row_at f bs = option_map (present f bs) (row_head f.tag (total f.widths) f.names bs)

-- what is said in other words, in as many bytes
abbrev pub found_as : {A B : Type 0} → (A → B) → Found A → Found B
found_as f r = record { value = f r.value; size = r.size }

-- Rows one behind the other, counted from p

pub record Rows (A : Type 0) : Type 0 where
  pub values : List A
  pub size : ℕ

module _ {A : Type 0} where
  -- their bytes
  unfoldable pub bytes_from : (ℕ → A → List ℕ) → ℕ → List A → List ℕ
  bytes_from f p [] = []
  bytes_from f p (x ∷ xs) = f p x ++ bytes_from f (suc p) xs

  abbrev pub no_rows : Rows A
  no_rows = record { values = []; size = 0 }

  -- a row, and those behind it, where it is there
  abbrev pub and_then : Option (Found A) → (ℕ → Rows A) → Rows A
  and_then None behind = no_rows
  and_then (Some r) behind = record { values = r.value ∷ (behind r.size).values; size = r.size + (behind r.size).size }

  -- as many as stand at the front of bytes, at most k
  unfoldable pub rows_from : (ℕ → List ℕ → Option (Found A)) → ℕ → ℕ → List ℕ → Rows A
  rows_from at zero p bs = no_rows
  rows_from at (suc k) p bs = and_then (at p bs) (λ n. rows_from at k (suc p) (drop n bs))
