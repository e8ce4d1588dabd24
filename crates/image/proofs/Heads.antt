-- Laws of the three rows of one number at the front of an image's content, and the reader's cases. Assumes nothing.
use mathlib.Core.Path.{◌≡◌, refl, ap}
use mathlib.Core.Bool.{Bool, true, false, cond, ◌&&◌, and-false}
use mathlib.Core.List.{List, [], ◌∷◌}
use Prim.Native.Nat.{ℕ, ◌+◌}
use native.Mathlib.Omega.{arith}
use lib.Dec.{eqb}
use lib.ListN.{length, get_or, drop}
use borrow.Author.Tests.{eq-eqb, ne_eqb}
use Rattle.std.specs.Prelude.{None, Some, Ok, Err, is_some, unwrap_or}
use Rattle.std.specs.Option.{option_map_or}
use Rattle.rules.specs.Lists.{conj}
use Rattle.rules.proofs.Lists.{true-conj}
use Rattle.ledger.specs.declared.Ledger.{Ledger}
use Rattle.ledger.specs.Ledger.{is_sound}
use Rattle.records.specs.Found.{is_whole}
use Rattle.image.specs.declared.LoadError.TheVariants.{Unsound, Malformed}
use Rattle.image.specs.declared.rows.Found.{Found}
use Rattle.image.specs.Rows.{Cells, row_at}
use Rattle.image.specs.Format.{edition_row, clock_row, collected_row, edition}
use Rattle.image.specs.Image.{image_tag}
use Rattle.image.specs.Reading.{number_at, clock_at, collected_at, is_headed, rows_end, ledger_in, is_image, sound_or, read_of}
use Rattle.image.specs.Code.{rows_read}
use Rattle.image.proofs.RowLaws.{row_sized}

-- a row of one number has the bytes of its width
pub single-size : (tag w : ℕ) (bs : List ℕ) (r : Found Cells) → row_at (record { tag = tag; widths = w ∷ []; names = 0 }) bs ≡ Some r → r.size ≡ 3 + w
single-size tag w bs r e =
    let s = row_sized (record { tag = tag; widths = w ∷ []; names = 0 }) bs r e in
    omega (arith, s.size, s.few)

-- the three numbers are there
pub headed_by : (bs : List ℕ) {clock collected : ℕ} → number_at edition_row bs ≡ Some edition → number_at clock_row (drop clock_at bs) ≡ Some clock → number_at collected_row (drop collected_at bs) ≡ Some collected
    → is_headed bs ≡ true
headed_by bs e c h = true-conj _ (ap is_some e, (eq-eqb _ edition (ap (λ o. unwrap_or o 0) e), (ap is_some c, (ap is_some h, tt))))

-- ---- the rows behind them

module _ (bs : List ℕ) where
  -- not all three are there, or something stands behind the rows
  pub rows_unheaded : is_headed bs ≡ false → rows_read bs ≡ None
  rows_unheaded e = rw e

  pub rows_left : (rows_end bs ≡ length bs → ⊥) → rows_read bs ≡ None
  rows_left h = rw (ne_eqb (rows_end bs) (length bs) h, and-false (is_headed bs))

  pub rows_all-read : is_headed bs ≡ true → rows_end bs ≡ length bs → rows_read bs ≡ Some (ledger_in bs)
  rows_all-read e h = rw (e, eq-eqb (rows_end bs) (length bs) h)

-- ---- the reader's cases

module _ (bs : List ℕ) where
  pub refused-by : is_image bs ≡ false → read_of bs ≡ Err Malformed
  unfolding read_of
  refused-by e = rw e

  -- the form is there, and the ledger is sound or not
  module _ (e : is_image bs ≡ true) where
    pub image_refused : is_sound (ledger_in (drop 3 bs)) ≡ false → read_of bs ≡ Err Unsound
    unfolding read_of
    image_refused f = rw (e, f)

    pub image_read : is_sound (ledger_in (drop 3 bs)) ≡ true → read_of bs ≡ Ok (ledger_in (drop 3 bs))
    unfolding read_of
    image_read f = rw (e, f)

  pub not-whole : is_whole bs ≡ false → read_of bs ≡ Err Malformed
  unfolding is_image conj
  not-whole e = refused-by (rw e)

  pub not_tagged : (get_or bs 0 0 ≡ image_tag → ⊥) → read_of bs ≡ Err Malformed
  unfolding is_image conj
  not_tagged e = refused-by (rw (ne_eqb (get_or bs 0 0) image_tag e) (and-false (is_whole bs)))

  -- the head is there, and the rows behind it say a ledger or not
  pub head-there : is_whole bs ≡ true → get_or bs 0 0 ≡ image_tag → read_of bs ≡ option_map_or sound_or (rows_read (drop 3 bs)) (Err Malformed)
  unfolding read_of is_image conj
  head-there whole tag = rw (whole, eq-eqb (get_or bs 0 0) image_tag tag) (by (is_headed (drop 3 bs)) (eqb (rows_end (drop 3 bs)) (length (drop 3 bs))))
    where
      l : Ledger
      l = ledger_in (drop 3 bs)

      by : (h a : Bool) → cond (h && (a && true)) (sound_or l) (Err Malformed) ≡ option_map_or sound_or (cond (h && a) (Some l) None) (Err Malformed)
      by true true = refl
      by true false = refl
      by false a = refl

  module _ (whole : is_whole bs ≡ true) (tag : get_or bs 0 0 ≡ image_tag) (headed : is_headed (drop 3 bs) ≡ true) (all : eqb (rows_end (drop 3 bs)) (length (drop 3 bs)) ≡ true) where
    pub is_image_lem : is_image bs ≡ true
    unfolding is_image
    is_image_lem = true-conj _ (whole, (eq-eqb (get_or bs 0 0) image_tag tag, (headed, (all, tt))))
