-- What stands at the front of bytes as an option, the places of an object, and bytes that were laid. Assumes nothing.
use mathlib.Core.Path.{◌≡◌, refl, ap}
use mathlib.Core.Bool.{Bool, true, false, not, cond}
use mathlib.Core.List.{List, []}
use Prim.Native.Nat.{ℕ}
use borrow.Author.Tests.{eq-eqb, ne_eqb}
use Rattle.std.specs.Prelude.{Option, None, Some, is_some}
use Rattle.std.specs.Option.{option_map}
use Rattle.rules.specs.declared.Object.{Object}
use Rattle.rules.specs.State.{occupied}
use Rattle.image.specs.declared.rows.Found.{Found}
use Rattle.image.specs.Rows.{Cells, row_of, row_at}
use Rattle.image.specs.Format.{object_row, object_cells, is_object_at, object_from}
use Rattle.image.specs.Image.{place_bytes}
use Rattle.image.specs.Reading.{object_in, spot_at}

-- ---- options

pub some_of : {A : Type 0} (o : Option A) → is_some o ≡ true → (x : A) × (o ≡ Some x)
some_of None e = cc
some_of (Some x) e = (x, refl)

-- where a value was made of another, that one is there
pub map-some : {A B : Type 0} (f : A → B) (o : Option A) {y : B} → option_map f o ≡ Some y → (x : A) × (o ≡ Some x) × (f x ≡ y)
map-some f None e = cc
map-some f (Some x) e = (x, refl, cc)

-- ---- a place

module _ (p : ℕ) (bs : List ℕ) where
  pub spot_none : row_at object_row bs ≡ None → spot_at p bs ≡ None
  unfolding spot_at
  spot_none e = rw e

  pub spot_row : (r : Found Cells) → row_at object_row bs ≡ Some r → spot_at p bs ≡ object_in p r.value
  unfolding spot_at
  spot_row r e = rw e

  -- what holds of none, and of the object of a row that says this place, holds of what stands there
  pub spot_cases : (P : Option Object → Type 0) → P None
      → ((r : Found Cells) → row_at object_row bs ≡ Some r → is_object_at p r.value.numbers ≡ true → P (Some (object_from r.value.numbers))) → P (spot_at p bs)
  unfolding spot_at
  spot_cases P none there = by (row_at object_row bs) refl
    where
      by : (o : Option (Found Cells)) → row_at object_row bs ≡ o → P (Rattle.std.specs.Option.option_and_then (λ r. object_in p r.value) o)
      by None e = none
      by (Some r) e = step (is_object_at p r.value.numbers) refl
        where
          step : (t : Bool) → is_object_at p r.value.numbers ≡ t → P (cond t (Some (object_from r.value.numbers)) None)
          step true q = there r e q
          step false q = none

module _ (p : ℕ) (o : Object) where
  pub place-free : o.number ≡ 0 → place_bytes p o ≡ []
  unfolding place_bytes
  place-free e = rw (eq-eqb o.number 0 e)

  pub place-taken : (o.number ≡ 0 → ⊥) → occupied o ≡ true
  place-taken e = ap not (ne_eqb o.number 0 e)

  pub place-row : occupied o ≡ true → place_bytes p o ≡ row_of object_row (object_cells p o)
  unfolding place_bytes
  place-row e = ap (λ (b : Bool). cond b (row_of object_row (object_cells p o)) []) e
