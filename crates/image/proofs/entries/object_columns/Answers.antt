-- `image::entries::object_columns` meets its contract: each number stands behind those before it. Assumes nothing.
use Rattle.std.proofs.Common.{◌≡◌, ℕ, List, [], ◌∷◌, ◌^◌, ◌<◌, length, take, drop, get_or, sym, ◌∙◌, arith}
use Rattle.fields.specs.Bytes.{value_of, kept64}
use Rattle.fields.proofs.Bytes.{value-one}
use Rattle.image.specs.Rows.{numbers_of}
use Rattle.image.specs.Format.{object_row}
use Rattle.image.proofs.RowLaws.{numbers_at_lem}
use Rattle.image.proofs.entries.object_columns.Goals as goal

-- the bytes that each of them has
columns : (s : List ℕ) → numbers_of object_row.widths (drop 3 s)
    ≡ kept64 (value_of (take 1 (drop 3 s))) ∷ kept64 (value_of (take 8 (drop 4 s))) ∷ kept64 (value_of (take 1 (drop 12 s))) ∷ kept64 (value_of (take 8 (drop 13 s)))
    ∷ kept64 (value_of (take 2 (drop 21 s))) ∷ kept64 (value_of (take 1 (drop 23 s))) ∷ []
unfolding numbers_of
columns s = rw (numbers_at_lem 1 (8 ∷ 1 ∷ 8 ∷ 2 ∷ 1 ∷ []) 3 s, numbers_at_lem 8 (1 ∷ 8 ∷ 2 ∷ 1 ∷ []) 4 s, numbers_at_lem 1 (8 ∷ 2 ∷ 1 ∷ []) 12 s, numbers_at_lem 8 (2 ∷ 1 ∷ []) 13 s, numbers_at_lem 2 (1 ∷ []) 21 s)

-- a byte is what its one digit says
one : (s : List ℕ) (at r : ℕ) → at < length s → r ≡ get_or s at 0 → r < 2 ^ 64 → r ≡ kept64 (value_of (take 1 (drop at s)))
one s at r h e b = omega (arith, e, value-one at s h)

pub returns : goal.returns
returns c =
    let s = c.args.s.now in
    let pair : c.pair.result ≡ kept64 (value_of (take 2 (drop 21 s))) = omega (arith, c.pair.ensures) in
    (λ i.
    one s 3 c.from.result (omega arith) c.from.ensures c.from.type_inv i
    ∷ c.eight.ensures i
    ∷ one s 12 c.from-2.result (omega arith) c.from-2.ensures c.from-2.type_inv i
    ∷ c.eight-2.ensures i
    ∷ pair i
    ∷ one s 23 c.from-3.result (omega arith) c.from-3.ensures c.from-3.type_inv i
    ∷ [])
    ∙ sym (columns s)
