-- When a ledger is sound (document 01, "A ledger is sound when .."): row 1's test, as far as it is not the layout of the arrays.
-- Assumes nothing.
use Rattle.std.specs.Prelude.{Bool, true, false, not, cond, ◌&&◌, List, [], ◌∷◌, map, ℕ, suc, ◌+◌, leb, ltb, eqb, length}
use Rattle.rules.specs.declared.Role.{Role}
use Rattle.rules.specs.declared.Role.TheVariants.{Writer, Compactor}
use Rattle.rules.specs.declared.Object.{Object}
use Rattle.rules.specs.declared.Hold.{Hold}
use Rattle.rules.specs.Lists.{conj, any, all, distinct, rising_above}
use Rattle.rules.specs.Limits.{Limits, currency_limit}
use Rattle.rules.specs.State.{Manifest, State, occupied, objects, kept, epoch_of}
use Rattle.rules.specs.Words.{live}

abbrev pub is_writer : Role → Bool
is_writer Writer = true
is_writer Compactor = false

-- "Unused places are all zero"
unfoldable pub unused : Object → Bool
unused o = conj (eqb o.number 0 ∷ is_writer o.role ∷ eqb o.epoch 0 ∷ eqb o.currency 0 ∷ not o.named ∷ [])

-- "an epoch from 1 to their role's current epoch"; "currency (.. 0 to 999 ..)"; of the number "only that they are distinct and not 0"
-- (document 02, request 1), which `sound` and `occupied` ask
unfoldable pub object_sound : State → Object → Bool
object_sound s o = conj (ltb 0 o.epoch ∷ leb o.epoch (epoch_of o.role s.current) ∷ leb o.currency currency_limit ∷ [])

unfoldable pub place_sound : State → Object → Bool
place_sound s o = cond (occupied o) (object_sound s o) (unused o)

-- manifests "in rising number" from n on; "the two epochs of a manifest add to at most its number and neither falls from one kept manifest to the next",
-- from w and c on
unfoldable pub ordered : ℕ → ℕ → ℕ → List Manifest → Bool
ordered n w c [] = true
ordered n w c (m ∷ ms) =
    conj (leb n m.number ∷ leb w m.writer_epoch ∷ leb c m.compactor_epoch ∷ leb (m.writer_epoch + m.compactor_epoch) m.number
    ∷ ordered (suc m.number) m.writer_epoch m.compactor_epoch ms ∷ [])

-- "every listed object is stored and marked as named"
unfoldable pub name_sound : State → ℕ → Bool
name_sound s n = any (λ o. eqb n o.number && o.named) (objects s)

-- "a strictly rising list of at most 16 object numbers", by now 64, each sound
unfoldable pub manifest_sound : Limits → State → Manifest → Bool
manifest_sound L s m = conj (rising_above 0 m.names ∷ leb (length m.names) L.names ∷ all (name_sound s) m.names ∷ [])

-- "each hold names a kept manifest and has expiry 0 or not below the clock"
unfoldable pub hold_sound : State → Hold → Bool
hold_sound s x = any (λ m. eqb x.manifest m.number) (kept s) && live s.clock x

-- "each manifest but the current one is held"
unfoldable pub is_held : State → Manifest → Bool
is_held s m = any (λ x. eqb m.number x.manifest) s.holds

unfoldable pub sound : Limits → State → Bool
sound L s =
    conj (eqb (length s.places) L.places
    ∷ all (place_sound s) s.places
    ∷ distinct (map (λ o. o.number) (objects s))
    ∷ ordered 0 0 0 (kept s)
    ∷ all (manifest_sound L s) (kept s)
    ∷ rising_above 0 (map (λ x. x.number) s.holds)
    ∷ leb (length s.holds) L.holds
    ∷ all (hold_sound s) s.holds
    ∷ all (is_held s) s.older
    ∷ [])
