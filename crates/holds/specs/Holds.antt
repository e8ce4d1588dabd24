-- Holds in their places (document 01: "Holds: at most 8, packed in rising hold number (not 0)"; "Unused places are all zero").
-- Assumes nothing.
use Rattle.std.specs.Prelude.{Bool, ◌&&◌, List, [], ◌∷◌, map, ℕ, leb, eqb, length, take, drop}
use Rattle.rules.specs.declared.Hold.{Hold}
use Rattle.rules.specs.Lists.{conj, any, all, lookup}
use Rattle.rules.specs.Limits.{limits}
use Rattle.arrays.specs.Arrays.{pad}
use Rattle.holds.specs.declared.Holds.{Holds}

abbrev pub no_hold : Hold
no_hold = record { number = 0; manifest = 0; expiry = 0 }

-- the holds in the first places, and a list of holds in its places
abbrev pub holds_of : Holds → List Hold
holds_of h = take h.count h.items

abbrev pub lay_holds : List Hold → Holds
lay_holds xs = record { count = length xs; items = pad limits.holds no_hold xs }

unfoldable pub is_no_hold : Hold → Bool
is_no_hold x = conj (eqb x.number 0 ∷ eqb x.manifest 0 ∷ eqb x.expiry 0 ∷ [])

-- the places behind the holds are all zero
unfoldable pub is_laid : Holds → Bool
is_laid h = leb h.count limits.holds && all is_no_hold (drop h.count h.items)

-- What is asked of a list of holds

-- a hold has this number; a hold names this manifest; the manifest that the hold of this number names
abbrev pub has_number : List Hold → ℕ → Bool
has_number xs n = any (λ x. eqb n x.number) xs

abbrev pub names_manifest : List Hold → ℕ → Bool
names_manifest xs k = any (λ x. eqb k x.manifest) xs

abbrev pub manifest_by : List Hold → ℕ → ℕ
manifest_by xs n = lookup (λ (x : Hold). x.number) (λ x. x.manifest) 0 n xs

abbrev pub numbers : List Hold → List ℕ
numbers xs = map (λ x. x.number) xs
