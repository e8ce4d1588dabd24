-- Objects in their places (document 01: "64 places and one 64-bit occupancy word", by now 256 and four), and what is asked of them.
-- Assumes nothing.
use Rattle.std.specs.Prelude.{Bool, true, false, cond, ◌&&◌, List, [], ◌∷◌, map, ℕ, leb, ltb, eqb}
use Rattle.rules.specs.declared.Role.{Role}
use Rattle.rules.specs.declared.Role.TheVariants.{Writer, Compactor}
use Rattle.rules.specs.declared.Object.{Object}
use Rattle.rules.specs.Lists.{conj, keep, any, has, lookup}
use Rattle.rules.specs.Limits.{word_count, word_bits, currency_limit}
use Rattle.rules.specs.State.{occupied}
use Rattle.rules.specs.Table.{nonzero}
use Rattle.rules.specs.Sound.{unused}
use Rattle.objects.specs.declared.Objects.{Objects}
use Rattle.objects.specs.Occupancy.{words_of}

-- the occupancy words of the places: the bit of a place is set exactly when it is taken
abbrev pub words_at : List Object → List ℕ
words_at ps = words_of word_bits word_count (map occupied ps)

abbrev pub lay_places : List Object → Objects
lay_places ps = record { occupancy = words_at ps; items = ps }

-- the same numbers in the same order
unfoldable pub same : List ℕ → List ℕ → Bool
same [] [] = true
same [] (n ∷ ns) = false
same (m ∷ ms) [] = false
same (m ∷ ms) (n ∷ ns) = eqb m n && same ms ns

-- the occupancy words are those of the places
abbrev pub is_laid : Objects → Bool
is_laid o = same o.occupancy (words_at o.items)

abbrev pub role_epoch : Role → ℕ → ℕ → ℕ
role_epoch Writer writer compactor = writer
role_epoch Compactor writer compactor = compactor

-- row 1's test of a place, beside the current epochs
unfoldable pub place_sound_by : ℕ → ℕ → Object → Bool
place_sound_by writer compactor o =
    cond (occupied o)
    (conj (ltb 0 o.epoch ∷ leb o.epoch (role_epoch o.role writer compactor) ∷ leb o.currency currency_limit ∷ []))
    (unused o)

-- What stands in the places, for whoever looks many numbers up: the numbers, those of the objects that are marked as named, the currencies; a number
-- that is not a free place's stands among them, and the currency beside its first place

abbrev pub numbers_at : List Object → List ℕ
numbers_at ps = map (λ o. o.number) ps

abbrev pub named_at : List Object → List ℕ
named_at ps = map (λ o. cond o.named o.number 0) ps

abbrev pub currencies_at : List Object → List ℕ
currencies_at ps = map (λ o. o.currency) ps

unfoldable pub among : List ℕ → ℕ → Bool
among ns n = nonzero n && has n ns

unfoldable pub beside : List ℕ → List ℕ → ℕ → ℕ
beside [] cs n = 0
beside (m ∷ ms) [] n = 0
beside (m ∷ ms) (c ∷ cs) n = cond (eqb n m) c (beside ms cs n)

abbrev pub currency_among : List ℕ → List ℕ → ℕ → ℕ
currency_among ns cs n = cond (nonzero n) (beside ns cs n) 0

-- What is asked of the places: the stored objects are those that are taken

abbrev pub stored_in : List Object → ℕ → Bool
stored_in ps n = any (λ o. eqb n o.number) (keep occupied ps)

abbrev pub currency_in : List Object → ℕ → ℕ
currency_in ps n = lookup (λ (o : Object). o.number) (λ o. o.currency) 0 n (keep occupied ps)

-- stored and marked as named
abbrev pub named_in : List Object → ℕ → Bool
named_in ps n = any (λ o. eqb n o.number && o.named) (keep occupied ps)

-- the numbers of the list that have this currency
abbrev pub of_currency_in : List Object → ℕ → List ℕ → List ℕ
of_currency_in ps c l = keep (λ n. eqb (currency_in ps n) c) l

abbrev pub numbers_in : List Object → List ℕ
numbers_in ps = map (λ o. o.number) (keep occupied ps)
