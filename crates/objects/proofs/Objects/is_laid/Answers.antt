-- `Objects::is_laid` meets its contract: each word is held against the numbers of its own places.
-- Assumes nothing.
use mathlib.Core.Path.{◌≡◌, refl, ap, ◌∙◌}
use mathlib.Core.Bool.{Bool, ◌&&◌}
use mathlib.Core.List.{List, [], ◌∷◌, map}
use Prim.Native.Nat.{ℕ, zero, suc, ◌/◌}
use native.Mathlib.Omega.{arith}
use lib.Dec.{eqb}
use lib.ListN.{length, take, drop, length-map}
use Rattle.std.proofs.Common.{rules, tests, Iter}
use Rattle.std.specs.Slice.Iter.{iter_rest}
use Rattle.std.proofs.lemmas.Iterator.{YieldsList-from_slice, YieldsList-from_zip}
use Rattle.std.proofs.lemmas.Iterator.Search.{all_from_yields_List}
use Rattle.std.specs.List.{list_all, zip}
use Rattle.std.specs.Simd.{first_chunks}
use Rattle.std.proofs.lemmas.Simd.{map-map}
use Rattle.rules.specs.declared.Object.{Object}
use Rattle.rules.specs.Limits.{limits, word_count, word_bits}
use Rattle.rules.specs.Table.{nonzero}
use Rattle.arrays.proofs.Lists.{map-take, map-drop}
use Rattle.objects.specs.Occupancy.{word, words_of}
use Rattle.objects.specs.Objects.{same}
use Rattle.objects.proofs.Places.{items_long, words_long}
use Rattle.objects.proofs.Objects.is_laid.Goals as goal

-- a word is that of its places
abbrev test : ℕ × List ℕ → Bool
test p = eqb p.0 (word (map nonzero p.1))

each : (k n : ℕ) (ws ns : List ℕ) → length ws ≡ n → list_all test (zip ws (first_chunks k n ns)) ≡ same ws (words_of k n (map nonzero ns))
unfolding same words_of
each k zero [] ns e = refl
each k zero (w ∷ ws) ns e = absurd (omega arith)
each k (suc n) [] ns e = absurd (omega arith)
each k (suc n) (w ∷ ws) ns e =
    rw (← map-take nonzero k ns, ← map-drop nonzero k ns) (ap (λ (b : Bool). eqb w (word (map nonzero (take k ns))) && b) (each k n ws (drop k ns) (omega arith)))

pub returns : goal.returns
returns c =
    let s = c.args.self in
    let ns = c.numbers-numbers.result in
    let long : length ns ≡ limits.places = ap length c.numbers-numbers.ensures ∙ length-map s.items (λ (o : Object). o.number) ∙ items_long s _ c.well_formed.0 in
    let few : length ns / word_bits ≡ word_count = omega (arith, long) in
    let chunks : c.as_chunks.result.0.now ≡ first_chunks word_bits word_count ns = c.as_chunks.ensures.front ∙ ap (λ (n : ℕ). first_chunks word_bits n ns) few in
    all_from_yields_List test c.all.new.self _ c.all.result c.all.ensures.ran
    (YieldsList-from_zip (YieldsList-from_slice s.occupancy (ap (λ (i : Iter ℕ). iter_rest i) c.zip.ensures.first ∙ c.iter.ensures.rest)) (YieldsList-from_slice _ (c.zip.ensures.second.0 ∙ chunks)))
    (λ x b q k. search (rules, tests))
    ∙ each word_bits word_count s.occupancy ns (words_long s _ c.well_formed.0)
    ∙ ap (λ (bs : List Bool). same s.occupancy (words_of word_bits word_count bs)) (ap (map nonzero) c.numbers-numbers.ensures ∙ map-map nonzero (λ (o : Object). o.number) s.items)
