-- `Objects::put` meets its contract: the object stands in the lowest free place, and its bit is set.
-- Assumes nothing.
use mathlib.Core.Path.{◌≡◌, sym, ap, ap₂, ◌∙◌}
use mathlib.Core.Bool.{Bool}
use mathlib.Core.List.{List, map}
use Prim.Native.Nat.{ℕ, ◌<◌}
use native.Mathlib.Omega.{arith}
use lib.ListN.{set, length-map}
use Rattle.rules.specs.Limits.{limits, word_bits}
use Rattle.rules.specs.State.{occupied}
use Rattle.rules.specs.Step.{place}
use Rattle.rules.proofs.Laws.{place-lowest}
use Rattle.objects.specs.Occupancy.{lowest_free, with_flag}
use Rattle.objects.specs.Objects.{words_at}
use Rattle.objects.proofs.Words.{free-place}
use Rattle.objects.proofs.Places.{items_long, laid-words, laid-count, laid-flags, set_words, used-length, lowest-place}
use Rattle.objects.proofs.Objects.put.Goals.{After-lowest_free-at}
use Rattle.objects.proofs.Objects.put.Goals as goal

-- the place is the lowest that is free
at_is : (c : After-lowest_free-at) → c.lowest_free-at.result ≡ lowest_free (map occupied c.args.self.items)
at_is c =
    let s = c.args.self in
    c.lowest_free-at.ensures ∙ ap lowest_free (laid-flags s c.requires.0 (items_long s _ c.well_formed.0))

at_below : (c : After-lowest_free-at) → c.lowest_free-at.result < limits.places
at_below c =
    let s = c.args.self in
    let long = items_long s _ c.well_formed.0 in
    let many = length-map s.items occupied in
    let some = used-length s.items in
    omega (arith, at_is c, free-place (map occupied s.items) (omega (arith, c.requires.2)))

pub set_bit-requires : goal.set_bit-requires
set_bit-requires c = omega (arith, at_below (goal.at.set_bit-requires c).After-lowest_free-at, laid-count c.args.self c.requires.0)

pub offset_bounds-self-at : goal.offset_bounds-self-at
offset_bounds-self-at c = omega (arith, at_below (goal.at.offset_bounds-self-at c).After-lowest_free-at)

pub bounds-self-at : goal.bounds-self-at
bounds-self-at c = at_below (goal.at.bounds-self-at c).After-lowest_free-at

pub returns : goal.returns
returns c =
    let s = c.args.self in
    let o = c.args.object in
    let ps = s.items in
    let at = c.lowest_free-at.result in
    let before = (goal.at.returns c).After-lowest_free-at in
    let long = items_long s _ c.well_formed.0 in
    let placed : set ps at o ≡ place o ps = ap (λ (i : ℕ). set ps i o) (at_is before ∙ lowest-place ps) ∙ sym (place-lowest o ps) in
    let bits : c.set_bit.new.words ≡ words_at (place o ps) =
    c.set_bit.ensures
    ∙ ap₂ (λ (b : Bool) (ws : List ℕ). with_flag word_bits b at ws) (sym c.requires.1) (laid-words s c.requires.0)
    ∙ set_words ps long at (omega (arith, at_below before)) o ∙ ap words_at placed in
    λ j. record { occupancy = bits j; items = placed j }
