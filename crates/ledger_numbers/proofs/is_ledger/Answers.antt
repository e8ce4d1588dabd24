use Rattle.std.proofs.Common.{rules, tests, ◌≡◌, ◌*◌, List, ℕ, ◌≤◌, ◌/◌, length, length-drop, take, drop, ap, ◌∙◌, arith}
use Rattle.std.proofs.lemmas.Iterator.{YieldsList-from_slice}
use Rattle.std.proofs.lemmas.Iterator.Search.{all_from_yields_List}
use Rattle.std.proofs.lemmas.List.{get_or-take, length-take-le}
use Rattle.rules.specs.Limits.{limits}
use Rattle.rules.specs.Lists.{conj}
use Rattle.ledger_numbers.specs.Numbers.{object_size, objects_at, can_be, is_ledger}
use Rattle.ledger_numbers.proofs.Places.{all-chunks}
use Rattle.ledger_numbers.proofs.is_ledger.Goals as goal

own : (n : ℕ) (w : List ℕ) → object_size ≤ n → can_be (take n w) ≡ can_be w
unfolding conj
own n w h = rw (get_or-take n w 1 0 (omega arith), get_or-take n w 3 0 (omega arith), get_or-take n w 4 0 (omega arith))

pub returns : goal.returns
unfolding is_ledger
returns c =
    let places = drop objects_at c.args.v.now in
    let many : length (take (limits.places * object_size) places) / object_size ≡ limits.places = ap (◌/ object_size) (length-take-le (limits.places * object_size) places (omega (arith, length-drop objects_at c.args.v.now))) in
    all_from_yields_List can_be _ _ _ c.all.ensures.ran (YieldsList-from_slice c.as_chunks.result.0.now cc) (λ x b q k. search (rules, tests))
    ∙ rw (c.as_chunks.ensures.front, many) (all-chunks can_be object_size own limits.places places)
