-- `put_ledger` meets its contract: each part lies behind those before it.
-- Assumes nothing.
use mathlib.Core.Path.{◌≡◌, ◌∙◌}
use mathlib.Core.List.{[], ◌∷◌, ◌++◌, append_assoc}
use Prim.Native.Nat.{◌*◌}
use native.Mathlib.Omega.{arith}
use Rattle.rules.specs.Limits.{limits, manifest_limit, word_count}
use Rattle.ledger.specs.declared.Ledger.{Ledger}
use Rattle.ledger_numbers.specs.Numbers.{object_size, manifest_size, hold_size, flat, object_numbers, manifest_numbers, hold_numbers, ledger_numbers}
use Rattle.ledger_numbers.proofs.Places.{lying_none, lying_one, lying_part, lying_all}
use Rattle.ledger_numbers.proofs.put_ledger.Goals as goal

-- the parts, one behind the other
parts : (l : Ledger) → ((((l.clock ∷ l.collected ∷ l.objects.occupancy) ++ flat object_numbers l.objects.items) ++ l.manifests.count ∷ []) ++ flat manifest_numbers l.manifests.items) ++ l.holds.count ∷ [] ++ flat hold_numbers l.holds.items ≡ ledger_numbers l
unfolding ledger_numbers
parts l = simp append_assoc

pub returns : goal.returns
returns c =
    let l = c.args.ledger in
    let front = lying_one l.collected (lying_one l.clock (lying_none {out = c.args.out.now}) (omega arith)) (omega arith) in
    let words = lying_part word_count front c.copy_from_slice.ensures.after c.copy_from_slice.auto.self (omega arith) in
    let objects = lying_part (limits.places * object_size) words c.put_items.ensures c.put_items.auto.out (omega arith) in
    let kept = lying_one l.manifests.count objects (omega arith) in
    let manifests = lying_part (manifest_limit limits * manifest_size) kept c.put_items-2.ensures c.put_items-2.auto.out (omega arith) in
    let held = lying_one l.holds.count manifests (omega arith) in
    let holds = lying_part (limits.holds * hold_size) held c.put_items-3.ensures c.put_items-3.auto.out (omega arith) in
    lying_all holds (omega arith) ∙ parts l
