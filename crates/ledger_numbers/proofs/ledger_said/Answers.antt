-- `ledger_said` meets its contract: each part is read from its place on.
-- Assumes nothing.
use mathlib.Core.Path.{◌≡◌, ◌∙◌, ap}
use mathlib.Core.List.{List}
use Prim.Native.Nat.{ℕ, ◌-◌}
use native.Mathlib.Omega.{arith}
use lib.ListN.{length, take, drop, length-drop}
use lib.Seq.{take_all}
use Rattle.rules.specs.Limits.{limits, manifest_limit}
use Rattle.ledger_numbers.specs.Numbers.{object_size, manifest_size, hold_size, objects_at, manifests_at, holds_at, each, object_from, manifest_from, hold_from, ledger_said}
use Rattle.ledger_numbers.proofs.ledger_said.Goals as goal

-- a part from its place on
from : (a : ℕ) (v : List ℕ) → take (length v - a) (drop a v) ≡ drop a v
from a v = take_all (length v - a) (drop a v) (omega (arith, length-drop a v))

pub returns : goal.returns
unfolding ledger_said
returns c =
    let v = c.args.v.now in
    let places = c.items_from.ensures ∙ ap (each object_from object_size limits.places) (from objects_at v) in
    let all = c.items_from-2.ensures ∙ ap (each manifest_from manifest_size (manifest_limit limits)) (from manifests_at v) in
    let rest = c.items_from-3.ensures ∙ ap (each hold_from hold_size limits.holds) (from holds_at v) in
    rw (c.copy_from_slice.ensures.after, places, all, rest)
