-- When a stored object is dead, as the code asks: by the kept manifests and the two current epochs, without holds or a time.
-- Assumes nothing.
use Rattle.std.specs.Prelude.{Bool, not, ◌&&◌, List, ℕ, eqb}
use Rattle.rules.specs.declared.Object.{Object}
use Rattle.objects.specs.Objects.{role_epoch}
use Rattle.manifests.specs.Reach.{reached}

-- "its epoch is its role's current epoch and no manifest since its put has named it"
abbrev pub pending_by : ℕ → ℕ → Object → Bool
pending_by writer compactor o = eqb o.epoch (role_epoch o.role writer compactor) && not o.named

-- not pending, and the reach test finds it in none of these lists (where they rise: none names it)
abbrev pub dead_by : List (List ℕ) → ℕ → ℕ → Object → Bool
dead_by ls writer compactor o = not (pending_by writer compactor o) && not (reached ls o.number)
