-- Each row of the refusal table has a number, which is not 0.
-- Assumes nothing.
use mathlib.Core.Path.{◌≡◌}
use native.Mathlib.Omega.{arith}
use Prim.Native.Nat.{◌≤◌}
use Rattle.rules.specs.declared.rows.Refusal.{Refusal}
use Rattle.rules.specs.declared.rows.Refusal.TheVariants.{Unsound, Malformed, Late, NotAnEpoch, Fenced, SlotTaken, SlotAhead, NotStored, Stored, Collected, Full, HoldTaken, NotActive, HoldsFull, NotLive, NoObject, NothingToCompact}
use Rattle.rules.specs.Refusals.{number}

at-least-one : (r : Refusal) → 1 ≤ number r
at-least-one Unsound = omega arith
at-least-one Malformed = omega arith
at-least-one Late = omega arith
at-least-one NotAnEpoch = omega arith
at-least-one Fenced = omega arith
at-least-one SlotTaken = omega arith
at-least-one SlotAhead = omega arith
at-least-one NotStored = omega arith
at-least-one Stored = omega arith
at-least-one Collected = omega arith
at-least-one Full = omega arith
at-least-one HoldTaken = omega arith
at-least-one NotActive = omega arith
at-least-one HoldsFull = omega arith
at-least-one NotLive = omega arith
at-least-one NoObject = omega arith
at-least-one NothingToCompact = omega arith

pub not_0 : (r : Refusal) → number r ≡ 0 → ⊥
not_0 r e = omega (arith, at-least-one r, e)
