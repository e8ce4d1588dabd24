-- What an accepted step's clear rows say of the ledger with the clock set and the expired holds gone.
-- Assumes nothing.
use mathlib.Core.Path.{◌≡◌, ap}
use mathlib.Core.Logic.{◌⊎◌, inl, inr}
use mathlib.Core.Bool.{Bool, true, false, not, ◌&&◌, false≢true}
use mathlib.Core.List.{List}
use Prim.Native.Nat.{ℕ, ◌≤◌, ◌<◌}
use native.Mathlib.Omega.{arith}
use lib.Dec.{eqb}
use borrow.Author.Tests.{ltb-false, eqb-true, eqb-false, not-true, not-false}
use Rattle.rules.specs.declared.Hold.{Hold}
use Rattle.rules.specs.declared.Kind.{Kind}
use Rattle.rules.specs.declared.Kind.TheVariants.{Collect as COLLECT, Commit as COMMIT, Compact as COMPACT, Fence as FENCE, Hold as HOLD, List as LIST, Look as LOOK, Put as PUT, Release as RELEASE, Renew as RENEW}
use Rattle.rules.specs.Limits.{Limits}
use Rattle.rules.specs.Lists.{◌∈◌, any}
use Rattle.rules.specs.State.{State}
use Rattle.rules.specs.Step.{settle}
use Rattle.rules.specs.Table.{nonzero, row13, row8, rows}
use Rattle.rules.specs.Words.{active, live_holds, stored}
use Rattle.rules.proofs.Holds.{Active}
use Rattle.rules.proofs.Lists.{any_in, decide, in_any, or_cases, true-false}
use Rattle.rules.proofs.Table.{Clear}

-- a row that is the test's negation is clear where the test passes
pub passed : (b : Bool) → not b ≡ false → b ≡ true
passed = not-false

pub positive : (n : ℕ) → nonzero n ≡ true → 0 < n
positive n e = let f = eqb-false n 0 (not-true (eqb n 0) e) in omega (arith, f)

-- the hold asked for is not 0, so it is live
pub there : (a b : Bool) → a ≡ true → (a && not b) ≡ false → b ≡ true
there true b e f = not-false b f
there false b e f = absurd (false≢true e)

pub row8-clear : (t : ℕ) (s : State) (l : List ℕ) → row8 s l ≡ false → (n : ℕ) → n ∈ l → stored (settle t s) n ≡ true
unfolding stored
row8-clear t s l e n i = step (decide (stored s n))
  where
    step : (stored s n ≡ true) ⊎ (stored s n ≡ false) → stored s n ≡ true
    step (inl q) = q
    step (inr q) = true-false _ (in_any (λ n. not (stored s n)) i (ap not q)) e

-- the manifest asked for is current, or a live hold names it
pub row13-clear : (t : ℕ) (s : State) (m : ℕ) → row13 s t m ≡ false → Active (settle t s) m
unfolding active
row13-clear t s m e = step (or_cases (eqb m s.current.number) _ (not-false _ e))
  where
    step : (eqb m s.current.number ≡ true) ⊎ (any (λ (y : Hold). eqb m y.manifest) (live_holds t s) ≡ true) → Active (settle t s) m
    step (inl q) = inl (eqb-true m s.current.number q)
    step (inr q) = let k = any_in (λ (y : Hold). eqb m y.manifest) (live_holds t s) q in inr (k.0, k.1, eqb-true m k.0.manifest k.2)

-- row 3 stands second for every kind
pub row3-clear : (L : Limits) (s : State) (t : ℕ) (k : Kind) (l : List ℕ) → Clear (rows L s t k l) → s.clock ≤ t
unfolding rows
row3-clear L s t (FENCE r slot) l f = ltb-false t s.clock f.1.0
row3-clear L s t (PUT r e n c) l f = ltb-false t s.clock f.1.0
row3-clear L s t (COMMIT e slot) l f = ltb-false t s.clock f.1.0
row3-clear L s t (COMPACT e slot n) l f = ltb-false t s.clock f.1.0
row3-clear L s t (HOLD x m e) l f = ltb-false t s.clock f.1.0
row3-clear L s t (RENEW x e) l f = ltb-false t s.clock f.1.0
row3-clear L s t (RELEASE x) l f = ltb-false t s.clock f.1.0
row3-clear L s t (LIST x) l f = ltb-false t s.clock f.1.0
row3-clear L s t (LOOK c x) l f = ltb-false t s.clock f.1.0
row3-clear L s t COLLECT l f = ltb-false t s.clock f.1.0
