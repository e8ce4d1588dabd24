-- "At manifest 2^64-1 every slot gives 6. .. smaller numbers still go first."
-- Assumes nothing.
use mathlib.Core.Path.{◌≡◌, ap}
use mathlib.Core.Logic.{◌⊎◌, inl, inr}
use mathlib.Core.Bool.{Bool, true}
use mathlib.Core.List.Memᴰ
use mathlib.Core.List.{List, [], ◌∷◌}
use Prim.Native.Nat.{ℕ}
use native.Mathlib.Omega.{arith}
use borrow.Author.Tests.{le-leb}
use Rattle.rules.specs.declared.Kind.{Kind}
use Rattle.rules.specs.declared.Kind.TheVariants.{Collect as COLLECT, Commit as COMMIT, Compact as COMPACT, Fence as FENCE, Hold as HOLD, List as LIST, Look as LOOK, Put as PUT, Release as RELEASE, Renew as RENEW}
use Rattle.rules.specs.Limits.{Limits}
use Rattle.rules.specs.Lists.{◌∈◌}
use Rattle.rules.specs.Request.{Asked}
use Rattle.rules.specs.State.{State}
use Rattle.rules.specs.Step.{rows_of}
use Rattle.rules.specs.Table.{◌if◌, row6, rows}
use Rattle.rules.specs.Verdict.{LastManifest, slots_of}
use Rattle.rules.proofs.Table.{verdict-at-most, verdict-smallest}

-- the only element of a list of one
only : (n m : ℕ) → n ∈ m ∷ [] → n ≡ m
only n m i = go (Memᴰ.cases_cons i)
  where
    go : (n ≡ m) ⊎ (n ∈ []) → n ≡ m
    go (inl e) = e
    go (inr j) = absurd (Memᴰ.not-nil j)

-- row 6 stands among the rows of a kind that asks for a slot
sixth : (L : Limits) (test : State → Bool) (s : State) (t : ℕ) (k : Kind) (l : List ℕ) (slot : ℕ) → slot ∈ slots_of k → (6 if row6 s slot) ∈ rows_of L test s (Asked t k l)
unfolding rows
sixth L test s t (FENCE r n) l slot i = Memᴰ.tail (Memᴰ.tail (Memᴰ.tail (Memᴰ.head (ap (λ (m : ℕ). 6 if row6 s m) (only slot n i)))))
sixth L test s t (PUT r e n c) l slot i = absurd (Memᴰ.not-nil i)
sixth L test s t (COMMIT e n) l slot i =
    Memᴰ.tail (Memᴰ.tail (Memᴰ.tail (Memᴰ.tail (Memᴰ.tail (Memᴰ.head (ap (λ (m : ℕ). 6 if row6 s m) (only slot n i)))))))
sixth L test s t (COMPACT e n o) l slot i =
    Memᴰ.tail (Memᴰ.tail (Memᴰ.tail (Memᴰ.tail (Memᴰ.tail (Memᴰ.head (ap (λ (m : ℕ). 6 if row6 s m) (only slot n i)))))))
sixth L test s t (HOLD x m e) l slot i = absurd (Memᴰ.not-nil i)
sixth L test s t (RENEW x e) l slot i = absurd (Memᴰ.not-nil i)
sixth L test s t (RELEASE x) l slot i = absurd (Memᴰ.not-nil i)
sixth L test s t (LIST x) l slot i = absurd (Memᴰ.not-nil i)
sixth L test s t (LOOK c x) l slot i = absurd (Memᴰ.not-nil i)
sixth L test s t COLLECT l slot i = absurd (Memᴰ.not-nil i)

pub last_manifest_lem : (L : Limits) (test : State → Bool) → LastManifest L test
last_manifest_lem L test s last t k l slot i fits =
    let there = sixth L test s t k l slot i in
    let applies : row6 s slot ≡ true = le-leb slot s.current.number (omega arith) in
    let most = verdict-at-most L test s (Asked t k l) (6 if row6 s slot) there applies in
    (λ past. ((verdict-smallest L test s (Asked t k l)).refused (6 if row6 s slot) there).1 (applies, past), most.0, most.1)
