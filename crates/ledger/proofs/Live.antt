-- The holds that are live at a time, in their places; and the rows behind the door, written out for each kind.
-- Assumes nothing.
use mathlib.Core.Path.{◌≡◌, refl, ap, ◌∙◌}
use mathlib.Core.Bool.{true, not, cond}
use mathlib.Core.List.{List, [], ◌∷◌}
use Prim.Native.Nat.{ℕ, ◌≤◌}
use native.Mathlib.Omega.{arith}
use lib.Dec.{leb}
use lib.ListN.{length}
use Rattle.rules.specs.declared.Role.{Role}
use Rattle.rules.specs.declared.Kind.TheVariants.{Fence as FENCE, Put as PUT, Commit as COMMIT, Compact as COMPACT, Hold as HOLD, Renew as RENEW, Release as RELEASE, List as LIST, Look as LOOK}
use Rattle.rules.specs.declared.Hold.{Hold}
use Rattle.rules.specs.Limits.{limits}
use Rattle.rules.specs.Lists.{keep}
use Rattle.rules.specs.State.{State, epoch_of}
use Rattle.rules.specs.Table.{◌if◌, row4, row5, row6, row7, row8, row10, row11, row15, row16, row17, rows, first_of, slot_row}
use Rattle.rules.specs.Words.{live, live_holds, is_live, active, stored}
use Rattle.rules.proofs.Numbers.{keep-length}
use Rattle.holds.specs.declared.Holds.{Holds}
use Rattle.holds.specs.Holds.{holds_of, lay_holds, is_laid, has_number, names_manifest}
use Rattle.holds.proofs.Places as holds
use Rattle.ledger.specs.declared.Ledger.{Ledger}
use Rattle.ledger.specs.Ledger.{view, is_sound}
use Rattle.ledger.specs.Rows.{row_behind}
use Rattle.ledger.proofs.View.{sound_shape}

module _ (l : Ledger) (e : is_sound l ≡ true) (t : ℕ) {h : Holds} (is : h ≡ lay_holds (keep (live t) (holds_of l.holds))) where
  -- what they are
  pub live-list : holds_of h ≡ live_holds t (view l)
  live-list = ap holds_of is ∙ holds.holds-lay (live_holds t (view l))

  pub live-short : length (live_holds t (view l)) ≤ limits.holds
  live-short = omega (arith, keep-length (live t) (holds_of l.holds), (sound_shape l e).few)

  pub live_laid : is_laid h ≡ true
  live_laid = ap is_laid is ∙ holds.lay-laid (live_holds t (view l)) live-short

  pub live-few : h.count ≤ limits.holds
  live-few = holds.few h live_laid

  -- what is asked of them
  pub live-number : (x : ℕ) → has_number (holds_of h) x ≡ is_live t (view l) x
  unfolding is_live
  live-number x = ap (λ (xs : List Hold). has_number xs x) live-list

  pub live-manifest : (k : ℕ) → names_manifest (holds_of h) k ≡ names_manifest (live_holds t (view l)) k
  live-manifest k = ap (λ (xs : List Hold). names_manifest xs k) live-list

  pub live-count : h.count ≡ length (live_holds t (view l))
  live-count = ap (λ (h : Holds). h.count) is

-- The rows behind the door, of each kind

module _ (s : State) (t : ℕ) where
  pub fence-rows : (who : Role) (slot : ℕ) → row_behind s t (FENCE who slot) [] ≡ slot_row s.current.number slot
  unfolding rows
  fence-rows who slot = refl

  pub hold-rows : (x m e : ℕ) → row_behind s t (HOLD x m e) []
      ≡ cond (is_live t s x) 12 (cond (not (active t s m)) 13 (cond (leb limits.holds (length (live_holds t s))) 14 0))
  unfolding rows first_of
  hold-rows x m e = refl

  pub put-rows : (role : Role) (e n c : ℕ) → row_behind s t (PUT role e n c) []
      ≡ cond (row4 (epoch_of role s.current) e) 4 (cond (stored s n) 9 (cond (row10 s n) 10 (cond (row11 limits s) 11 0)))
  unfolding rows first_of
  put-rows role e n c = refl

  pub commit-rows : (e slot : ℕ) (l : List ℕ) → row_behind s t (COMMIT e slot) l
      ≡ cond (row4 s.current.writer_epoch e) 4 (cond (row5 s.current.writer_epoch e) 5 (cond (row6 s slot) 6 (cond (row7 s slot) 7 (cond (row8 s l) 8 0))))
  unfolding rows first_of
  commit-rows e slot l = refl

  pub compact_rows : (e slot n : ℕ) → row_behind s t (COMPACT e slot n) []
      ≡ cond (row4 s.current.compactor_epoch e) 4 (cond (row5 s.current.compactor_epoch e) 5 (cond (row6 s slot) 6 (cond (row7 s slot) 7 (cond (row8 s (n ∷ [])) 8 (cond (row17 s n) 17 0)))))
  unfolding rows first_of
  compact_rows e slot n = refl

  pub live-rows : (x e : ℕ) → (row_behind s t (RENEW x e) [] ≡ first_of ((15 if row15 s t x) ∷ [])) × (row_behind s t (RELEASE x) [] ≡ first_of ((15 if row15 s t x) ∷ []))
      × (row_behind s t (LIST x) [] ≡ first_of ((15 if row15 s t x) ∷ []))
  unfolding rows
  live-rows x e = (refl, refl, refl)

  pub look-rows : (c x : ℕ) → row_behind s t (LOOK c x) [] ≡ cond (row15 s t x) 15 (cond (row16 s t c x) 16 0)
  unfolding rows first_of
  look-rows c x = refl
