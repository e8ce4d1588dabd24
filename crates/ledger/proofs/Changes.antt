-- What a step's change rests on: the holds that are left when the clock is set, the manifests that they hold, and the names that a compaction leaves.
-- Assumes nothing.
use mathlib.Core.Path.{◌≡◌, refl, sym, ap, ◌∙◌}
use mathlib.Core.Bool.{true, false}
use mathlib.Core.List.{List, map-id}
use mathlib.Core.Logic.{⊎_elim}
use Prim.Native.Nat.{ℕ, ◌-◌, ◌≤◌, ◌<◌}
use native.Mathlib.Omega.{arith}
use borrow.Author.Tests.{eq-eqb, not-true}
use lib.Dec.{ltb, eqb}
use lib.ListN.{length, take, length-map, length-take}
use Rattle.rules.specs.Limits.{limits}
use Rattle.rules.specs.Lists.{keep, has, insert, rising_above}
use Rattle.rules.specs.Step.{settle, held_by}
use Rattle.rules.specs.Table.{row17}
use Rattle.rules.specs.Typed.{name_list, names_of}
use Rattle.rules.specs.Words.{live, live_holds, currency_of, compacted}
use Rattle.rules.proofs.Lists.{decide, true-false, keep_in}
use Rattle.rules.proofs.Numbers.{has_in, keep-length, rising-keep}
use Rattle.rules.proofs.Bounds.{kept-few}
use Rattle.rules.proofs.SoundEnds.{current-kept, settle_shape}
use Rattle.rules.proofs.Soundness.{compacted-length}
use Rattle.rules.proofs.Typed.{padded-take, padded-said}
use Rattle.arrays.proofs.Sorting.{length_inserted}
use Rattle.objects.specs.Objects.{currency_in}
use Rattle.manifests.specs.Manifests.{manifest_of, manifests_of, older_of}
use Rattle.manifests.proofs.Places as lists
use Rattle.holds.specs.declared.Holds.{Holds}
use Rattle.holds.specs.Holds.{holds_of, lay_holds, is_laid as holds_laid}
use Rattle.holds.proofs.Places as holds
use Rattle.ledger.specs.declared.Ledger.{Ledger}
use Rattle.ledger.specs.Ledger.{view, is_sound}
use Rattle.ledger.specs.Step.{Insertable, others_in}
use Rattle.ledger.proofs.View.{Sized, sound_parts, sound_shape, kept-view}
use Rattle.ledger.proofs.Names.{inserted_absent}

-- the holds that are live then, in their places
abbrev pub live_then : ℕ → Ledger → Holds
live_then t l = lay_holds (live_holds t (view l))

pub live-said : (t : ℕ) (l : Ledger) {hs : Holds} → hs ≡ live_then t l → holds_of hs ≡ live_holds t (view l)
live-said t l e = ap holds_of e ∙ holds.holds-lay (live_holds t (view l))

module _ (l : Ledger) (e : is_sound l ≡ true) where
  pub live_laid : (t : ℕ) → holds_laid (live_then t l) ≡ true
  live_laid t =
      let hs = l.holds in
      holds.lay-laid (keep (live t) (holds_of hs))
      (omega (arith, keep-length (live t) (holds_of hs), length-take hs.count hs.items, holds.few hs (sound_parts l e).holds))

  -- one place is the current manifest's: the others are enough for the older ones
  pub older-few : (hs : Holds) → length (keep (held_by (holds_of hs)) (older_of l.manifests)) ≤ limits.holds
  older-few hs =
      let ms = l.manifests in
      let first = take (ms.count - 1) ms.items in
      omega (arith, keep-length (held_by (holds_of hs)) (older_of ms), length-map first manifest_of, length-take (ms.count - 1) ms.items, lists.few ms (sound_parts l e).manifests)

  -- of all that are kept no more are held than there are live holds, so a new one has its place
  pub held-few : Sized l → (t : ℕ) → length (keep (held_by (holds_of (live_then t l))) (manifests_of l.manifests)) ≤ limits.holds
  held-few s t =
      rw (live-said t l refl, ← kept-view l s (sound_parts l e))
      (kept-few (settle t (view l)) (settle_shape t (view l) (sound_shape l e)))

-- The current list without the objects of one currency, into which that currency's object goes
module _ (l : Ledger) (n : ℕ) where
  abbrev pub other_names : List ℕ
  other_names = others_in l.objects.items (currency_in l.objects.items n) (view l).current.names

  compacted-others : compacted (view l) n ≡ insert n other_names
  unfolding compacted currency_of
  compacted-others = refl

  -- the object has its own currency, so it is not among the others
  absent : has n other_names ≡ false
  absent = ⊎_elim never (λ t. t) (decide (has n other_names))
    where
      never : has n other_names ≡ true → has n other_names ≡ false
      never t =
          let c = currency_in l.objects.items n in
          true-false (eqb c c) (eq-eqb c c refl) (not-true (eqb c c) (keep_in _ (view l).current.names (has_in n other_names t)).1)

  module _ (e : is_sound l ≡ true) (some : row17 (view l) n ≡ false) where
    rising : rising_above 0 other_names ≡ true
    rising =
        let names = (view l).current.names in
        ap (rising_above 0) (sym (map-id other_names))
        ∙ rising-keep (λ (m : ℕ). m) _ 0 names (ap (rising_above 0) (map-id names) ∙ (sound_shape l e).rising _ (current-kept (view l)))

    -- one went out, so there is room for one
    few : length other_names < limits.names
    few =
        omega (
          arith,
          compacted-length (view l) n some,
          ap length compacted-others,
          ap length (inserted_absent 0 n other_names rising absent),
          length_inserted ltb n other_names,
          (sound_shape l e).short _ (current-kept (view l)),
        )

    said : names_of (name_list other_names) ≡ other_names
    said = let h = few in padded-take limits.names other_names (omega arith)

    pub others_insertable : Insertable (name_list other_names) n
    others_insertable =
        let h = few in
        record { padded = padded-said limits.names other_names (omega arith); room = h; rising = rw said rising; absent = rw said absent }

    pub others-compacted : name_list (insert n (names_of (name_list other_names))) ≡ name_list (compacted (view l) n)
    others-compacted = ap (λ (ms : List ℕ). name_list (insert n ms)) said ∙ ap name_list (sym compacted-others)
