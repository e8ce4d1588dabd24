-- A ledger is sound exactly when it is the layout of a sound state (specs/SoundLaw.antt).
-- Assumes nothing.
use mathlib.Core.Path.{◌≡◌, refl, ap, ap₂, ◌∙◌}
use mathlib.Core.Bool.{true}
use mathlib.Core.List.{List, [], ◌∷◌, ◌++◌, map}
use Prim.Native.Nat.{ℕ, ◌-◌}
use native.Mathlib.Omega.{arith}
use borrow.Author.Tests.{eqb-true, eq-eqb}
use lib.ListN.{length, take, get_or, replicate, length-append, length-map}
use lib.Seq.{append_snoc, take-append_seam, get_or-append_seam}
use mir.Val.{Val}
use denote.Laws.{Is}
use Rattle.rules.specs.Limits.{limits, manifest_limit}
use Rattle.rules.specs.State.{Manifest, State, kept}
use Rattle.rules.specs.Sound.{sound}
use Rattle.rules.proofs.Lists.{and_both, all_in, in_all, true-conj}
use Rattle.rules.proofs.Shape.{shape_of}
use Rattle.rules.proofs.Bounds.{nine_enough}
use Rattle.arrays.specs.Arrays.{pad}
use Rattle.arrays.proofs.Lists.{map-append}
use Rattle.objects.proofs.Places as places
use Rattle.manifests.specs.declared.KeptManifest.{KeptManifest}
use Rattle.manifests.specs.Manifests.{lay_manifest, manifest_of, no_manifest, past_end, lay_manifests, current_of, older_of}
use Rattle.manifests.proofs.Places as lists
use Rattle.manifests.proofs.Places.{has_room, of_lay}
use Rattle.holds.proofs.Places as holds
use Rattle.ledger.specs.declared.Ledger.{Ledger}
use Rattle.ledger.specs.Ledger.{lay, view, is_laid_out, is_sound}
use Rattle.ledger.specs.SoundLaw.{Whole, SoundLayout}
use Rattle.ledger.proofs.View.{Sized, sized, sound_parts, sound-view, laid_out}
use Rattle.ledger.specs.contracts.Ledger as ledger

-- The type says what Whole says

whole_sized : (l : Ledger) → Whole l → Sized l
whole_sized l w = record {
  objects = w.objects;
  manifests = record { items = w.manifests; names = in_all has_room l.manifests.items (λ m i. eq-eqb _ _ (w.names m i)) };
  holds = w.holds;
}

pub whole : (l : Ledger) (vs : List Val) → Is ledger.the_row l vs → Whole l
whole l vs is =
    let s = sized l vs is in
    record {
      objects = s.objects;
      manifests = s.manifests.items;
      names = λ m i. eqb-true _ _ (all_in has_room s.manifests.names i);
      holds = s.holds;
    }

-- A layout says its state

module _ (s : State) where
  rest : List KeptManifest
  rest = replicate (manifest_limit limits - length (map lay_manifest (kept s))) no_manifest

  kept-places : (lay_manifests (kept s)).items ≡ map lay_manifest s.older ++ (lay_manifest s.current ∷ rest)
  unfolding pad rest
  kept-places =
      ap (λ (l : List KeptManifest). l ++ rest) (map-append lay_manifest s.older (s.current ∷ []))
      ∙ append_snoc (map lay_manifest s.older) (lay_manifest s.current) rest

  last-place : length (kept s) - 1 ≡ length (map lay_manifest s.older)
  last-place = omega (arith, length-append s.older (s.current ∷ []), length-map s.older lay_manifest)

  older-back : older_of (lay_manifests (kept s)) ≡ s.older
  older-back =
      ap₂ (λ (n : ℕ) (l : List KeptManifest). map manifest_of (take n l)) last-place kept-places
      ∙ ap (map manifest_of) (take-append_seam (map lay_manifest s.older) (lay_manifest s.current ∷ rest)) ∙ each s.older
    where
      each : (ms : List Manifest) → map manifest_of (map lay_manifest ms) ≡ ms
      each [] = refl
      each (m ∷ ms) = ap₂ ◌∷◌ (of_lay m) (each ms)

  current-back : manifest_of (current_of (lay_manifests (kept s))) ≡ s.current
  current-back =
      ap₂ (λ (n : ℕ) (l : List KeptManifest). manifest_of (get_or l n past_end)) last-place kept-places
      ∙ ap manifest_of (get_or-append_seam (map lay_manifest s.older) (lay_manifest s.current) rest past_end) ∙ of_lay s.current

  pub view-lay : view (lay s) ≡ s
  view-lay = λ i. record {
    clock = s.clock;
    highest_collected = s.highest_collected;
    places = s.places;
    older = older-back i;
    current = current-back i;
    holds = holds.holds-lay s.holds i;
  }

  -- a sound state fits its places
  module _ (e : sound limits s ≡ true) where
    pub lay-laid : is_laid_out (lay s) ≡ true
    lay-laid =
        let r = shape_of limits s e in
        let long = length-append s.older (s.current ∷ []) in
        true-conj _ (
          places.lay-laid s.places,
          (lists.lay-laid (kept s) (omega arith) (omega (arith, nine_enough limits s e)) r.short, (holds.lay-laid s.holds r.few, tt)),
        )

    pub lay-sound : is_sound (lay s) ≡ true
    unfolding is_sound
    lay-sound = and_both (is_laid_out (lay s)) _ lay-laid (ap (sound limits) view-lay ∙ e)

pub sound_law : SoundLayout
sound_law = record {
  laid = lay-sound;
  said = view-lay;
  state = sound-view;
  same = λ l w e. laid_out l (whole_sized l w) (sound_parts l e);
}
