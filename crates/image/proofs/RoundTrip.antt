-- The claims of specs/RoundTrip.antt. Assumes nothing.
use mathlib.Core.Path.{◌≡◌, refl, sym, ap, ◌∙◌}
use mathlib.Core.Logic.{◌⊎◌, inl, inr}
use mathlib.Core.Bool.{Bool, true, false}
use mathlib.Core.List.{List}
use Prim.Native.Nat.{ℕ, ◌*◌}
use native.Mathlib.Omega.{arith}
use lib.ListN.{length, drop}
use Rattle.std.specs.Prelude.{Ok, Err}
use Rattle.rules.specs.Limits.{limits, manifest_limit}
use Rattle.rules.specs.State.{State, fresh, objects, kept}
use Rattle.rules.specs.Sound.{sound}
use Rattle.records.specs.RoundTrip.{are_bytes}
use Rattle.ledger.specs.declared.Ledger.{Ledger}
use Rattle.ledger.specs.Ledger.{lay, view, is_sound}
use Rattle.ledger.specs.SoundLaw.{Whole}
use Rattle.ledger.proofs.View.{sound-view}
use Rattle.ledger.proofs.SoundLaw.{sound_law}
use Rattle.image.specs.declared.LoadError.TheVariants.{Unsound, Malformed}
use Rattle.image.specs.Image.{image_of}
use Rattle.image.specs.Reading.{ledger_in, is_image, read_of, ledger_beside}
use Rattle.image.specs.RoundTrip.{Fits, names_of, longest_image, ImageRoundTrip}
use Rattle.image.proofs.Heads.{refused-by, image_refused, image_read}
use Rattle.image.proofs.Lengths.{image_size, image_longest}
use Rattle.image.proofs.ReadsWritten.{reads_written_lem}
use Rattle.image.proofs.WritesRead.{read_fits, writes_read_lem}

reads : (l : Ledger) → Whole l → Fits (view l) → is_sound l ≡ true → read_of (image_of (view l)) ≡ Ok l
reads l w fit e = reads_written_lem (view l) (sound-view l e) fit ∙ ap (λ (m : Ledger). Ok m) (sound_law.same l w e)

met : (s : State) → length (objects s) ≡ limits.places → length (kept s) ≡ manifest_limit limits → names_of (kept s) ≡ limits.names * manifest_limit limits → length s.holds ≡ limits.holds
    → length (image_of s) ≡ longest_image
met s a b c d = omega (arith, image_size s, a, b, c, d)

one : (bs cs : List ℕ) (l : Ledger) → are_bytes bs ≡ true → are_bytes cs ≡ true → read_of bs ≡ Ok l → read_of cs ≡ Ok l → bs ≡ cs
one bs cs l x y e f = sym (writes_read_lem bs l x e).1 ∙ (writes_read_lem cs l y f).1

refuses : (bs : List ℕ) → are_bytes bs ≡ true → ((s : State) → sound limits s ≡ true → Fits s → image_of s ≡ bs → ⊥)
    → ((read_of bs ≡ Err Unsound) ⊎ (read_of bs ≡ Err Malformed)) × (ledger_beside bs ≡ lay fresh)
refuses bs bytes never = by (is_image bs) (is_sound l) refl refl
  where
    l : Ledger
    l = ledger_in (drop 3 bs)

    by : (b t : Bool) → is_image bs ≡ b → is_sound (ledger_in (drop 3 bs)) ≡ t → ((read_of bs ≡ Err Unsound) ⊎ (read_of bs ≡ Err Malformed)) × (ledger_beside bs ≡ lay fresh)
    by true true e f = let r = image_read bs e f in absurd (never (view l) (sound-view l f) (read_fits bs l bytes r) (writes_read_lem bs l bytes r).1)
    by true false e f = let r = image_refused bs e f in (inl r, rw (ledger_beside, r))
    by false t e f = let r = refused-by bs e in (inr r, rw (ledger_beside, r))

pub image_round_trip : ImageRoundTrip
image_round_trip = record {
  reads_written = reads;
  writes_read = writes_read_lem;
  fits = read_fits;
  refuses = refuses;
  one = one;
  size = image_size;
  longest = image_longest;
  met = met;
  longest_is = refl;
}
