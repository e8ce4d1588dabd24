-- Request 6 on what the operations promise, a ledger and a buffer, and demand 3 of a ledger that was saved and loaded. Assumes nothing.
use mathlib.Core.Path.{◌≡◌, refl, ap, subst⁻¹, ◌∙◌}
use mathlib.Core.Logic.{◌⊎◌}
use mathlib.Core.Bool.{Bool, true, false, cond}
use mathlib.Core.List.{List}
use Prim.Native.Nat.{ℕ, ◌≤◌}
use lib.Dec.{ltb}
use lib.ListN.{length, take, drop}
use lib.Seq.{take-append_seam}
use borrow.Author.Tests.{le-ltb}
use Rattle.std.specs.Prelude.{Result, Ok, Err}
use Rattle.std.specs.Result.{result_unwrap_or}
use Rattle.fields.specs.Fields.{over}
use Rattle.rules.specs.Lists.{all, has, rising_above}
use Rattle.rules.specs.Limits.{limits}
use Rattle.rules.specs.State.{fresh}
use Rattle.rules.specs.Words.{stored, listed}
use Rattle.rules.specs.History.{stored_at, listed_at, dead_at}
use Rattle.rules.specs.Demand3.{history_of}
use Rattle.rules.proofs.Soundness.{sound-fresh}
use Rattle.records.specs.RoundTrip.{are_bytes}
use Rattle.ledger.specs.declared.Ledger.{Ledger}
use Rattle.ledger.specs.Ledger.{lay, view, is_sound}
use Rattle.ledger.specs.SoundLaw.{Whole}
use Rattle.ledger.proofs.SoundLaw.{lay-sound}
use Rattle.image.specs.declared.LoadError.{LoadError}
use Rattle.image.specs.declared.LoadError.TheVariants.{Unsound, Malformed}
use Rattle.image.specs.declared.SaveError.TheVariants.{Unsound as NotSound, Full}
use Rattle.image.specs.Image.{image_of}
use Rattle.image.specs.Reading.{ledger_in, is_image, read_of, read_code, ledger_beside}
use Rattle.image.specs.Writing.{Writing, put, writing_of}
use Rattle.image.specs.RoundTrip.{Fits}
use Rattle.image.proofs.RoundTrip.{image_round_trip}
use Rattle.image_history.specs.AfterLoad.{Event, event_fits}
use Rattle.image_history.proofs.AfterLoad.{after_load_lem}
use Rattle.guarantees.specs.Guarantees.{number_on, collect_at, collected_by, loaded_after, led_to}
use Rattle.guarantees.proofs.Sequences as sequences

-- what was written is the image, and the ledger is sound
put_written : (bytes buffer : List ℕ) (n : ℕ) → (put bytes buffer).answer ≡ Ok n → take n (put bytes buffer).buffer ≡ bytes
put_written bytes buffer n = by (ltb (length buffer) (length bytes))
  where
    outcome : Bool → Writing
    outcome b = cond b (record { answer = Err Full; buffer = buffer }) (record { answer = Ok (length bytes); buffer = over bytes buffer })

    by : (b : Bool) → (outcome b).answer ≡ Ok n → take n (outcome b).buffer ≡ bytes
    by true e = absurd cc
    by false e = let same : n ≡ length bytes = cc in ap (λ (k : ℕ). take k (over bytes buffer)) same ∙ take-append_seam bytes (drop (length bytes) buffer)

pub reads_written_lem : (l : Ledger) → Whole l → Fits (view l) → (buffer : List ℕ) (n : ℕ) → (writing_of l buffer).answer ≡ Ok n
    → read_of (take n (writing_of l buffer).buffer) ≡ Ok l
unfolding writing_of
reads_written_lem l w fit buffer n = by (is_sound l) refl
  where
    outcome : Bool → Writing
    outcome b = cond b (put (image_of (view l)) buffer) (record { answer = Err NotSound; buffer = buffer })

    by : (b : Bool) → is_sound l ≡ b → (outcome b).answer ≡ Ok n → read_of (take n (outcome b).buffer) ≡ Ok l
    by true good e = ap read_of (put_written (image_of (view l)) buffer n e) ∙ image_round_trip.reads_written l w fit good
    by false good e = absurd cc

pub writes_read_lem : (l : Ledger) (bytes buffer : List ℕ) → are_bytes bytes ≡ true → read_of bytes ≡ Ok l → length bytes ≤ length buffer
    → writing_of l buffer ≡ record { answer = Ok (length bytes); buffer = over bytes buffer }
unfolding writing_of
writes_read_lem l bytes buffer good e room =
    let w = image_round_trip.writes_read bytes l good e in
    rw w.0 (ap (λ (b : List ℕ). put b buffer) w.1 ∙ rw (le-ltb (length buffer) (length bytes) room))

-- the reader's outcomes
module _ (bytes : List ℕ) where
  abbrev loaded : Ledger
  loaded = ledger_in (drop 3 bytes)

  abbrev Beside : Result Ledger LoadError → Type 0
  Beside r = (read_code r ≡ 0 → ⊥) → result_unwrap_or r (lay fresh) ≡ lay fresh

  pub beside_refusal_lem : Beside (read_of bytes)
  beside_refusal_lem = by (read_of bytes)
    where
      by : (r : Result Ledger LoadError) → Beside r
      by (Ok l) n = absurd (n refl)
      by (Err e) n = refl

  pub read-sound : is_sound (ledger_beside bytes) ≡ true
  unfolding read_of
  read-sound = by (is_image bytes) (is_sound loaded) refl
    where
      outcome : Bool → Bool → Ledger
      outcome b t = result_unwrap_or (cond b (cond t (Ok loaded) (Err Unsound)) (Err Malformed)) (lay fresh)

      by : (b t : Bool) → is_sound loaded ≡ t → is_sound (outcome b t) ≡ true
      by true true e = e
      by true false e = lay-sound fresh (sound-fresh limits)
      by false t e = lay-sound fresh (sound-fresh limits)

-- demand 3, with the history of the steps that led to the ledger
module _ (es : List Event) (fit : all event_fits es ≡ true) where
  pub collects : (t : ℕ) → number_on (loaded_after es) (collect_at t) ≡ 0
      → (rising_above 0 (collected_by t (loaded_after es)) ≡ true) × ((n : ℕ) → has n (collected_by t (loaded_after es)) ≡ dead_at t (history_of (led_to es)) n)
  collects t = subst⁻¹
      (λ (l : Ledger). number_on l (collect_at t) ≡ 0 → (rising_above 0 (collected_by t l) ≡ true) × ((n : ℕ) → has n (collected_by t l) ≡ dead_at t (history_of (led_to es)) n))
      (after_load_lem es fit).ledger (sequences.collects (led_to es) t)

  pub keeps : (t : ℕ) → (loaded_after es).clock ≤ t → (n : ℕ) → (listed_at t (history_of (led_to es)) n ≡ true) ⊎ (listed t (view (loaded_after es)) n ≡ true)
      → (stored_at (history_of (led_to es)) n ≡ true) × (stored (view (loaded_after es)) n ≡ true)
  keeps t le n = subst⁻¹
      (λ (l : Ledger). l.clock ≤ t → (listed_at t (history_of (led_to es)) n ≡ true) ⊎ (listed t (view l) n ≡ true)
      → (stored_at (history_of (led_to es)) n ≡ true) × (stored (view l) n ≡ true))
      (after_load_lem es fit).ledger (λ le. sequences.keeps (led_to es) t le n) le
