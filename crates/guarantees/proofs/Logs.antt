-- Request 12 by the numbers of a run's endings and of the image reader's answers. Assumes nothing.
use mathlib.Core.Path.{◌≡◌, refl, ap}
use mathlib.Core.Logic.{◌↔◌}
use mathlib.Core.List.{List}
use Prim.Native.Nat.{ℕ}
use native.Mathlib.Omega.{arith}
use lib.ListN.{take}
use Rattle.std.specs.Prelude.{Result, None, Ok, Err}
use Rattle.std.specs.Result.{result_unwrap_or}
use Rattle.rules.specs.State.{fresh}
use Rattle.ledger.specs.declared.Ledger.{Ledger}
use Rattle.ledger.specs.Ledger.{lay, view}
use Rattle.ledger.specs.SoundLaw as ledger
use Rattle.replay.specs.declared.Ending.{Ending}
use Rattle.replay.specs.declared.Ending.TheVariants.{Whole, Torn, Full}
use Rattle.replay.specs.Replay.{ending_code, replay_of}
use Rattle.image.specs.declared.LoadError.{LoadError}
use Rattle.image.specs.declared.LoadError.TheVariants.{Unsound, Malformed}
use Rattle.image.specs.Reading.{read_of, read_code, error_number, ledger_beside}
use Rattle.image.specs.Writing.{writing_of}
use Rattle.image.specs.RoundTrip.{Fits}
use Rattle.log_check.specs.Check.{checked_of}
use Rattle.log_check.specs.Exact.{own_log}
use Rattle.log_check.specs.Image.{answered_from}
use Rattle.log_check.proofs.Exact.{log_checked}
use Rattle.guarantees.proofs.Images.{reads_written_lem}

-- an ending by its number
is_whole_lem : (e : Ending) → ending_code e ≡ 0 → e ≡ Whole
is_whole_lem Whole q = refl
is_whole_lem Torn q = absurd (omega (arith, q))
is_whole_lem Full q = absurd (omega (arith, q))

is_torn_lem : (e : Ending) → ending_code e ≡ 1 → e ≡ Torn
is_torn_lem Whole q = absurd (omega (arith, q))
is_torn_lem Torn q = refl
is_torn_lem Full q = absurd (omega (arith, q))

pub whole : (l : Ledger) (trace log out : List ℕ) → ending_code (replay_of l trace out).answer.ending ≡ 0 → (checked_of l trace log ≡ None) ↔ (log ≡ own_log l trace out)
whole l trace log out e = (log_checked l trace log).whole out (is_whole_lem _ e)

pub torn : (l : Ledger) (trace log out : List ℕ) → ending_code (replay_of l trace out).answer.ending ≡ 1 → checked_of l trace log ≡ None → ⊥
torn l trace log out e = (log_checked l trace log).torn out (is_torn_lem _ e)

pub refused_image_lem : (image trace log : List ℕ) → (read_code (read_of image) ≡ 0 → ⊥)
    → (e : LoadError) × (answered_from (read_of image) trace log ≡ Err e) × (error_number e ≡ read_code (read_of image))
refused_image_lem image trace log = by (read_of image)
  where
    by : (r : Result Ledger LoadError) → (read_code r ≡ 0 → ⊥) → (e : LoadError) × (answered_from r trace log ≡ Err e) × (error_number e ≡ read_code r)
    by (Ok l) h = absurd (h refl)
    by (Err e) h = (e, refl, refl)

pub read_image_lem : (image trace log : List ℕ) → read_code (read_of image) ≡ 0 → answered_from (read_of image) trace log ≡ Ok (checked_of (ledger_beside image) trace log)
read_image_lem image trace log = by (read_of image)
  where
    by : (r : Result Ledger LoadError) → read_code r ≡ 0 → answered_from r trace log ≡ Ok (checked_of (result_unwrap_or r (lay fresh)) trace log)
    by (Ok l) h = refl
    by (Err Unsound) h = absurd (omega (arith, h))
    by (Err Malformed) h = absurd (omega (arith, h))

pub saved_image_lem : (l : Ledger) → ledger.Whole l → Fits (view l) → (room : List ℕ) (n : ℕ) → (writing_of l room).answer ≡ Ok n → (trace log : List ℕ)
    → answered_from (read_of (take n (writing_of l room).buffer)) trace log ≡ Ok (checked_of l trace log)
saved_image_lem l w fit room n e trace log = ap (λ (r : Result Ledger LoadError). answered_from r trace log) (reads_written_lem l w fit room n e)
