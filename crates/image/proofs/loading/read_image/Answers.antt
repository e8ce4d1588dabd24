-- `image::loading::read_image` meets its contract: the form first, then the ledger. Assumes nothing.
use Rattle.std.proofs.Common.{◌≡◌, Err, sym, ap, ◌∙◌, List, ℕ, Result, drop}
use Rattle.std.specs.Result.{result_unwrap_or}
use Rattle.std.specs.Option.{option_map_or}
use Rattle.image.proofs.Laying.{tail}
use Rattle.rules.specs.State.{fresh}
use Rattle.ledger.specs.declared.Ledger.{Ledger}
use Rattle.ledger.specs.Ledger.{lay}
use Rattle.image.specs.declared.LoadError.{LoadError}
use Rattle.image.specs.declared.LoadError.TheVariants.{Malformed}
use Rattle.image.specs.Reading.{sound_or, read_of, ledger_beside}
use Rattle.image.specs.Code.{rows_read}
use Rattle.image.proofs.Heads.{not-whole, not_tagged, head-there}
use Rattle.image.proofs.loading.read_image.Goals.{Else-bytes-ne-IMAGE_TAG, then-not-is_whole-via-then-not-is_whole, then-not-is_whole-via-else-not-is_whole+then-bytes-ne-IMAGE_TAG}
use Rattle.image.proofs.loading.read_image.Goals as goal

-- what is answered is what the rows behind the head say
reads : (c : Else-bytes-ne-IMAGE_TAG) → read_of c.args.bytes.now ≡ option_map_or sound_or (rows_read (drop 3 c.args.bytes.now)) (Err Malformed)
reads c = head-there c.args.bytes.now (sym c.if-not-is_whole.ensures) c.if-bytes-ne-IMAGE_TAG.false

-- so is what stands beside it
beside : (bs : List ℕ) (r : Result Ledger LoadError) → r ≡ read_of bs → result_unwrap_or r (lay fresh) ≡ ledger_beside bs
beside bs r is = ap (λ (q : Result Ledger LoadError). result_unwrap_or q (lay fresh)) is

pub returns-then-not-is_whole-clause-is : goal.returns-then-not-is_whole-clause-is
returns-then-not-is_whole-clause-is c =
    elim c.then-not-is_whole.branch [
      | then-not-is_whole-via-then-not-is_whole w ↦ sym (not-whole c.args.bytes.now (sym c.is_whole.ensures ∙ w.if-not-is_whole.true))
      | then-not-is_whole-via-else-not-is_whole+then-bytes-ne-IMAGE_TAG w ↦ sym (not_tagged c.args.bytes.now w.if-bytes-ne-IMAGE_TAG.true)
    ]

pub returns-in_default-clause-is : goal.returns-in_default-clause-is
returns-in_default-clause-is c = rw (reads (goal.at.returns-in_default-clause-is c).Else-bytes-ne-IMAGE_TAG, ← tail 3 c.args.bytes.now, sym c.in_default.ensures)

pub returns-then-not-is_sound-clause-is : goal.returns-then-not-is_sound-clause-is
returns-then-not-is_sound-clause-is c = rw (reads (goal.at.returns-then-not-is_sound-clause-is c).Else-bytes-ne-IMAGE_TAG, ← tail 3 c.args.bytes.now, sym c.in-Some.ensures, sym c.if-not-is_sound.ensures)

pub returns-clause-is : goal.returns-clause-is
returns-clause-is c = rw (reads (goal.at.returns-clause-is c).Else-bytes-ne-IMAGE_TAG, ← tail 3 c.args.bytes.now, sym c.in-Some.ensures, sym c.if-not-is_sound.ensures)

pub returns-then-not-is_whole-clause-beside : goal.returns-then-not-is_whole-clause-beside
returns-then-not-is_whole-clause-beside c = beside c.args.bytes.now _ (returns-then-not-is_whole-clause-is c)

pub returns-in_default-clause-beside : goal.returns-in_default-clause-beside
returns-in_default-clause-beside c = beside c.args.bytes.now _ (returns-in_default-clause-is c)

pub returns-then-not-is_sound-clause-beside : goal.returns-then-not-is_sound-clause-beside
returns-then-not-is_sound-clause-beside c = beside c.args.bytes.now _ (returns-then-not-is_sound-clause-is c)

pub returns-clause-beside : goal.returns-clause-beside
returns-clause-beside c = beside c.args.bytes.now _ (returns-clause-is c)
