-- `image::saving::write_image` meets its contract: unsound, then full, else all of the image. Assumes nothing.
use Rattle.std.proofs.Common.{◌≡◌, true, sym, ◌∙◌, arith}
use Rattle.ledger.specs.Ledger.{is_sound}
use Rattle.image.proofs.Results.{write-unsound, write-full, write-put}
use Rattle.image.proofs.saving.write_image.Goals.{Else-not-is_sound}
use Rattle.image.proofs.saving.write_image.Goals as goal

sound : (c : Else-not-is_sound) → is_sound c.args.ledger ≡ true
sound c = sym c.is_sound.ensures ∙ c.if-not-is_sound.false

pub returns-then-not-is_sound : goal.returns-then-not-is_sound
returns-then-not-is_sound c = write-unsound c.args.ledger c.args.out.now (sym c.is_sound.ensures ∙ c.if-not-is_sound.true)

pub returns-then-out-size : goal.returns-then-out-size
returns-then-out-size c = write-full c.args.ledger c.args.out.now (sound (goal.at.returns-then-out-size c).Else-not-is_sound) (omega (arith, c.size_of-size.ensures, c.if-out-size.true))

pub returns : goal.returns
returns c =
    write-put c.args.ledger c.args.out.now c.put_image.new.out c.size_of-size.result (sound (goal.at.returns c).Else-not-is_sound) c.size_of-size.ensures (omega (arith, c.if-out-size.false)) c.put_image.ensures
