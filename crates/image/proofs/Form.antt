-- The claims of specs/Form.antt. Assumes nothing.
use Rattle.image.specs.Form.{ImageForm}
use Rattle.image.proofs.ReadsWritten.{formed}
use Rattle.image.proofs.WritesRead.{refuses}

pub image_form : ImageForm
image_form = record { formed = formed; refuses = refuses }
