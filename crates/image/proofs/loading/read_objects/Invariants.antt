-- `image::loading::read_objects` meets its contract: what was read and what is left say what all says (`Places`).
-- Assumes nothing.
use Rattle.image.proofs.Filling.{Places}
use Rattle.image.proofs.loading.read_objects.Given as goal

abbrev pub invariant-loop-place : goal.invariant-loop-place
invariant-loop-place l = Places l.s l.place l.at l.objects
