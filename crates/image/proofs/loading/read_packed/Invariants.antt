-- `image::loading::read_packed` meets its contract: what was read and what is left say what all says (`Filling`).
-- Assumes nothing.
use Rattle.image.proofs.Filling.{Filling}
use Rattle.image.proofs.loading.read_packed.Given as goal

abbrev pub invariant-loop-i : goal.invariant-loop-i
invariant-loop-i g l = Filling (λ p bs. g.T.Packed.front bs) l.initial.places l.s l.i l.at l.places
