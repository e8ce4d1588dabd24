-- What a turn reads stands behind what the turns before it read.
-- Assumes nothing.
use Rattle.std.proofs.Common.{rules, subst}
use Rattle.std.specs.Io.KnownBytes.{Consumes}
use Rattle.std.proofs.KnownBytes.{Consumes-trans}
use Rattle.terminal.proofs.Parts.{front-put_mid}
use Rattle.terminal.proofs.read_open.Goals as goal

pub loop-done-preserved : goal.loop-done-preserved
loop-done-preserved g c =
    let read = Consumes-trans _ _ _ _ _ c.loop-done.invariant.2 c.in_ok-n.ensures.bytes.0 in
    (search rules, search rules, subst (Consumes _ _) (front-put_mid _ _ _ _ _ c.loop-done.invariant.1 c.in_ok-n.ensures.bound.0) read)
