-- `fields::put_words` meets its contract. The invariant: what is written, and then the numbers from i on, are the bytes of all.
-- Assumes nothing.
use Rattle.std.proofs.Common.{◌≡◌, ◌++◌, ◌*◌, take, drop}
use Rattle.fields.specs.Bytes.{words}
use Rattle.fields.proofs.put_words.Given as goal

abbrev pub invariant-loop-i : goal.invariant-loop-i
invariant-loop-i l = take (8 * l.i) l.out ++ words (drop l.i l.list) ≡ words l.list
