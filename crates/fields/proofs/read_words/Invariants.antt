-- `fields::read_words` meets its contract. The invariant: what is filled, and then the numbers of the bytes from i on, are the numbers of all.
-- Assumes nothing.
use Rattle.std.proofs.Common.{◌≡◌, ◌++◌, ◌*◌, ◌-◌, length, take, drop}
use Rattle.fields.specs.Bytes.{words_of}
use Rattle.fields.proofs.read_words.Given as goal

abbrev pub invariant-loop-i : goal.invariant-loop-i
invariant-loop-i l = take l.i l.list ++ words_of (length l.initial.list - l.i) (drop (8 * l.i) l.s) ≡ words_of (length l.initial.list) l.s
