use Rattle.std.proofs.Common.{◌*◌, length, drop, append-nil, arith}
use Rattle.std.proofs.Math.Seq.{take_all, append_snoc}
use Rattle.std.proofs.lemmas.List.{take_more_set}
use Rattle.fields.proofs.Bytes.{words_of-from, words_of_end}
use Rattle.fields.proofs.read_words.Goals as goal

pub loop-i-preserved : goal.loop-i-preserved
loop-i-preserved c =
    let l = c.loop-i in
    rw (take_more_set l.list l.i c.eight.result (omega arith), append_snoc, c.eight.ensures) (rw (words_of-from (length c.args.list.now) l.i c.args.s.now (omega arith)) at l.invariant)

pub returns : goal.returns
returns c =
    let l = c.loop-i in
    let a = c.args in
    rw (words_of_end (length a.list.now) l.i (drop (8 * l.i) a.s.now) (omega arith), append-nil, take_all l.i l.list (omega arith)) at l.invariant
