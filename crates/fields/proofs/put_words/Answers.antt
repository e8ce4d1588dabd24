use Rattle.std.proofs.Common.{◌≡◌, ◌+◌, ◌*◌, ◌-◌, append_assoc, append-nil, arith}
use Rattle.std.proofs.Math.Seq.{take_all}
use Rattle.std.proofs.lemmas.Slice.{take-put_mid}
use borrow.Rule.Slice.PartMut.{mid_len}
use Rattle.fields.proofs.Bytes.{words-from, words_end}
use Rattle.fields.proofs.put_words.Goals as goal

pub loop-i-preserved : goal.loop-i-preserved
loop-i-preserved c =
    let l = c.loop-i in
    let list = c.args.list.now in
    let a = 8 * l.i in
    let put = c.put_number in
    let size : a + 8 - a ≡ 8 = omega arith in
    let part = mid_len a (a + 8) l.out (omega arith) in
    rw (take-put_mid a (a + 8 - a) l.out put.new.out (8 * (l.i + 1)) (omega (arith, put.auto.out, part)) (omega arith), put.ensures, part, size, append_assoc) (rw (words-from list l.i (omega arith)) at l.invariant)

pub returns : goal.returns
returns c =
    let l = c.loop-i in
    rw (words_end c.args.list.now l.i (omega arith), append-nil, take_all (8 * l.i) l.out (omega arith)) at l.invariant
