-- `verdicts::verdict_of` meets its contract: the cases are those of the definition, and a list that is too long makes no verdict.
-- Assumes nothing.
use Rattle.std.proofs.Common.{◌≡◌, ◌||◌, ◌∙◌, List, ℕ, eqb, length, drop, get_or, replicate, sym, ap, ap₂, arith}
use Rattle.std.proofs.Math.Bool.{and-false}
use Rattle.std.proofs.Math.Seq.{take_at, length-take-le}
use Rattle.std.proofs.lemmas.List.{take_rest}
use Rattle.std.specs.Bool.{then_some}
use Rattle.fields.specs.Bytes.{words_of}
use Rattle.fields.proofs.Bytes.{length-words_of}
use Rattle.rules.specs.Limits.{limits}
use Rattle.verdicts.specs.Verdicts.{verdict_formed, is_alone, answer_from}
use Rattle.records.proofs.Listed.{objects_read_lem}
use Rattle.verdicts.proofs.Replies.{verdict_long, reply-read}
use Rattle.verdicts.proofs.verdict_of.Goals.{After-is_formed, After-read_words, Start, then-count-gt-PLACES-via-then-count-gt-PLACES, then-count-gt-PLACES-via-else-count-gt-PLACES+then-not-code_fits}
use Rattle.verdicts.proofs.verdict_of.Goals as goal

-- the list that the bytes say
abbrev list : Start → List ℕ
list c = words_of c.args.w.list.count (drop c.args.w.list.at c.args.value.now)

-- it was read, and is as long as it should be
words : (c : After-read_words) → c.read_words.new.list ≡ list (goal.at.After-read_words c).Start
words c =
    let w = c.args.w in
    c.read_words.ensures ∙ ap₂ words_of (length-take-le w.list.count (replicate limits.places 0) (omega arith)) (take_rest c.args.value.now w.list.at)

long : (c : After-read_words) → length c.read_words.new.list ≡ c.args.w.list.count
long c = ap length (words c) ∙ length-words_of c.args.w.list.count (drop c.args.w.list.at c.args.value.now)

-- the answer with that list was tested
tested : (c : After-is_formed) → c.is_formed.result ≡ verdict_formed (answer_from c.args.shape c.args.w.numbers) (list (goal.at.After-is_formed c).Start)
tested c =
    let r = c.read_words.new.list in
    let n = c.args.w.list.count in
    c.is_formed.ensures ∙ ap₂ verdict_formed c.answer_from-answer.ensures (take_at r (drop n (replicate limits.places 0)) n (long (goal.at.After-is_formed c).After-read_words) ∙ words (goal.at.After-is_formed c).After-read_words)

pub returns-then-count-gt-PLACES : goal.returns-then-count-gt-PLACES
returns-then-count-gt-PLACES c =
    let w = c.args.w in
    let shape = c.args.shape in
    let l = list (goal.at.returns-then-count-gt-PLACES c).Start in
    let fits = is_alone shape || eqb (get_or w.numbers 0 0) 0 in
    elim c.then-count-gt-PLACES.branch [
      | then-count-gt-PLACES-via-then-count-gt-PLACES u ↦ rw (reply-read shape w.numbers l, verdict_long (answer_from shape w.numbers) l (omega (arith, length-words_of w.list.count (drop w.list.at c.args.value.now))), and-false fits)
      | then-count-gt-PLACES-via-else-count-gt-PLACES+then-not-code_fits u ↦ rw (reply-read shape w.numbers l, sym u.code_fits.ensures ∙ u.if-not-code_fits.true)
    ]

pub returns : goal.returns
returns c =
    let w = c.args.w in
    let l = list (goal.at.returns c).Start in
    let read = objects_read_lem w.list.count c.read_words.new.list (drop w.list.at c.args.value.now) (words (goal.at.returns c).After-read_words) (omega arith) in
    rw (reply-read c.args.shape w.numbers l, sym c.code_fits.ensures ∙ c.if-not-code_fits.false)
    (c.then_some.ensures ∙ ap₂ then_some (tested (goal.at.returns c).After-is_formed) (λ i. record { answer = c.answer_from-answer.ensures i; list = read i }))
