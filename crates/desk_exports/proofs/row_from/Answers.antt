use Rattle.std.proofs.Common.{◌≡◌, ◌<◌, ◌≤◌, ◌*◌, zero, suc, ℕ, List, set, get_or, take, drop, refl, sym, ap, ap₂, ◌∙◌, ◌++◌, length, arith, add-one, take-append-drop}
use Rattle.std.proofs.Math.Seq.{take-set-lt}
use Rattle.std.proofs.lemmas.List.{drop-set-lt, length-take-le}
use Rattle.desk.specs.Card.{row_limit}
use Rattle.desk.specs.declared.Entry.{Entry}
use Rattle.desk_exports.specs.Calls.{blank, narrow, row_from}
use Rattle.desk_exports.proofs.row_from.Goals as goal

-- the entries from place m on stay blank
rest : (n m : ℕ) (card : List ℕ) → n ≤ m → drop m (row_from n card) ≡ drop m (row_from 0 card)
unfolding row_from
rest zero m card h = refl
rest (suc n) m card h = drop-set-lt m (row_from n card) n _ (omega arith) ∙ rest n m card (omega arith)

-- one entry more of the first m
next : (n m : ℕ) (card : List ℕ) → n < m → set (take m (row_from n card)) n (blank (narrow (get_or card (3 * n) 0))) ≡ take m (row_from (suc n) card)
unfolding row_from
next n m card h = sym (take-set-lt m (row_from n card) n _ h)

pub loop-i-init : goal.loop-i-init
unfolding row_from
loop-i-init c = refl

long : (c : List ℕ) (n : ℕ) → n ≤ row_limit → length (take n (row_from 0 c)) ≡ n
unfolding row_from
long c n h = length-take-le n (row_from 0 c) h

pub loop-i-preserved : goal.loop-i-preserved
unfolding row_from
loop-i-preserved c =
    let l = c.loop-i in
    let card = c.args.card.now in
    let within : l.i < c.args.count = omega (arith, long card c.args.count c.requires.0) in
    rw (c.narrow_currency.ensures, add-one)
    (ap (λ (es : List Entry). set es l.i (blank (narrow (get_or card (3 * l.i) 0)))) l.invariant ∙ next l.i c.args.count card within)

pub returns : goal.returns
unfolding row_from
returns c =
    let l = c.loop-i in
    let card = c.args.card.now in
    let n = c.args.count in
    let all : l.i ≡ n = omega (arith, long card n c.requires.0) in
    let first : l.entry-items ≡ take n (row_from n card) = rw all at l.invariant in
    ap₂ ◌++◌ first (sym (rest n n card (omega arith))) ∙ take-append-drop n (row_from n card)
