use Rattle.std.proofs.Common.{◌≡◌, ◌<◌, ◌++◌, length, take, drop, length-append, arith, take-append-drop, ◌∙◌, sym, ap}
use Rattle.std.proofs.lemmas.List.{length-take-le, set-append_left}
use Rattle.std.proofs.Math.ListN.{get_or-append}
use Rattle.desk.specs.Card.{filled}
use Rattle.desk.proofs.Progress.{starts, refuses, steps, stops}
use Rattle.desk.proofs.fill_card.Goals as goal

pub returns-then-card-count : goal.returns-then-card-count
returns-then-card-count c =
    let a = c.args in
    refuses a.time a.hold a.count a.ledger a.card.now c.if-card-count.true

pub loop-entry-init : goal.loop-entry-init
loop-entry-init c =
    let a = c.args in
    rw (take-append-drop a.count a.card.now) (starts a.time a.hold a.count a.ledger a.card.now)

pub loop-entry-preserved : goal.loop-entry-preserved
loop-entry-preserved c =
    let a = c.args in
    let l = c.loop-entry in
    let first : length (take a.count a.card.now) ≡ a.count = length-take-le a.count a.card.now c.if-card-count.false in
    let beyond = drop a.count a.card.now in
    let within : l.entry-index < length l.entry-items = omega arith in
    let is = c.fill_entry-next.ensures ∙ ap (filled l.next a.time a.hold) (sym (get_or-append l.entry-items beyond _ l.entry-index within)) in
    rw (← set-append_left)
    (steps a.time a.hold a.count a.ledger a.card.now l.entry-index l.next (l.entry-items ++ beyond) _ l.invariant (omega arith) (omega (arith, length-append l.entry-items beyond)) (record { entry = c.fill_entry-next.new.entry; ledger = c.fill_entry-next.result }) is)

pub returns : goal.returns
returns c =
    let a = c.args in
    let l = c.loop-entry in
    let first : length (take a.count a.card.now) ≡ a.count = length-take-le a.count a.card.now c.if-card-count.false in
    stops a.time a.hold a.count a.ledger a.card.now c.if-card-count.false l.entry-index l.next (l.entry-items ++ drop a.count a.card.now) l.invariant (omega arith)
