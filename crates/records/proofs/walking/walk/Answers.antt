use Rattle.std.proofs.Common.{◌≡◌, ◌∷◌, ◌+◌, ◌≤◌, ◌<◌, List, Some, length, get_or, take, drop, sym, ap, ◌∙◌, arith, length-set, length-drop, length-take}
use Rattle.std.proofs.lemmas.List.{drop_more, drop_all, take_rest, take_more_set}
use Rattle.records.specs.declared.Field.{Field}
use Rattle.records.specs.Format.{inner}
use Rattle.records.specs.Walk.{walk}
use Rattle.records.specs.Found.{held, placed_all}
use Rattle.records.proofs.Fronts.{held-room}
use Rattle.records.proofs.Joined.{joined, joined-field, joined-absent, joined_end, walk-left, walk_none, zeros_next, first-within, placed-within}
use Rattle.records.proofs.walking.walk.Goals.{After-read_field, In_ok-held}
use Rattle.records.proofs.walking.walk.Goals as goal

-- the fields, and the one that the walk comes to
abbrev items : After-read_field → List Field
items c = take c.args.fields.count c.args.fields.items

abbrev field : After-read_field → Field
field c = get_or (items c) c.loop-i.i (inner 0 0 0)

is_front : (c : After-read_field) → c.read_field.result ≡ held (field c) (drop c.loop-i.at c.args.bytes.now)
is_front c = c.read_field.ensures ∙ ap (held (field c)) (take_rest c.args.bytes.now c.loop-i.at)

-- from there on it is this field and those behind it
comes : (c : After-read_field)
    → joined c.args.bytes.now (take c.loop-i.i c.loop-i.numbers) c.loop-i.list (walk (field c ∷ drop (c.loop-i.i + 1) (items c)) (drop c.loop-i.at c.args.bytes.now))
    ≡ walk (items c) c.args.bytes.now
comes c = rw (drop_more (items c) c.loop-i.i (inner 0 0 0) c.loop-i-test.true) at c.loop-i.invariant.found

-- past the test it is there
there : (c : In_ok-held) → held (field (goal.at.In_ok-held c).After-read_field) (drop c.loop-i.at c.args.bytes.now) ≡ Some c.in_ok-held.held
there c = sym (is_front (goal.at.In_ok-held c).After-read_field) ∙ c.in_ok-held.was

room : (c : In_ok-held) → c.loop-i.at + 3 + c.in_ok-held.held.len ≤ length c.args.bytes.now
room c =
    let bytes = c.args.bytes.now in
    omega (arith, held-room (field (goal.at.In_ok-held c).After-read_field) (drop c.loop-i.at bytes) c.in_ok-held.held (there c), length-drop c.loop-i.at bytes)

pub returns-in_err-held-clause-found : goal.returns-in_err-held-clause-found
returns-in_err-held-clause-found c =
    let l = c.loop-i in
    let at = (goal.at.returns-in_err-held-clause-found c).After-read_field in
    let none = sym (is_front at) ∙ c.in_err-held.was in
    rw c.from_residual.ensures (ap placed_all (sym (joined-absent c.args.bytes.now (take l.i l.numbers) l.list (field at) _ l.at none) ∙ comes at))

pub overflow_add-value : goal.overflow_add-value
overflow_add-value c = omega (arith, room c)

pub overflow_add-at : goal.overflow_add-at
overflow_add-at c = omega (arith, room (goal.at.overflow_add-at c).In_ok-held)

pub loop-i-preserved : goal.loop-i-preserved
loop-i-preserved c =
    let l = c.loop-i in
    let bytes = c.args.bytes.now in
    let h = c.in_ok-held.held in
    let ok = (goal.at.loop-i-preserved c).In_ok-held in
    let at = (goal.at.loop-i-preserved c).After-read_field in
    let in_places : l.i < length l.numbers = omega (arith, length-take {A = Field}) in
    record {
      inside = room ok;
      long = length-set l.numbers l.i h.number ∙ l.invariant.long;
      zeros = zeros_next l.numbers l.i h.number (omega arith) l.invariant.zeros;
      place = rw c.first_list-list.ensures (first-within l.list (field at).width (l.at + 3) h.len (length bytes) l.invariant.place (room ok));
      found = rw (take_more_set l.numbers l.i h.number in_places, c.first_list-list.ensures) (sym (joined-field bytes (take l.i l.numbers) l.list (field at) _ l.at h (there ok)) ∙ comes at);
    }

pub returns-then-at-bytes-clause-found : goal.returns-then-at-bytes-clause-found
returns-then-at-bytes-clause-found c =
    let l = c.loop-i in
    let bytes = c.args.bytes.now in
    let items : List Field = take c.args.fields.count c.args.fields.items in
    let left = walk-left (drop l.at bytes) (omega (arith, length-drop l.at bytes)) in
    ap placed_all (rw (drop_all l.i items c.loop-i-test.false, left) at l.invariant.found)

pub returns-clause-found : goal.returns-clause-found
returns-clause-found c =
    let l = c.loop-i in
    let bytes = c.args.bytes.now in
    let items : List Field = take c.args.fields.count c.args.fields.items in
    let all = rw (drop_all l.i items c.loop-i-test.false, drop_all l.at bytes c.if-at-bytes.false, walk_none) at l.invariant.found in
    rw c.unwrap_or-list.ensures (joined_end bytes l.numbers l.list l.i l.invariant.long (omega (arith, length-take {A = Field})) l.invariant.zeros ∙ ap placed_all all)

pub returns-clause-room : goal.returns-clause-room
returns-clause-room c = rw c.unwrap_or-list.ensures (placed-within c.loop-i.list (length c.args.bytes.now) c.loop-i.invariant.place)
