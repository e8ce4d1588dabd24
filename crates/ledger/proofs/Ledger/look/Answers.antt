-- `Ledger::look` meets its contract: the highest number of that currency in the manifest that is read.
-- Assumes nothing.
use mathlib.Core.Path.{refl, sym, ◌∙◌}
use mathlib.Core.List.{[]}
use native.Mathlib.Omega.{arith}
use lib.Seq.{length-take-le}
use Rattle.rules.specs.declared.Kind.TheVariants.{Look as LOOK}
use Rattle.ledger.specs.Ledger.{view}
use Rattle.ledger.proofs.Door.{turned_away}
use Rattle.ledger.proofs.HoldSteps.{read-room, look_away, look_none, look-found}
use Rattle.rules.proofs.Refusals.{not_0}
use Rattle.ledger.proofs.Ledger.look.Goals as goal

pub returns-in-Err : goal.returns-in-Err
returns-in-Err c =
    let w = c in
    let st = c in
    let s = st.args in
    c.refused.ensures
    ∙ turned_away s.self s.time (LOOK s.currency s.hold) [] st.requires _
    (look_away (view s.self) s.time s.currency s.hold _ w.in-Err.ensures (not_0 c.in-Err.refusal)) (not_0 c.in-Err.refusal)

pub shared_ref_as_front-names : goal.shared_ref_as_front-names
shared_ref_as_front-names c =
    omega (arith, read-room c.args.self c.requires.is_sound c.args.time c.args.hold c.read_by-m.ensures)

pub slice_bounds-names-end : goal.slice_bounds-names-end
slice_bounds-names-end c =
    let m = c in
    let st = c in
    sym (length-take-le _ _ (read-room st.args.self st.requires.is_sound st.args.time st.args.hold m.read_by-m.ensures))

pub returns-then-found-eq0 : goal.returns-then-found-eq0
returns-then-found-eq0 c =
    let h = c in
    let m = c in
    let n = c in
    let w = c in
    let st = c in
    let s = st.args in
    c.refused-then-found-eq0.ensures
    ∙ turned_away s.self s.time (LOOK s.currency s.hold) [] st.requires 16
    (look_none s.self st.requires.is_sound s.time s.currency s.hold m.read_by-m.ensures h.highest-found.result h.highest-found.ensures _ w.in_default.ensures refl
    c.if-found-eq0.true)
    (λ z. omega (arith, z))

pub returns : goal.returns
returns c =
    let e = c in
    let h = c in
    let m = c in
    let n = c in
    let w = c in
    let st = c in
    let s = st.args in
    c.accepted.ensures
    ∙ look-found s.self st.requires.is_sound s.time s.currency s.hold m.read_by-m.ensures h.highest-found.result h.highest-found.ensures _ w.in_default.ensures refl st.requires
    e.if-found-eq0.false c.settled-self.ensures
