-- `Ledger::list` meets its contract: the names of the manifest that is read.
-- Assumes nothing.
use mathlib.Core.Path.{refl, sym, ◌∙◌}
use mathlib.Core.List.{[]}
use native.Mathlib.Omega.{arith}
use lib.Seq.{length-take-le}
use Rattle.rules.specs.declared.Kind.TheVariants.{List as LIST}
use Rattle.ledger.specs.Ledger.{view}
use Rattle.ledger.proofs.Door.{turned_away}
use Rattle.ledger.proofs.Live.{live-rows}
use Rattle.ledger.proofs.HoldSteps.{read-room, listed}
use Rattle.rules.proofs.Refusals.{not_0}
use Rattle.ledger.proofs.Ledger.list.Goals as goal

pub returns-in-Err : goal.returns-in-Err
returns-in-Err c =
    let w = c in
    let st = c in
    let s = st.args in
    c.refused.ensures
    ∙ turned_away s.self s.time (LIST s.hold) [] st.requires _ (w.in-Err.ensures ∙ sym (live-rows (view s.self) s.time s.hold 0).2) (not_0 c.in-Err.refusal)

pub shared_ref_as_front-names : goal.shared_ref_as_front-names
shared_ref_as_front-names c =
    omega (arith, read-room c.args.self c.requires.is_sound c.args.time c.args.hold c.read_by-m.ensures)

pub slice_bounds-names-end : goal.slice_bounds-names-end
slice_bounds-names-end c =
    let m = c in
    let st = c in
    sym (length-take-le _ _ (read-room st.args.self st.requires.is_sound st.args.time st.args.hold m.read_by-m.ensures))

pub returns : goal.returns
returns c =
    let o = c in
    let m = c in
    let n = c in
    let w = c in
    let st = c in
    let s = st.args in
    listed s.self s.time s.hold st.requires _ (w.in_default.ensures ∙ sym (live-rows (view s.self) s.time s.hold 0).2) refl
    m.read_by-m.ensures o.object_list-list.ensures c.settled-self.ensures
