-- `Ledger::commit_row` meets its contract: rows 4 to 8 in their order.
-- Assumes nothing.
use mathlib.Core.Path.{refl, ◌≡◌, sym, ap, ◌∙◌}
use mathlib.Core.Bool.{not}
use Prim.Native.Nat.{ℕ}
use Rattle.rules.specs.Typed.{names_of}
use Rattle.rules.specs.Refusals.{number, row_of}
use Rattle.rules.specs.Words.{stored}
use Rattle.manifests.specs.declared.KeptManifest.{KeptManifest}
use Rattle.rules.specs.Table.{fence_row, slot_row}
use Rattle.ledger.specs.Ledger.{view}
use Rattle.ledger.proofs.View.{sound_parts}
use Rattle.ledger.proofs.Live.{commit-rows}
use Rattle.ledger.proofs.StoreSteps.{fenced_rows, fence-stop, slot-stop, slot_pass}
use Rattle.std.proofs.lemmas.Result.{err_from_is_err_and}
use Rattle.rules.proofs.Refusals.{not_0}
use Rattle.ledger.proofs.Ledger.commit_row.Goals.{In_ok-fence_row, After-fence_row, After-slot_row, In_ok-slot_row}
use Rattle.ledger.proofs.Ledger.commit_row.Goals as goal

pub current-current-requires : goal.current-current-requires
current-current-requires c = (sound_parts _ c.requires.0).manifests

-- rows 4 and 5
fenced : (c : After-fence_row) → let s = c.args in row_of c.fence_row.result ≡ fence_row (view s.self).current.writer_epoch s.epoch
fenced c =
    let s = c.args in
    c.fence_row.ensures ∙ ap (λ (m : KeptManifest). fence_row m.writer s.epoch) c.current-current.ensures

pub returns-in_err-fence_row : goal.returns-in_err-fence_row
returns-in_err-fence_row c t =
    let s = c.args in
    let l = view s.self in
    let p = err_from_is_err_and c.from_residual.result c.from_residual.ensures.1 in
    let r = c.in_err-fence_row.field-0.0 in
    let here : number r ≡ fence_row l.current.writer_epoch s.epoch = sym (ap row_of c.in_err-fence_row.was) ∙ fenced (goal.at.returns-in_err-fence_row c).After-fence_row in
    rw (p.1, p.2) (fence-stop l l.current.writer_epoch s.epoch s.slot _ here (not_0 r) ∙ sym (commit-rows l t s.epoch s.slot (names_of s.list)))

-- past rows 4 and 5
fence_passed : (c : In_ok-fence_row) → 0 ≡ fence_row (view c.args.self).current.writer_epoch c.args.epoch
fence_passed c = sym (ap row_of c.in_ok-fence_row.was) ∙ fenced (goal.at.In_ok-fence_row c).After-fence_row

-- rows 6 and 7
slotted : (c : After-slot_row) → let s = c.args in row_of c.slot_row.result ≡ slot_row (view s.self).current.number s.slot
slotted c =
    let b = c in
    let s = b.args in
    c.slot_row.ensures ∙ ap (λ (m : KeptManifest). slot_row m.number s.slot) b.current-current.ensures

pub returns-in_err-slot_row : goal.returns-in_err-slot_row
returns-in_err-slot_row c t =
    let s = c.args in
    let l = view s.self in
    let p = err_from_is_err_and c.from_residual-in_err-slot_row.result c.from_residual-in_err-slot_row.ensures.1 in
    let r = c.in_err-slot_row.field-0.0 in
    let here : number r ≡ slot_row l.current.number s.slot = sym (ap row_of c.in_err-slot_row.was) ∙ slotted (goal.at.returns-in_err-slot_row c).After-slot_row in
    rw (p.1, p.2) (slot-stop l l.current.writer_epoch s.epoch s.slot _ (fence_passed (goal.at.returns-in_err-slot_row c).In_ok-fence_row) refl here (not_0 r) ∙ sym (commit-rows l t s.epoch s.slot (names_of s.list)))

-- past rows 4 to 7
past : (c : In_ok-slot_row) (rest : ℕ) → let s = c.args in
    let l = view s.self in
    fenced_rows l l.current.writer_epoch s.epoch s.slot rest ≡ rest
past c rest =
    let s = c.args in
    let l = view s.self in
    slot_pass l l.current.writer_epoch s.epoch s.slot rest (fence_passed (goal.at.In_ok-slot_row c).In_ok-fence_row) refl (sym (ap row_of c.in_ok-slot_row.was) ∙ slotted (goal.at.In_ok-slot_row c).After-slot_row) refl

pub returns-then-not-all_stored : goal.returns-then-not-all_stored
unfolding stored
returns-then-not-all_stored c t =
    let b = c in
    let s = b.args in
    sym (commit-rows (view s.self) t s.epoch s.slot (names_of s.list) ∙ past (goal.at.returns-then-not-all_stored b).In_ok-slot_row _ ∙ (rw (sym c.all_stored.ensures ∙ ap not c.if-not-all_stored.true)))

pub returns : goal.returns
unfolding stored
returns c t =
    let b = c in
    let s = b.args in
    sym (commit-rows (view s.self) t s.epoch s.slot (names_of s.list) ∙ past (goal.at.returns b).In_ok-slot_row _ ∙ (rw (sym c.all_stored.ensures ∙ ap not c.if-not-all_stored.false)))
