-- `Ledger::compact_row` meets its contract: rows 4 to 8 and 17 in their order.
-- Assumes nothing.
use mathlib.Core.Path.{refl, ◌≡◌, sym, ap, ap₂, ◌∙◌}
use mathlib.Core.Bool.{cond, true, false}
use mathlib.Core.List.{[], ◌∷◌}
use Prim.Native.Nat.{ℕ, ◌≤◌}
use borrow.Author.Tests.{eq-eqb, ne_eqb}
use native.Mathlib.Omega.{arith}
use lib.Dec.{eqb}
use lib.ListN.{length, take}
use lib.Seq.{length-take-le}
use Rattle.rules.specs.Lists.{maximum}
use Rattle.rules.specs.Table.{row8, row17, fence_row, slot_row}
use Rattle.rules.specs.Typed.{is_padded}
use Rattle.rules.specs.Refusals.{number, row_of}
use Rattle.rules.specs.Words.{stored}
use Rattle.rules.proofs.Typed.{padded-room}
use Rattle.objects.specs.Objects.{of_currency_in}
use Rattle.manifests.specs.declared.KeptManifest.{KeptManifest}
use Rattle.ledger.specs.Ledger.{view}
use Rattle.ledger.proofs.View.{sized, sound_parts}
use Rattle.ledger.proofs.Live.{compact_rows}
use Rattle.ledger.proofs.StoreSteps.{fenced_rows, fence-stop, slot-stop, slot_pass, one-stored, highest-row, current-padded}
use Rattle.std.proofs.lemmas.Result.{err_from_is_err_and}
use Rattle.rules.proofs.Refusals.{not_0}
use Rattle.ledger.proofs.Ledger.compact_row.Goals.{In_ok-fence_row, After-current-current, After-fence_row, After-highest, After-is_stored, After-slot_row, Else-not-is_stored, In_ok-slot_row}
use Rattle.ledger.proofs.Ledger.compact_row.Goals as goal

pub current-current-requires : goal.current-current-requires
current-current-requires c = (sound_parts _ c.requires).manifests

-- rows 4 and 5
fenced : (c : After-fence_row) → let s = c.args in row_of c.fence_row.result ≡ fence_row (view s.self).current.compactor_epoch s.epoch
fenced c =
    let s = c.args in
    c.fence_row.ensures ∙ ap (λ (m : KeptManifest). fence_row m.compactor s.epoch) c.current-current.ensures

pub returns-in_err-fence_row : goal.returns-in_err-fence_row
returns-in_err-fence_row c t =
    let s = c.args in
    let l = view s.self in
    let p = err_from_is_err_and c.from_residual.result c.from_residual.ensures.1 in
    let r = c.in_err-fence_row.field-0.0 in
    let here : number r ≡ fence_row l.current.compactor_epoch s.epoch = sym (ap row_of c.in_err-fence_row.was) ∙ fenced (goal.at.returns-in_err-fence_row c).After-fence_row in
    rw (p.1, p.2) (fence-stop l l.current.compactor_epoch s.epoch s.slot _ here (not_0 r) ∙ sym (compact_rows l t s.epoch s.slot s.object))

-- past rows 4 and 5
fence_passed : (c : In_ok-fence_row) → 0 ≡ fence_row (view c.args.self).current.compactor_epoch c.args.epoch
fence_passed c = sym (ap row_of c.in_ok-fence_row.was) ∙ fenced (goal.at.In_ok-fence_row c).After-fence_row

-- rows 6 and 7
slotted : (c : After-slot_row) → let s = c.args in row_of c.slot_row.result ≡ slot_row (view s.self).current.number s.slot
slotted c =
    let b = c in
    let s = b.args in
    c.slot_row.ensures ∙ ap (λ (m : KeptManifest). slot_row m.number s.slot) b.current-current.ensures

pub returns-in_err-slot_row : goal.returns-in_err-slot_row
returns-in_err-slot_row c t =
    let s = c.args in
    let l = view s.self in
    let p = err_from_is_err_and c.from_residual-in_err-slot_row.result c.from_residual-in_err-slot_row.ensures.1 in
    let r = c.in_err-slot_row.field-0.0 in
    let here : number r ≡ slot_row l.current.number s.slot = sym (ap row_of c.in_err-slot_row.was) ∙ slotted (goal.at.returns-in_err-slot_row c).After-slot_row in
    rw (p.1, p.2) (slot-stop l l.current.compactor_epoch s.epoch s.slot _ (fence_passed (goal.at.returns-in_err-slot_row c).In_ok-fence_row) refl here (not_0 r) ∙ sym (compact_rows l t s.epoch s.slot s.object))

-- past rows 4 to 7
past : (c : In_ok-slot_row) (rest : ℕ) → let s = c.args in
    let l = view s.self in
    fenced_rows l l.current.compactor_epoch s.epoch s.slot rest ≡ rest
past c rest =
    let s = c.args in
    let l = view s.self in
    slot_pass l l.current.compactor_epoch s.epoch s.slot rest (fence_passed (goal.at.In_ok-slot_row c).In_ok-fence_row) refl (sym (ap row_of c.in_ok-slot_row.was) ∙ slotted (goal.at.In_ok-slot_row c).After-slot_row) refl

-- whether the object is stored
there : (c : After-is_stored) → let s = c.args in stored (view s.self) s.object ≡ c.is_stored.result
unfolding stored
there c = sym c.is_stored.ensures

pub returns-then-not-is_stored : goal.returns-then-not-is_stored
returns-then-not-is_stored c t =
    let b = c in
    let s = b.args in
    sym (compact_rows (view s.self) t s.epoch s.slot s.object ∙ past (goal.at.returns-then-not-is_stored b).In_ok-slot_row _
    ∙ (rw (one-stored (view s.self) s.object false (there (goal.at.returns-then-not-is_stored c).After-is_stored ∙ c.if-not-is_stored.true))))

-- the names are no more than their places
room : (c : After-current-current) → c.current-current.result.count ≤ length c.current-current.result.names
room c =
    let st = c in
    let l = st.args.self in
    padded-room _ _ (ap (λ (m : KeptManifest). is_padded m.count m.names) c.current-current.ensures ∙ current-padded l st.requires (sized l _ st.well_formed.0))

pub shared_ref_as_front-highest : goal.shared_ref_as_front-highest
shared_ref_as_front-highest c = omega (arith, room (goal.at.shared_ref_as_front-highest c).After-current-current)

pub slice_bounds-highest-end : goal.slice_bounds-highest-end
slice_bounds-highest-end c =
    let a = c in
    sym (length-take-le a.current-current.result.count a.current-current.result.names (room (goal.at.slice_bounds-highest-end a).After-current-current))

-- row 17 applies where nothing was found
last : (c : After-highest) → let s = c.args in
    row17 (view s.self) s.object ≡ eqb c.highest.result 0
last c =
    let d = c in
    let a = c in
    let st = c in
    let l = st.args.self in
    highest-row l st.requires st.args.object
    ∙ ap (λ (n : ℕ). eqb n 0) (sym (c.highest.ensures
    ∙ ap₂ (λ (k : ℕ) (m : KeptManifest). maximum (of_currency_in l.objects.items k (take m.count m.names))) d.currency_of-currency.ensures a.current-current.ensures))

-- past rows 4 to 8
stands : (c : Else-not-is_stored) (rest : ℕ) → let b = c in
    let s = b.args in
    let l = view s.self in
    fenced_rows l l.current.compactor_epoch s.epoch s.slot (cond (row8 l (s.object ∷ [])) 8 rest) ≡ rest
stands c rest =
    let b = c in
    let s = b.args in
    past (goal.at.Else-not-is_stored b).In_ok-slot_row _ ∙ (rw (one-stored (view s.self) s.object true (there (goal.at.Else-not-is_stored c).After-is_stored ∙ c.if-not-is_stored.false)))

pub returns-then-highest-eq0 : goal.returns-then-highest-eq0
returns-then-highest-eq0 c t =
    let e = c in
    let s = e.args in
    sym (compact_rows (view s.self) t s.epoch s.slot s.object ∙ stands (goal.at.returns-then-highest-eq0 e).Else-not-is_stored _ ∙ (rw (last (goal.at.returns-then-highest-eq0 c).After-highest ∙ eq-eqb _ _ c.if-highest-eq0.true)))

pub returns : goal.returns
returns c t =
    let e = c in
    let s = e.args in
    sym (compact_rows (view s.self) t s.epoch s.slot s.object ∙ stands (goal.at.returns e).Else-not-is_stored _ ∙ (rw (last (goal.at.returns c).After-highest ∙ ne_eqb _ _ c.if-highest-eq0.false)))
