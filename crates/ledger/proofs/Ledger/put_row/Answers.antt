-- `Ledger::put_row` meets its contract: rows 4 and 9 to 11 in their order.
-- Assumes nothing.
use mathlib.Core.Path.{◌≡◌, sym, ap, ◌∙◌}
use mathlib.Core.Bool.{cond}
use Prim.Native.Nat.{ℕ}
use native.Mathlib.Omega.{arith}
use borrow.Author.Tests.{lt-leb, le-leb}
use Rattle.rules.specs.State.{epoch_of}
use Rattle.rules.specs.Table.{row4, epoch_row}
use Rattle.rules.specs.Refusals.{number, row_of}
use Rattle.rules.specs.Words.{stored}
use Rattle.objects.specs.Objects.{role_epoch}
use Rattle.manifests.specs.declared.KeptManifest.{KeptManifest}
use Rattle.manifests.specs.Manifests.{current_of}
use Rattle.ledger.specs.Ledger.{view}
use Rattle.ledger.proofs.View.{sound_parts}
use Rattle.ledger.proofs.Live.{put-rows}
use Rattle.ledger.proofs.StoreSteps.{one-stop, one_pass, role_epoch_lem}
use Rattle.std.proofs.lemmas.Result.{err_from_is_err_and}
use Rattle.rules.proofs.Refusals.{not_0}
use Rattle.ledger.proofs.Ledger.put_row.Goals.{After-epoch_row, After-is_stored, In_ok-epoch_row}
use Rattle.ledger.proofs.Ledger.put_row.Goals as goal

pub current-current-requires : goal.current-current-requires
current-current-requires c = (sound_parts _ c.requires).manifests

-- row 4 of the role's epoch
fourth : (c : After-epoch_row) → let s = c.args in row_of c.epoch_row.result ≡ epoch_row (epoch_of s.role (view s.self).current) s.epoch
fourth c =
    let s = c.args in
    c.epoch_row.ensures
    ∙ ap (λ (n : ℕ). epoch_row n s.epoch)
    (c.epoch_of.ensures ∙ ap (λ (m : KeptManifest). role_epoch s.role m.writer m.compactor) c.current-current.ensures ∙ role_epoch_lem s.role (current_of s.self.manifests))

pub returns-in_err-epoch_row : goal.returns-in_err-epoch_row
returns-in_err-epoch_row c t k =
    let s = c.args in
    let p = err_from_is_err_and c.from_residual.result c.from_residual.ensures.1 in
    let r = c.in_err-epoch_row.field-0.0 in
    let here : number r ≡ epoch_row (epoch_of s.role (view s.self).current) s.epoch = sym (ap row_of c.in_err-epoch_row.was) ∙ fourth (goal.at.returns-in_err-epoch_row c).After-epoch_row in
    rw (p.1, p.2) (here ∙ one-stop 3 _ (row4 (epoch_of s.role (view s.self).current) s.epoch) (λ z. not_0 r (here ∙ z)) ∙ sym (put-rows (view s.self) t s.role s.epoch s.object k))

-- past row 4
past : (c : In_ok-epoch_row) (rest : ℕ) → let s = c.args in cond (row4 (epoch_of s.role (view s.self).current) s.epoch) 4 rest ≡ rest
past c rest =
    let s = c.args in
    one_pass 3 rest (row4 (epoch_of s.role (view s.self).current) s.epoch) (sym (fourth (goal.at.In_ok-epoch_row c).After-epoch_row) ∙ ap row_of c.in_ok-epoch_row.was)

-- whether the object is stored
there : (c : After-is_stored) → let s = c.args in stored (view s.self) s.object ≡ c.is_stored.result
unfolding stored
there c = sym c.is_stored.ensures

pub returns-then-is_stored : goal.returns-then-is_stored
returns-then-is_stored c t k =
    let b = c in
    let s = b.args in
    sym (put-rows (view s.self) t s.role s.epoch s.object k ∙ past (goal.at.returns-then-is_stored b).In_ok-epoch_row _ ∙ (rw (there (goal.at.returns-then-is_stored c).After-is_stored ∙ c.if-is_stored.true)))

pub returns-then-object-self : goal.returns-then-object-self
returns-then-object-self c t k =
    let e = c in
    let b = c in
    let s = b.args in
    sym (put-rows (view s.self) t s.role s.epoch s.object k ∙ past (goal.at.returns-then-object-self b).In_ok-epoch_row _ ∙ (rw (there (goal.at.returns-then-object-self e).After-is_stored ∙ e.if-is_stored.false, le-leb s.object s.self.collected (omega (arith, c.if-object-self.true)))))

pub is_full-requires : goal.is_full-requires
is_full-requires c = (sound_parts _ c.requires).objects

pub returns-then-is_full : goal.returns-then-is_full
returns-then-is_full c t k =
    let d = c in
    let e = c in
    let b = c in
    let s = b.args in
    sym (put-rows (view s.self) t s.role s.epoch s.object k ∙ past (goal.at.returns-then-is_full b).In_ok-epoch_row _
    ∙ (rw (there (goal.at.returns-then-is_full e).After-is_stored ∙ e.if-is_stored.false, lt-leb s.object s.self.collected (omega (arith, d.if-object-self.false)), sym c.is_full.ensures ∙ c.if-is_full.true)))

pub returns : goal.returns
returns c t k =
    let d = c in
    let e = c in
    let b = c in
    let s = b.args in
    sym (put-rows (view s.self) t s.role s.epoch s.object k ∙ past (goal.at.returns b).In_ok-epoch_row _
    ∙ (rw (there (goal.at.returns e).After-is_stored ∙ e.if-is_stored.false, lt-leb s.object s.self.collected (omega (arith, d.if-object-self.false)), sym c.is_full.ensures ∙ c.if-is_full.false)))
