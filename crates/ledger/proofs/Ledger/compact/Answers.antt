-- `Ledger::compact` meets its contract: a new manifest in which the object stands for those of its currency.
-- Assumes nothing.
use mathlib.Core.Path.{refl, ◌≡◌, ap, ◌∙◌}
use mathlib.Core.Bool.{false}
use mathlib.Core.List.{[]}
use Prim.Native.Nat.{suc, ◌<◌, ◌^◌}
use native.Mathlib.Omega.{arith}
use Rattle.rules.specs.declared.Kind.TheVariants.{Compact as COMPACT}
use Rattle.rules.specs.declared.Answer.TheVariants.{Done}
use Rattle.rules.specs.Step.{alone}
use Rattle.rules.specs.Table.{row17}
use Rattle.ledger.specs.declared.Ledger.{Ledger}
use Rattle.ledger.specs.Ledger.{view}
use Rattle.ledger.specs.Step.{answered_with}
use Rattle.ledger.proofs.View.{sound_parts}
use Rattle.ledger.proofs.Door.{turned_away, taken}
use Rattle.ledger.proofs.StoreSteps.{compact_clear, compact_comes, compacted-padded, compacted-said}
use Rattle.ledger.proofs.Ledger.compact.Goals.{In_default}
use Rattle.rules.proofs.Refusals.{not_0}
use Rattle.ledger.proofs.Ledger.compact.Goals as goal

pub returns-in-Err : goal.returns-in-Err
returns-in-Err c =
    let b = c in
    let st = c in
    let s = st.args in
    c.refused.ensures ∙ turned_away s.self s.time (COMPACT s.epoch s.slot s.object) [] st.requires _ (b.in-Err.ensures s.time) (not_0 c.in-Err.refusal)

pub current-current-requires : goal.current-current-requires
current-current-requires c = let st = c in (sound_parts st.args.self st.requires.is_sound).manifests

-- no row applies: the next number fits, and the current list has the object's currency
clear : (c : In_default) → let s = c.args in (suc (view s.self).current.number < 2 ^ 64) × (row17 (view s.self) s.object ≡ false)
clear c =
    let b = c in
    let s = b.args in
    let f = compact_clear (view s.self) s.time refl s.epoch s.slot s.object (b.in_default.ensures s.time) in
    (omega (arith, f.0, b.ranges.slot.fits), f.1)

pub compacted-list-requires : goal.compacted-list-requires
compacted-list-requires c = let e = c in (e.requires.is_sound, (clear (goal.at.compacted-list-requires e).In_default).1)

pub published-self-requires : goal.published-self-requires
published-self-requires c =
    let d = c in
    let e = c in
    let st = c in
    let s = st.args in
    record { is_sound = st.requires.is_sound; next = (clear (goal.at.published-self-requires e).In_default).0; padded = compacted-padded s.self st.requires.is_sound s.object (clear (goal.at.published-self-requires e).In_default).1 d.compacted-list.ensures }

pub returns : goal.returns
returns c =
    let p = c in
    let d = c in
    let a = c in
    let e = c in
    let b = c in
    let st = c in
    let s = st.args in
    c.accepted.ensures ∙ ap (λ (l : Ledger). answered_with (alone Done) l) p.published-self.ensures
    ∙ compact_comes s.self s.time a.current-current.ensures s.epoch s.slot s.object
    (compacted-said s.self st.requires.is_sound s.object (clear (goal.at.returns e).In_default).1 d.compacted-list.ensures)
    ∙ taken s.self s.time (COMPACT s.epoch s.slot s.object) [] st.requires _ (c.in_default.ensures s.time) refl
