-- `Ledger::fence` meets its contract: a new manifest with the current list, and the role's epoch one higher.
-- Assumes nothing.
use mathlib.Core.Path.{refl, ◌≡◌, ap, ◌∙◌}
use mathlib.Core.List.{[]}
use Prim.Native.Nat.{suc, ◌+◌, ◌<◌, ◌^◌}
use native.Mathlib.Omega.{arith}
use Rattle.rules.specs.declared.Kind.TheVariants.{Fence as FENCE}
use Rattle.rules.specs.declared.Answer.TheVariants.{Epoch}
use Rattle.rules.specs.Request.{Asked}
use Rattle.rules.specs.Step.{alone, effect, granted}
use Rattle.rules.specs.Typed.{is_padded}
use Rattle.manifests.specs.declared.KeptManifest.{KeptManifest}
use Rattle.ledger.specs.declared.Ledger.{Ledger}
use Rattle.ledger.specs.Ledger.{lay, view}
use Rattle.ledger.specs.Step.{Publishable, answered_with, ruled}
use Rattle.ledger.proofs.View.{sized, sound_parts}
use Rattle.ledger.proofs.Door.{turned_away, taken}
use Rattle.ledger.proofs.StoreSteps.{epochs_few, current-padded, fence-clear, fence-writer, fence-compactor}
use Rattle.ledger.proofs.Ledger.fence.Goals.{After-current-current, In_default}
use Rattle.rules.proofs.Refusals.{not_0}
use Rattle.ledger.proofs.Ledger.fence.Goals as goal

pub returns-in-Err : goal.returns-in-Err
returns-in-Err c =
    let b = c in
    let st = c in
    let s = st.args in
    c.refused.ensures ∙ turned_away s.self s.time (FENCE s.role s.slot) [] st.requires _ (b.in-Err.ensures s.time s.role) (not_0 c.in-Err.refusal)

pub current-current-requires : goal.current-current-requires
current-current-requires c = let st = c in (sound_parts st.args.self st.requires.is_sound).manifests

-- the next number fits
next : (c : In_default) → suc (view c.args.self).current.number < 2 ^ 64
next c =
    let b = c in
    let s = b.args in
    omega (arith, fence-clear (view s.self) s.time refl s.role s.slot (b.in_default.ensures s.time s.role), b.ranges.slot.fits)

-- and so do the epochs, and the current list its places
publishable : (c : After-current-current) → let s = c.args in Publishable s.self c.current-current.result.count c.current-current.result.names
publishable c =
    let e = c in
    let st = c in
    let l = st.args.self in
    record {
      is_sound = st.requires.is_sound;
      next = next (goal.at.After-current-current e).In_default;
      padded = ap (λ (m : KeptManifest). is_padded m.count m.names) c.current-current.ensures ∙ current-padded l st.requires.is_sound (sized l _ st.well_formed.0);
    }

epochs : (c : After-current-current) → c.current-current.result.writer + c.current-current.result.compactor + 1 < 2 ^ 64
epochs c =
    let e = c in
    let st = c in
    omega (arith, ap (λ (m : KeptManifest). m.writer + m.compactor) c.current-current.ensures, epochs_few st.args.self st.requires.is_sound, next (goal.at.After-current-current e).In_default)

pub overflow_add-epoch : goal.overflow_add-epoch
overflow_add-epoch c = omega (arith, epochs (goal.at.overflow_add-epoch c).After-current-current)

pub published-self-requires : goal.published-self-requires
published-self-requires c = publishable (goal.at.published-self-requires c).After-current-current

pub overflow_add-epoch-in-Compactor : goal.overflow_add-epoch-in-Compactor
overflow_add-epoch-in-Compactor c = omega (arith, epochs (goal.at.overflow_add-epoch-in-Compactor c).After-current-current)

pub published-self-requires-in-Compactor : goal.published-self-requires-in-Compactor
published-self-requires-in-Compactor c = publishable (goal.at.published-self-requires-in-Compactor c).After-current-current

-- no row applies
accepts : (c : In_default) → let s = c.args in let q = Asked s.time (FENCE s.role s.slot) [] in
    answered_with (granted q (view s.self)) (lay (effect q (view s.self))) ≡ ruled q s.self
accepts c =
    let b = c in
    let st = c in
    let s = st.args in
    taken s.self s.time (FENCE s.role s.slot) [] st.requires _ (b.in_default.ensures s.time s.role) refl

pub returns-in-Writer : goal.returns-in-Writer
returns-in-Writer c =
    let p = c in
    let k = c in
    let a = c in
    let e = c in
    let s = e.args in
    c.accepted.ensures ∙ ap (λ (l : Ledger). answered_with (alone (Epoch (a.current-current.result.writer + 1))) l) p.published-self.ensures
    ∙ fence-writer s.self s.time a.current-current.ensures s.slot ∙ (rw (← k.in-Writer.is) (accepts (goal.at.returns-in-Writer e).In_default))

pub returns-in-Compactor : goal.returns-in-Compactor
returns-in-Compactor c =
    let p = c in
    let k = c in
    let a = c in
    let e = c in
    let s = e.args in
    c.accepted-in-Compactor.ensures ∙ ap (λ (l : Ledger). answered_with (alone (Epoch (a.current-current.result.compactor + 1))) l) p.published-self-in-Compactor.ensures
    ∙ fence-compactor s.self s.time a.current-current.ensures s.slot ∙ (rw (← k.in-Compactor.is) (accepts (goal.at.returns-in-Compactor e).In_default))
