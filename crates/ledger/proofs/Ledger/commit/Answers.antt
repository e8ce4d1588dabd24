-- `Ledger::commit` meets its contract: a new manifest with that list and the epochs unchanged.
-- Assumes nothing.
use mathlib.Core.Path.{refl, ap, ◌∙◌}
use Prim.Native.Nat.{suc, ◌<◌, ◌^◌}
use native.Mathlib.Omega.{arith}
use Rattle.rules.specs.declared.Kind.TheVariants.{Commit as COMMIT}
use Rattle.rules.specs.declared.Answer.TheVariants.{Done}
use Rattle.rules.specs.Step.{alone}
use Rattle.rules.specs.Typed.{names_of}
use Rattle.rules.proofs.Typed.{padded-room}
use Rattle.ledger.specs.declared.Ledger.{Ledger}
use Rattle.ledger.specs.Ledger.{view}
use Rattle.ledger.specs.Step.{answered_with}
use Rattle.ledger.proofs.View.{sound_parts}
use Rattle.ledger.proofs.Names.{list_long}
use Rattle.ledger.proofs.Door.{turned_away, taken}
use Rattle.ledger.proofs.StoreSteps.{commit-clear, commit_comes}
use Rattle.ledger.proofs.Ledger.commit.Goals.{In_default}
use Rattle.rules.proofs.Refusals.{not_0}
use Rattle.ledger.proofs.Ledger.commit.Goals as goal

pub commit_row-requires : goal.commit_row-requires
commit_row-requires c =
    let s = c.args in
    (c.requires.0.is_sound, omega (arith, padded-room s.list.count s.list.names c.requires.1, list_long s.list _ c.well_formed.1.1.1.1.0))

pub returns-in-Err : goal.returns-in-Err
returns-in-Err c =
    let b = c in
    let st = c in
    let s = st.args in
    c.refused.ensures ∙ turned_away s.self s.time (COMMIT s.epoch s.slot) (names_of s.list) st.requires.0 _ (b.in-Err.ensures s.time) (not_0 c.in-Err.refusal)

pub current-current-requires : goal.current-current-requires
current-current-requires c = let st = c in (sound_parts st.args.self st.requires.0.is_sound).manifests

-- the next number fits
next : (c : In_default) → suc (view c.args.self).current.number < 2 ^ 64
next c =
    let b = c in
    let s = b.args in
    omega (arith, commit-clear (view s.self) s.time refl s.epoch s.slot (names_of s.list) (b.in_default.ensures s.time), b.ranges.slot.fits)

pub published-self-requires : goal.published-self-requires
published-self-requires c =
    let e = c in
    let st = c in
    record { is_sound = st.requires.0.is_sound; next = next (goal.at.published-self-requires e).In_default; padded = st.requires.1 }

pub returns : goal.returns
returns c =
    let p = c in
    let a = c in
    let e = c in
    let b = c in
    let st = c in
    let s = st.args in
    c.accepted.ensures ∙ ap (λ (l : Ledger). answered_with (alone Done) l) p.published-self.ensures
    ∙ commit_comes s.self s.time a.current-current.ensures s.epoch s.slot (names_of s.list)
    ∙ taken s.self s.time (COMMIT s.epoch s.slot) (names_of s.list) st.requires.0 _ (b.in_default.ensures s.time) refl
