-- `Ledger::read_by` meets its contract: the current manifest, or the one that the live hold names.
-- Assumes nothing.
use mathlib.Core.Path.{ap, ◌∙◌}
use Prim.Native.Nat.{ℕ}
use Rattle.manifests.specs.Manifests.{lay_manifest, manifests_of, numbered}
use Rattle.ledger.proofs.View.{sized, sound_parts}
use Rattle.ledger.proofs.HoldSteps.{read-current, read_held}
use Rattle.ledger.proofs.Ledger.read_by.Goals as goal

pub current-requires : goal.current-requires
current-requires c = let st = c in (sound_parts st.args.self st.requires).manifests

pub returns-then-hold-eq0 : goal.returns-then-hold-eq0
returns-then-hold-eq0 c =
    let st = c in
    let s = st.args in
    c.current.ensures ∙ read-current s.time s.self s.hold (sized s.self _ st.well_formed.0) st.requires c.if-hold-eq0.true

pub numbered-requires : goal.numbered-requires
numbered-requires c = let st = c in (sound_parts st.args.self st.requires).manifests

pub returns : goal.returns
returns c =
    let b = c in
    let a = c in
    let st = c in
    let s = st.args in
    c.numbered.ensures ∙ ap (λ (k : ℕ). lay_manifest (numbered (manifests_of s.self.manifests) k)) b.manifest_by.ensures
    ∙ read_held s.time s.self s.hold (sized s.self _ st.well_formed.0) st.requires a.if-hold-eq0.false a.live-live.ensures
