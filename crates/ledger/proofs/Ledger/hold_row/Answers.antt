-- `Ledger::hold_row` meets its contract: rows 12 to 14.
-- Assumes nothing.
use mathlib.Core.Path.{◌≡◌, sym, ap, ◌∙◌}
use mathlib.Core.Bool.{true}
use native.Mathlib.Omega.{arith}
use Rattle.rules.specs.Words.{is_live, active}
use Rattle.manifests.specs.declared.KeptManifest.{KeptManifest}
use Rattle.ledger.specs.Ledger.{view}
use Rattle.ledger.proofs.View.{sound_parts}
use Rattle.ledger.proofs.Live.{live-number, live-manifest, live-count}
use Rattle.ledger.proofs.HoldSteps.{active-current, active-held, not-active, hold_there, hold_inactive, hold-full, hold-free}
use Rattle.ledger.proofs.Ledger.hold_row.Goals.{After-has_number, Joined-else-manifest-current}
use Rattle.ledger.proofs.Ledger.hold_row.Goals.{else-manifest-current-via-else-manifest-current, else-manifest-current-via-then-manifest-current+else-not-names_manifest}
use Rattle.ledger.proofs.Ledger.hold_row.Goals as goal

-- whether the hold is live
there : (c : After-has_number) → is_live c.args.time (view c.args.self) c.args.hold ≡ c.has_number.result
there c =
    let a = c in
    let st = c in
    let s = st.args in
    sym (c.has_number.ensures ∙ live-number s.self st.requires s.time a.live-live.ensures s.hold)

pub returns-then-has_number : goal.returns-then-has_number
returns-then-has_number c e =
    let s = c.args in
    hold_there (view s.self) s.time s.manifest s.hold e (there (goal.at.returns-then-has_number c).After-has_number ∙ c.if-has_number.true)

pub current-current-requires : goal.current-current-requires
current-current-requires c = let st = c in (sound_parts st.args.self st.requires).manifests

pub returns-then-not-names_manifest : goal.returns-then-not-names_manifest
returns-then-not-names_manifest c e =
    let b = c in
    let cur = c in
    let n = c in
    let a = c in
    let st = c in
    let s = st.args in
    hold_inactive (view s.self) s.time s.manifest s.hold e (there (goal.at.returns-then-not-names_manifest n).After-has_number ∙ n.if-has_number.false)
    (not-active (view s.self) s.time s.manifest (λ q. b.if-manifest-current.true (q ∙ sym (ap (λ (m : KeptManifest). m.number) cur.current-current.ensures)))
    (sym (live-manifest s.self st.requires s.time a.live-live.ensures s.manifest) ∙ sym b.names_manifest.ensures ∙ c.if-not-names_manifest.true))

-- the manifest is current, or a live hold names it
is_active : (c : Joined-else-manifest-current)
    → active c.args.time (view c.args.self)
    c.args.manifest ≡ true
is_active c =
    let cur = c in
    let a = c in
    let st = c in
    let s = st.args in
    (elim c.else-manifest-current.branch [
      | else-manifest-current-via-then-manifest-current+else-not-names_manifest w ↦ active-held (view s.self) s.time s.manifest
          (sym (live-manifest s.self st.requires s.time a.live-live.ensures s.manifest) ∙ sym w.names_manifest.ensures ∙ w.if-not-names_manifest.false)
      | else-manifest-current-via-else-manifest-current w ↦ active-current (view s.self) s.time s.manifest (w.if-manifest-current.false ∙ ap (λ (m : KeptManifest). m.number) cur.current-current.ensures)
    ])

pub returns-then-live-ge-HOLDS : goal.returns-then-live-ge-HOLDS
returns-then-live-ge-HOLDS c e =
    let j = c in
    let n = c in
    let a = c in
    let st = c in
    let s = st.args in
    hold-full (view s.self) s.time s.manifest s.hold e (there (goal.at.returns-then-live-ge-HOLDS n).After-has_number ∙ n.if-has_number.false) (is_active (goal.at.returns-then-live-ge-HOLDS j).Joined-else-manifest-current)
    (omega (arith, c.if-live-ge-HOLDS.true, live-count s.self st.requires s.time a.live-live.ensures))

pub returns : goal.returns
returns c e =
    let j = c in
    let n = c in
    let a = c in
    let st = c in
    let s = st.args in
    hold-free (view s.self) s.time s.manifest s.hold e (there (goal.at.returns n).After-has_number ∙ n.if-has_number.false) (is_active (goal.at.returns j).Joined-else-manifest-current)
    (omega (arith, c.if-live-ge-HOLDS.false, live-count s.self st.requires s.time a.live-live.ensures))
