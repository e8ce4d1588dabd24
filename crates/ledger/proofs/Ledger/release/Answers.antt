-- `Ledger::release` meets its contract: the hold goes, where it is live.
-- Assumes nothing.
use mathlib.Core.Path.{refl, sym, ◌∙◌}
use mathlib.Core.List.{[]}
use native.Mathlib.Omega.{arith}
use Rattle.rules.specs.declared.Kind.TheVariants.{Release as RELEASE}
use Rattle.rules.specs.Lists.{keep}
use Rattle.rules.specs.Step.{act, answers, other}
use Rattle.rules.specs.Words.{live_holds}
use Rattle.rules.proofs.Numbers.{keep-length}
use Rattle.ledger.specs.Ledger.{view}
use Rattle.ledger.proofs.Door.{turned_away}
use Rattle.ledger.proofs.Live.{live-short, live-rows}
use Rattle.ledger.proofs.HoldSteps.{changed_laid, done}
use Rattle.rules.proofs.Refusals.{not_0}
use Rattle.ledger.proofs.Ledger.release.Goals as goal

pub returns-in-Err : goal.returns-in-Err
returns-in-Err c =
    let w = c in
    let st = c in
    let s = st.args in
    c.refused.ensures ∙ turned_away s.self s.time (RELEASE s.hold) [] st.requires _ (w.in-Err.ensures ∙ sym (live-rows (view s.self) s.time s.hold 0).1) (not_0 c.in-Err.refusal)

pub holding-self-requires : goal.holding-self-requires
holding-self-requires c =
    let a = c in
    let st = c in
    let s = st.args in
    let xs = live_holds s.time (view s.self) in (
      st.requires.is_sound,
      changed_laid s.time s.self (keep (other s.hold)) a.live-live.ensures c.release.ensures
          (omega (arith, keep-length (other s.hold) xs, live-short s.self st.requires.is_sound s.time a.live-live.ensures)),
    )

pub returns : goal.returns
unfolding act answers
returns c =
    let r = c in
    let a = c in
    let w = c in
    let st = c in
    let s = st.args in
    c.accepted.ensures
    ∙ done s.time s.self (keep (other s.hold)) a.live-live.ensures r.release.ensures (RELEASE s.hold) (λ q. refl) (λ q. refl) st.requires _
    (w.in_default.ensures ∙ sym (live-rows (view s.self) s.time s.hold 0).1) refl c.holding-self.ensures
