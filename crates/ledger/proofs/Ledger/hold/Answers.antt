-- `Ledger::hold` meets its contract: the new hold goes in by its number.
-- Assumes nothing.
use mathlib.Core.Path.{refl, ap, ◌∙◌}
use mathlib.Core.List.{List, []}
use native.Mathlib.Omega.{arith}
use Rattle.rules.specs.declared.Hold.{Hold}
use Rattle.rules.specs.declared.Kind.TheVariants.{Hold as HOLD}
use Rattle.rules.specs.Lists.{rising_above}
use Rattle.rules.specs.Step.{act, answers, insert_hold}
use Rattle.holds.specs.Holds.{numbers}
use Rattle.ledger.specs.Ledger.{view}
use Rattle.ledger.proofs.Door.{turned_away}
use Rattle.ledger.proofs.Live.{live_laid, live-list, live-count}
use Rattle.ledger.proofs.HoldSteps.{changed_laid, done, live-rising, inserted_length, hold-room}
use Rattle.rules.proofs.Refusals.{not_0}
use Rattle.ledger.proofs.Ledger.hold.Goals as goal

pub returns-in-Err : goal.returns-in-Err
returns-in-Err c =
    let w = c in
    let st = c in
    let s = st.args in
    c.refused.ensures
    ∙ turned_away s.self s.time (HOLD s.hold s.manifest s.expiry) [] st.requires _ (w.in-Err.ensures s.expiry) (not_0 c.in-Err.refusal)

pub insert-requires : goal.insert-requires
insert-requires c =
    let n = c in
    let w = c in
    let st = c in
    let s = st.args in
    let is = c.live-live.ensures in (
      live_laid s.self st.requires.is_sound s.time is,
      omega (
        arith,
        live-count s.self st.requires.is_sound s.time is,
        hold-room (view s.self) s.time s.hold s.manifest s.expiry _ (w.in_default.ensures s.expiry) refl,
      ),
      ap (λ (xs : List Hold). rising_above 0 (numbers xs)) (live-list s.self st.requires.is_sound s.time is) ∙ live-rising s.self st.requires.is_sound s.time,
    )

pub holding-self-requires : goal.holding-self-requires
holding-self-requires c =
    let a = c in
    let n = c in
    let w = c in
    let st = c in
    let s = st.args in
    let new : Hold = record { number = s.hold; manifest = s.manifest; expiry = s.expiry } in (
      st.requires.is_sound,
      changed_laid s.time s.self (insert_hold new) a.live-live.ensures c.insert.ensures
          (omega (
            arith,
            inserted_length s.self st.requires.is_sound s.time new,
            hold-room (view s.self) s.time s.hold s.manifest s.expiry _ (w.in_default.ensures s.expiry) refl,
          )),
    )

pub returns : goal.returns
unfolding act answers
returns c =
    let r = c in
    let a = c in
    let n = c in
    let w = c in
    let st = c in
    let s = st.args in
    let new : Hold = record { number = s.hold; manifest = s.manifest; expiry = s.expiry } in
    c.accepted.ensures
    ∙ done s.time s.self (insert_hold new) a.live-live.ensures r.insert.ensures (HOLD s.hold s.manifest s.expiry) (λ q. refl) (λ q. refl) st.requires _
    (w.in_default.ensures s.expiry) refl c.holding-self.ensures
