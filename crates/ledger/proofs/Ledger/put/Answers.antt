-- `Ledger::put` meets its contract: the object goes to its place in the ledger at that time.
-- Assumes nothing.
use mathlib.Core.Path.{refl, ap, ◌∙◌}
use mathlib.Core.Bool.{false}
use mathlib.Core.List.{[]}
use borrow.Author.Tests.{leb-false}
use Rattle.rules.specs.declared.Kind.TheVariants.{Put as PUT}
use Rattle.rules.specs.declared.Answer.TheVariants.{Done}
use Rattle.rules.specs.declared.Object.{Object}
use Rattle.rules.specs.Step.{alone, place}
use Rattle.rules.specs.Table.{well_formed}
use Rattle.rules.proofs.Lists.{conj-true}
use Rattle.objects.specs.Objects.{lay_places}
use Rattle.objects.proofs.Places as places
use Rattle.ledger.specs.declared.Ledger.{Ledger}
use Rattle.ledger.specs.Ledger.{view}
use Rattle.ledger.specs.Step.{answered_with}
use Rattle.ledger.proofs.Door.{turned_away, taken}
use Rattle.ledger.proofs.StoreSteps.{put-clear, put_comes}
use Rattle.rules.proofs.Refusals.{not_0}
use Rattle.ledger.proofs.Ledger.put.Goals as goal

pub returns-in-Err : goal.returns-in-Err
returns-in-Err c =
    let b = c in
    let st = c in
    let s = st.args in
    c.refused.ensures ∙ turned_away s.self s.time (PUT s.role s.epoch s.object s.currency) [] st.requires _ (b.in-Err.ensures s.time s.currency) (not_0 c.in-Err.refusal)

pub put-self-requires : goal.put-self-requires
unfolding well_formed
put-self-requires c =
    let d = c in
    let e = c in
    let b = c in
    let st = c in
    let s = st.args in
    let room = leb-false _ _ (put-clear (view s.self) s.time refl s.role s.epoch s.object s.currency (b.in_default.ensures s.time s.currency)) in
    rw d.settled-self.ensures (places.lay-laid s.self.objects.items, (conj-true _ st.requires.formed).1.0, room)

pub returns : goal.returns
returns c =
    let p = c in
    let d = c in
    let e = c in
    let b = c in
    let st = c in
    let s = st.args in
    let o : Object = record { number = s.object; role = s.role; epoch = s.epoch; currency = s.currency; named = false } in
    c.accepted.ensures
    ∙ (λ i. answered_with (alone Done) (record {
      clock = (d.settled-self.ensures i).clock;
      collected = (d.settled-self.ensures i).collected;
      objects = (p.put-self.ensures ∙ ap (λ (l : Ledger). lay_places (place o l.objects.items)) d.settled-self.ensures) i;
      manifests = (d.settled-self.ensures i).manifests;
      holds = (d.settled-self.ensures i).holds;
    }))
    ∙ put_comes s.self s.time s.role s.epoch s.object s.currency
    ∙ taken s.self s.time (PUT s.role s.epoch s.object s.currency) [] st.requires _ (b.in_default.ensures s.time s.currency) refl
