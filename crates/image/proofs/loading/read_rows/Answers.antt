-- `image::loading::read_rows` meets its contract: each group of rows begins where the one before it ends. Assumes nothing.
use Rattle.std.specs.Prelude.{unwrap_or}
use Rattle.std.proofs.Common.{◌≡◌, ℕ, ◌+◌, List, Some, None, drop, replicate, sym, ap, ◌∙◌}
use borrow.Author.Tests.{ne_eqb}
use Rattle.rules.specs.Lists.{conj}
use Rattle.rules.specs.Limits.{limits, manifest_limit}
use Rattle.arrays.proofs.Lists.{pad-none}
use Rattle.manifests.specs.declared.Manifests.{Manifests}
use Rattle.manifests.specs.Manifests.{no_manifest, lay_manifests}
use Rattle.manifests.proofs.Places.{first-laid, first_items}
use Rattle.holds.specs.declared.Holds.{Holds}
use Rattle.holds.specs.Holds.{no_hold, lay_holds}
use Rattle.ledger.specs.declared.Ledger.{Ledger}
use Rattle.image.specs.Format.{edition_row, clock_row, collected_row, edition}
use Rattle.image.specs.Reading.{number_at, places_of, objects_of, kept_of, holds_of, clock_at, collected_at, rows_begin, kept_begin, holds_begin, rows_end, ledger_in}
use Rattle.image.proofs.Laying.{tail}
use Rattle.image.proofs.Heads.{headed_by, rows_unheaded, rows_left, rows_all-read}
use Rattle.image.proofs.Filling.{filled_manifests, filled_holds}
use Rattle.image.proofs.loading.read_rows.Goals.{Else-branch-ne-FIRST_EDITION, In_ok-ledger, After-read_packed-held}
use Rattle.image.proofs.loading.read_rows.Goals as goal

-- the numbers that were read
edition_read : (c : Else-branch-ne-FIRST_EDITION) → number_at edition_row c.args.s.now ≡ Some edition
edition_read c = sym c.in_ok-number.ensures.is ∙ ap (λ (n : ℕ). Some n) c.if-branch-ne-FIRST_EDITION.false

clock_read : (c : In_ok-ledger) → number_at clock_row (drop clock_at c.args.s.now) ≡ Some c.in_ok-ledger.field-0
clock_read c = ap (number_at clock_row) (sym (tail clock_at c.args.s.now)) ∙ sym c.in_ok-ledger.ensures.is

-- the rows that were read, each group behind the one before it
module _ (c : After-read_packed-held) where
  abbrev s : List ℕ
  s = c.args.s.now

  objects : c.read_objects-kept_at.new.objects ≡ objects_of (places_of (drop rows_begin s)).values
  objects = c.read_objects-kept_at.ensures.objects ∙ ap (λ bs. objects_of (places_of bs).values) (tail rows_begin s)

  kept_at : rows_begin + c.read_objects-kept_at.result ≡ kept_begin s
  kept_at = ap (λ (n : ℕ). rows_begin + n) (c.read_objects-kept_at.ensures.size ∙ ap (λ bs. (places_of bs).size) (tail rows_begin s))

  kept : (◌≡◌ {A = Manifests} (record { count = c.read_packed-kept.result.value; items = c.read_packed-kept.new.places }) (lay_manifests (kept_of (drop (kept_begin s) s)).values))
      × (c.read_packed-kept.result.size ≡ (kept_of (drop (kept_begin s) s)).size)
  kept =
      let none : c.fresh-ledger.result.manifests.items ≡ replicate (manifest_limit limits) no_manifest =
      ap (λ (l : Ledger). l.manifests.items) c.fresh-ledger.ensures ∙ sym (first_items (sym first-laid)) in
      let rest = tail (rows_begin + c.read_objects-kept_at.result) s ∙ ap (λ (n : ℕ). drop n s) kept_at in
      filled_manifests (drop (kept_begin s) s) none (rw rest at c.read_packed-kept.ensures.filled)

  held_at : rows_begin + c.read_objects-kept_at.result + c.read_packed-kept.result.size ≡ holds_begin s
  held_at = λ i. kept_at i + kept.1 i

  held : (◌≡◌ {A = Holds} (record { count = c.read_packed-held.result.value; items = c.read_packed-held.new.places }) (lay_holds (holds_of (drop (holds_begin s) s)).values))
      × (c.read_packed-held.result.size ≡ (holds_of (drop (holds_begin s) s)).size)
  held =
      let none : c.fresh-ledger.result.holds.items ≡ replicate limits.holds no_hold = ap (λ (l : Ledger). l.holds.items) c.fresh-ledger.ensures ∙ pad-none limits.holds no_hold in
      let rest = tail (rows_begin + c.read_objects-kept_at.result + c.read_packed-kept.result.size) s ∙ ap (λ (n : ℕ). drop n s) held_at in
      filled_holds (drop (holds_begin s) s) none (rw rest at c.read_packed-held.ensures.filled)

  ends : rows_begin + c.read_objects-kept_at.result + c.read_packed-kept.result.size + c.read_packed-held.result.size ≡ rows_end s
  ends = λ i. held_at i + held.1 i

pub returns-in_err-number : goal.returns-in_err-number
unfolding conj
returns-in_err-number c = c.from_residual.ensures ∙ sym (rows_unheaded c.args.s.now (rw (sym c.in_err-number.ensures.is)))

pub returns-then-branch-ne-FIRST_EDITION : goal.returns-then-branch-ne-FIRST_EDITION
unfolding conj
returns-then-branch-ne-FIRST_EDITION c =
    sym (rows_unheaded c.args.s.now (rw (sym c.in_ok-number.ensures.is, ne_eqb c.in_ok-number.field-0 edition c.if-branch-ne-FIRST_EDITION.true)))

pub returns-in_err-ledger : goal.returns-in_err-ledger
unfolding conj
returns-in_err-ledger c =
    let e = edition_read (goal.at.returns-in_err-ledger c).Else-branch-ne-FIRST_EDITION in
    let none : number_at clock_row (drop clock_at c.args.s.now) ≡ None = ap (number_at clock_row) (sym (tail clock_at c.args.s.now)) ∙ sym c.in_err-ledger.ensures.is in
    c.from_residual-in_err-ledger.ensures ∙ sym (rows_unheaded c.args.s.now (rw (e, none)))

pub returns-in_err-ledger-2 : goal.returns-in_err-ledger-2
unfolding conj
returns-in_err-ledger-2 c =
    let at = goal.at.returns-in_err-ledger-2 c in
    let none : number_at collected_row (drop collected_at c.args.s.now) ≡ None =
    ap (number_at collected_row) (sym (tail collected_at c.args.s.now)) ∙ sym c.in_err-ledger-2.ensures.is in
    c.from_residual-in_err-ledger-2.ensures ∙ sym (rows_unheaded c.args.s.now (rw (edition_read at.Else-branch-ne-FIRST_EDITION, clock_read at.In_ok-ledger, none)))

pub returns-then-held_at-held : goal.returns-then-held_at-held
returns-then-held_at-held c = sym (rows_left c.args.s.now (λ e. c.if-held_at-held.true (ends (goal.at.returns-then-held_at-held c).After-read_packed-held ∙ e)))

pub returns : goal.returns
unfolding ledger_in
returns c =
    let s = c.args.s.now in
    let at = goal.at.returns c in
    let clock = clock_read at.In_ok-ledger in
    let collected : number_at collected_row (drop collected_at s) ≡ Some c.in_ok-ledger-2.field-0 = ap (number_at collected_row) (sym (tail collected_at s)) ∙ sym c.in_ok-ledger-2.ensures.is in
    let read = at.After-read_packed-held in
    let is : ◌≡◌ {A = Ledger} (record {
      clock = c.in_ok-ledger.field-0;
      collected = c.in_ok-ledger-2.field-0;
      objects = c.read_objects-kept_at.new.objects;
      manifests = record { count = c.read_packed-kept.result.value; items = c.read_packed-kept.new.places };
      holds = record { count = c.read_packed-held.result.value; items = c.read_packed-held.new.places };
    }) (ledger_in s) =
    λ i. record {
      clock = unwrap_or (sym clock i) 0;
      collected = unwrap_or (sym collected i) 0;
      objects = objects read i;
      manifests = (kept read).0 i;
      holds = (held read).0 i;
    } in
    ap (λ (l : Ledger). Some l) is ∙ sym (rows_all-read s (headed_by s (edition_read at.Else-branch-ne-FIRST_EDITION) clock collected) (sym (ends read) ∙ c.if-held_at-held.false))
