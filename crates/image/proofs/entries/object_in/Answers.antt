-- `image::entries::object_in` meets its contract, test by test. Assumes nothing.
use Rattle.std.proofs.Common.{◌≡◌, ℕ, ◌%◌, ◌≤◌, Bool, true, false, not, cond, ◌&&◌, List, [], Option, Some, None, get_or, eqb, leb, refl, sym, ap, ◌∙◌, arith}
use mathlib.Core.Bool.{and-false}
use Rattle.std.specs.Option.{option_map}
use borrow.Author.Tests.{eq-eqb, ne_eqb, eqb-true, eqb-false, le-leb, lt-leb}
use Rattle.rules.specs.declared.Role.{Role}
use Rattle.rules.specs.declared.Role.TheVariants.{Writer, Compactor}
use Rattle.rules.specs.declared.Object.{Object}
use Rattle.rules.specs.Lists.{conj}
use Rattle.records.specs.Steps.{role_of}
use Rattle.image.specs.Format.{is_object_at}
use Rattle.image.specs.Reading.{object_in}
use Rattle.image.proofs.entries.object_in.Goals.{Else-named-gt1, then-at-place-via-then-at-place, then-at-place-via-else-at-place+then-named-gt1}
use Rattle.image.proofs.entries.object_in.Goals as goal

-- the object of that role
abbrev object : List ℕ → Role → Object
object v r = record { number = get_or v 1 0; role = r; epoch = get_or v 3 0; currency = get_or v 4 0 % 65536; named = not (eqb (get_or v 5 0) 0) }

-- where its place and its mark are right, its role says whether it is there
by_role : (p : ℕ) (v : List ℕ) → get_or v 0 0 ≡ p → get_or v 5 0 ≤ 1 → object_in p (record { numbers = v; names = [] }) ≡ option_map (object v) (role_of (get_or v 2 0))
unfolding is_object_at conj
by_role p v e h = rw (eq-eqb (get_or v 0 0) p e, le-leb (get_or v 5 0) 1 h) (by (eqb (get_or v 2 0) 0) (eqb (get_or v 2 0) 1) refl refl)
  where
    n : ℕ
    n = get_or v 2 0

    by : (b t : Bool) → eqb n 0 ≡ b → eqb n 1 ≡ t
        → ◌≡◌ {A = Option Object} (cond (leb n 1 && true) (Some (object v (cond b Writer Compactor))) None) (option_map (object v) (cond b (Some Writer) (cond t (Some Compactor) None)))
    by true t q r = rw (eqb-true n 0 q)
    by false true q r = rw (eqb-true n 1 r)
    by false false q r = rw (lt-leb n 1 (omega (arith, eqb-false n 0 q, eqb-false n 1 r)))

here : (c : Else-named-gt1) → object_in c.args.place (record { numbers = c.args.columns; names = [] }) ≡ option_map (object c.args.columns) (role_of (get_or c.args.columns 2 0))
here c = by_role c.args.place c.args.columns (omega (arith, c.if-at-place.false)) c.if-named-gt1.false

pub returns-then-at-place : goal.returns-then-at-place
unfolding is_object_at conj
returns-then-at-place c =
    let v = c.args.columns in
    elim c.then-at-place.branch [
      | then-at-place-via-then-at-place w ↦ rw (ne_eqb (get_or v 0 0) c.args.place (λ e. omega (arith, e, w.if-at-place.true)))
      | then-at-place-via-else-at-place+then-named-gt1 w ↦ rw (lt-leb (get_or v 5 0) 1 w.if-named-gt1.true, and-false (leb (get_or v 2 0) 1), and-false (eqb (get_or v 0 0) c.args.place))
    ]

pub returns-in_err-role_from : goal.returns-in_err-role_from
returns-in_err-role_from c =
    c.from_residual.ensures ∙ sym (here (goal.at.returns-in_err-role_from c).Else-named-gt1 ∙ ap (option_map (object c.args.columns)) (sym c.in_err-role_from.ensures))

pub returns : goal.returns
returns c = sym (here (goal.at.returns c).Else-named-gt1 ∙ ap (option_map (object c.args.columns)) (sym c.in_ok-role_from.ensures))
