-- `image_exports::cuudhaqil_read_image` meets its contract: the numbers are those of the ledger beside the answer. Assumes nothing.
use Rattle.std.proofs.Common.{rules, tests}
use Rattle.std.specs.Prelude.{◌≡◌, ℕ}
use mathlib.Core.Path.{ap, ◌∙◌}
use native.Mathlib.Omega.{arith}
use borrow.Rule.Slice.PartMut.{mid_len}
use Rattle.ledger.specs.declared.Ledger.{Ledger}
use Rattle.image.specs.Reading.{ledger_beside, read_of, read_code}
use Rattle.ledger_numbers.specs.Numbers.{ledger_size, ledger_numbers}
use Rattle.ledger_numbers.proofs.Places.{over-lent}
use Rattle.image_exports.specs.Calls.{read_image}
use Rattle.image_exports.proofs.cuudhaqil_read_image.Goals as goal
use Rattle.image_exports.proofs.cuudhaqil_read_image.Goals.{in-Ok, in-Err}

pub returns : goal.returns
unfolding read_image
returns c =
    let to = c.args.ledger.now in
    let bs = c.args.image.now in
    let put = c.put_ledger in
    let said : c.match-read_image.code ≡ (ledger_beside bs, read_code (read_of bs)) = elim c.match-read_image.branch [ in-Ok w ↦ search (rules, tests) | in-Err w ↦ search (rules, tests) ] in
    let laid : put.new.out ≡ ledger_numbers (ledger_beside bs) = put.ensures ∙ ap (λ (p : Ledger × ℕ). ledger_numbers (p.0)) said in
    rw (over-lent (ledger_numbers (ledger_beside bs)) put.new.out to ledger_size laid (put.auto.out ∙ mid_len 0 ledger_size to (omega arith)), said)
    (search (rules, tests))
