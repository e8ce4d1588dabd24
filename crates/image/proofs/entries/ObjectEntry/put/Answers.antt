-- `image::entries::ObjectEntry::put` meets its contract: nothing for a free place, else its row. Assumes nothing.
use Rattle.std.proofs.Common.{◌≡◌, [], length, sym, ap, ◌∙◌, arith}
use Rattle.image.specs.Rows.{row_of}
use Rattle.image.specs.Format.{object_row, object_cells}
use Rattle.image.specs.Image.{place_bytes}
use Rattle.image.proofs.Lengths.{length-object}
use Rattle.image.proofs.RowLaws.{no_names}
use Rattle.image.proofs.Things.{place-free, place-taken, place-row}
use Rattle.image.proofs.entries.ObjectEntry.put.Goals.{Then-self-ne0}
use Rattle.image.proofs.entries.ObjectEntry.put.Goals as goal

row : (c : Then-self-ne0) → place_bytes c.args.place c.args.self.now ≡ row_of object_row (object_cells c.args.place c.args.self.now)
row c = place-row c.args.place c.args.self.now (place-taken c.args.place c.args.self.now c.if-self-ne0.true)

pub put-requires : goal.put-requires
put-requires c = let e = row (goal.at.put-requires c).Then-self-ne0 in omega (arith, length-object c.args.place c.args.self.now, ap length e, c.requires)

pub returns-then-self-ne0 : goal.returns-then-self-ne0
returns-then-self-ne0 c =
    c.put.ensures ∙ ap (λ ns. row_of object_row (record { numbers = ns; names = [] })) c.object_numbers.ensures ∙ sym (row (goal.at.returns-then-self-ne0 c).Then-self-ne0)

pub returns-else-self-ne0 : goal.returns-else-self-ne0
returns-else-self-ne0 c =
    let none = place-free c.args.place c.args.self.now c.if-self-ne0.false in
    sym (no_names c.args.out.now (omega (arith, c.requires.1, ap length none))) ∙ sym none
