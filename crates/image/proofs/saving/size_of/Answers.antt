use Rattle.std.proofs.Common.{◌≡◌, ◌+◌, ◌<◌, ◌^◌, length, arith}
use Rattle.ledger.specs.Ledger.{view}
use Rattle.ledger.proofs.View.{Sized, sized}
use Rattle.image.specs.Image.{image_of}
use Rattle.image.proofs.Parts.{all-any, places, manifests, holds, manifests-within, holds-within, lists-laid, image_parts, image_short}
use Rattle.image.proofs.saving.size_of.Goals.{Start}
use Rattle.image.proofs.saving.size_of.Goals as goal

size : (c : Start) → Sized c.args.ledger
size c = sized c.args.ledger _ c.well_formed.0

parts : (c : Start) → length (image_of (view c.args.ledger)) ≡ 29 + length (places c.args.ledger) + length (manifests c.args.ledger) + length (holds c.args.ledger)
parts c = image_parts c.args.ledger (size c) c.requires

small : (c : Start) → length (image_of (view c.args.ledger)) < 2 ^ 64
small c = image_short c.args.ledger (size c) c.requires

pub rows_size-requires : goal.rows_size-requires
rows_size-requires c = let s = (goal.at.rows_size-requires c).Start in (all-any c.args.ledger.objects.items, omega (arith, parts s, small s))

pub overflow_add-result-2 : goal.overflow_add-result-2
overflow_add-result-2 c = let s = (goal.at.overflow_add-result-2 c).Start in omega (arith, parts s, small s, c.rows_size.ensures)

pub shared_ref_as_front-rows_size : goal.shared_ref_as_front-rows_size
shared_ref_as_front-rows_size c = let s = (goal.at.shared_ref_as_front-rows_size c).Start in manifests-within c.args.ledger (size s) c.requires

pub rows_size-requires-2 : goal.rows_size-requires-2
rows_size-requires-2 c = let s = (goal.at.rows_size-requires-2 c).Start in (lists-laid c.args.ledger (size s) c.requires, omega (arith, parts s, small s))

pub overflow_add-result-3 : goal.overflow_add-result-3
overflow_add-result-3 c = let s = (goal.at.overflow_add-result-3 c).Start in omega (arith, parts s, small s, c.rows_size.ensures, c.rows_size-2.ensures)

pub shared_ref_as_front-rows_size-2 : goal.shared_ref_as_front-rows_size-2
shared_ref_as_front-rows_size-2 c = let s = (goal.at.shared_ref_as_front-rows_size-2 c).Start in holds-within c.args.ledger (size s) c.requires

pub rows_size-requires-3 : goal.rows_size-requires-3
rows_size-requires-3 c = let s = (goal.at.rows_size-requires-3 c).Start in (all-any _, omega (arith, parts s, small s))

pub overflow_add-result-4 : goal.overflow_add-result-4
overflow_add-result-4 c = let s = (goal.at.overflow_add-result-4 c).Start in omega (arith, parts s, small s, c.rows_size.ensures, c.rows_size-2.ensures, c.rows_size-3.ensures)

pub returns : goal.returns
returns c = let s = (goal.at.returns c).Start in omega (arith, parts s, c.rows_size.ensures, c.rows_size-2.ensures, c.rows_size-3.ensures)
