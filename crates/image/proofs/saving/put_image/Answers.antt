-- `image::saving::put_image` meets its contract: each part lies behind those before it. Assumes nothing.
use Rattle.std.proofs.Common.{◌≡◌, ℕ, ◌+◌, ◌-◌, List, ◌∷◌, ◌++◌, length, take, drop, sym, ap, ◌∙◌, append_assoc, arith}
use Rattle.fields.specs.Bytes.{be}
use Rattle.records.proofs.Pieces.{length-head}
use Rattle.ledger.specs.declared.Ledger.{Ledger}
use Rattle.ledger.specs.Ledger.{view}
use Rattle.ledger.proofs.View.{Sized, sized}
use Rattle.image.specs.Image.{image_tag, head_bytes, content_of, image_of}
use Rattle.image.proofs.Lengths.{length-head-rows, length_image}
use Rattle.image.proofs.Laying.{Lies, lies_long, lies_part, lies_left, lies_rest, lies_all}
use Rattle.image.proofs.Parts.{all-any, places, manifests, holds, manifests-within, holds-within, lists-laid, content, image_parts}
use Rattle.image.proofs.saving.put_image.Goals.{Start, After-put_head, After-put_header, After-put_rows-at, After-put_rows-at-2}
use Rattle.image.proofs.saving.put_image.Goals as goal

size : (c : Start) → Sized c.args.ledger
size c = sized c.args.ledger _ c.well_formed.0

-- there is room for the parts, and for no more
room : (c : Start) → length c.args.out.now ≡ 29 + length (places c.args.ledger) + length (manifests c.args.ledger) + length (holds c.args.ledger)
room c = c.requires.1 ∙ image_parts c.args.ledger (size c) c.requires.0

-- What lies there behind each call

abbrev header : Ledger → List ℕ → List ℕ
header l out = (image_tag ∷ be 2 (length out - 3)) ++ head_bytes l.clock l.collected

head_lies : (c : After-put_head) → Lies c.args.out.now (image_tag ∷ be 2 (length c.args.out.now - 3)) c.put_head.new.out 3
head_lies c = record { same = c.put_head.ensures; count = length-head image_tag (length c.args.out.now - 3); room = omega (arith, room (goal.at.After-put_head c).Start) }

abbrev with_header : After-put_header → List ℕ
with_header c = take 3 c.put_head.new.out ++ (c.put_header.new.out ++ drop 26 (drop 3 c.put_head.new.out))

header_lies : (c : After-put_header) → Lies c.args.out.now (header c.args.ledger c.args.out.now) (with_header c) 29
header_lies c =
    let s = goal.at.After-put_header c in
    lies_part (head_lies s.After-put_head) 26 c.put_header.ensures (length-head-rows c.args.ledger.clock c.args.ledger.collected) (omega (arith, room s.Start))

-- what is laid from k on, to the end
abbrev laid : ℕ → List ℕ → List ℕ → List ℕ
laid k now ys = take k now ++ (ys ++ drop (length now - k) (drop k now))

abbrev with_places : After-put_rows-at → List ℕ
with_places c = laid 29 (with_header (goal.at.After-put_rows-at c).After-put_header) c.put_rows-at.new.out

places_lie : (c : After-put_rows-at) → Lies c.args.out.now (header c.args.ledger c.args.out.now ++ places c.args.ledger) (with_places c) (29 + c.put_rows-at.result)
places_lie c = let s = goal.at.After-put_rows-at c in lies_rest (header_lies s.After-put_header) c.put_rows-at.ensures (omega (arith, room s.Start))

abbrev with_manifests : After-put_rows-at-2 → List ℕ
with_manifests c = laid (29 + c.put_rows-at.result) (with_places (goal.at.After-put_rows-at-2 c).After-put_rows-at) c.put_rows-at-2.new.out

manifests_lie : (c : After-put_rows-at-2)
    → Lies c.args.out.now ((header c.args.ledger c.args.out.now ++ places c.args.ledger) ++ manifests c.args.ledger) (with_manifests c) (29 + c.put_rows-at.result + c.put_rows-at-2.result)
manifests_lie c = let s = goal.at.After-put_rows-at-2 c in lies_rest (places_lie s.After-put_rows-at) c.put_rows-at-2.ensures (omega (arith, room s.Start, c.put_rows-at.ensures.count))

pub overflow_sub-out : goal.overflow_sub-out
overflow_sub-out c = omega (arith, room (goal.at.overflow_sub-out c).Start)

pub put_head-requires : goal.put_head-requires
put_head-requires c = omega (arith, room (goal.at.put_head-requires c).Start)

pub slice_bounds-put_header-end : goal.slice_bounds-put_header-end
slice_bounds-put_header-end c = let s = goal.at.slice_bounds-put_header-end c in omega (arith, room s.Start, lies_long (head_lies s.After-put_head))

pub slice_bounds-put_rows-count : goal.slice_bounds-put_rows-count
slice_bounds-put_rows-count c = let s = goal.at.slice_bounds-put_rows-count c in omega (arith, room s.Start, lies_long (header_lies s.After-put_header))

pub slice_bounds-put_rows-start : goal.slice_bounds-put_rows-start
slice_bounds-put_rows-start c = let s = goal.at.slice_bounds-put_rows-start c in omega (arith, room s.Start, lies_long (header_lies s.After-put_header))

pub put_rows-at-requires : goal.put_rows-at-requires
put_rows-at-requires c = let s = goal.at.put_rows-at-requires c in (all-any c.args.ledger.objects.items, omega (arith, room s.Start, lies_left (header_lies s.After-put_header)))

pub shared_ref_as_front-put_rows : goal.shared_ref_as_front-put_rows
shared_ref_as_front-put_rows c = manifests-within c.args.ledger (size (goal.at.shared_ref_as_front-put_rows c).Start) c.requires.0

pub slice_bounds-put_rows-count-2 : goal.slice_bounds-put_rows-count-2
slice_bounds-put_rows-count-2 c = let s = goal.at.slice_bounds-put_rows-count-2 c in omega (arith, room s.Start, c.put_rows-at.ensures.count, lies_long (places_lie s.After-put_rows-at))

pub slice_bounds-put_rows-start-2 : goal.slice_bounds-put_rows-start-2
slice_bounds-put_rows-start-2 c = let s = goal.at.slice_bounds-put_rows-start-2 c in omega (arith, room s.Start, c.put_rows-at.ensures.count, lies_long (places_lie s.After-put_rows-at))

pub put_rows-at-requires-2 : goal.put_rows-at-requires-2
put_rows-at-requires-2 c =
    let s = goal.at.put_rows-at-requires-2 c in
    (lists-laid c.args.ledger (size s.Start) c.requires.0, omega (arith, room s.Start, c.put_rows-at.ensures.count, lies_left (places_lie s.After-put_rows-at)))

pub shared_ref_as_front-put_rows-2 : goal.shared_ref_as_front-put_rows-2
shared_ref_as_front-put_rows-2 c = holds-within c.args.ledger (size (goal.at.shared_ref_as_front-put_rows-2 c).Start) c.requires.0

pub slice_bounds-put_rows-count-3 : goal.slice_bounds-put_rows-count-3
slice_bounds-put_rows-count-3 c =
    let s = goal.at.slice_bounds-put_rows-count-3 c in omega (arith, room s.Start, c.put_rows-at.ensures.count, c.put_rows-at-2.ensures.count, lies_long (manifests_lie s.After-put_rows-at-2))

pub slice_bounds-put_rows-start-3 : goal.slice_bounds-put_rows-start-3
slice_bounds-put_rows-start-3 c =
    let s = goal.at.slice_bounds-put_rows-start-3 c in omega (arith, room s.Start, c.put_rows-at.ensures.count, c.put_rows-at-2.ensures.count, lies_long (manifests_lie s.After-put_rows-at-2))

pub put_rows-requires : goal.put_rows-requires
put_rows-requires c =
    let s = goal.at.put_rows-requires c in (all-any _, omega (arith, room s.Start, c.put_rows-at.ensures.count, c.put_rows-at-2.ensures.count, lies_left (manifests_lie s.After-put_rows-at-2)))

pub returns : goal.returns
unfolding image_of
returns c =
    let s = goal.at.returns c in
    let l = c.args.ledger in
    let out = c.args.out.now in
    let head = image_tag ∷ be 2 (length out - 3) in
    let whole : length out - 3 ≡ length (content_of (view l)) = omega (arith, c.requires.1, length_image (view l)) in
    let lies = lies_rest (manifests_lie s.After-put_rows-at-2) c.put_rows.ensures (omega (arith, room s.Start, c.put_rows-at.ensures.count, c.put_rows-at-2.ensures.count)) in
    lies_all lies (omega (arith, room s.Start, c.put_rows-at.ensures.count, c.put_rows-at-2.ensures.count, c.put_rows.ensures.count))
    ∙ append_assoc (header l out ++ places l) (manifests l) (holds l)
    ∙ append_assoc (header l out) (places l) (manifests l ++ holds l)
    ∙ append_assoc head (head_bytes l.clock l.collected) (places l ++ (manifests l ++ holds l))
    ∙ ap (λ (b : List ℕ). head ++ b) (sym (content l (size s.Start) c.requires.0))
    ∙ ap (λ (n : ℕ). image_tag ∷ (be 2 n ++ content_of (view l))) whole
