use Rattle.std.proofs.Common.{arith, ◌≡◌, ◌∙◌, refl, sym, ap, List, [], ℕ, map, ◌≤◌, ◌<◌, length}
use lib.ListN.{get_or, length-set, length-take}
use lib.Seq.{take_all}
use Rattle.rules.specs.Limits.{limits, manifest_limit}
use Rattle.rules.specs.Lists.{any}
use Rattle.arrays.specs.Arrays.{pad}
use Rattle.arrays.proofs.Lists.{any_passed, filled_none, filled_next}
use Rattle.manifests.specs.Search.{Search}
use Rattle.manifests.specs.Reach.{lists_in}
use Rattle.manifests.proofs.Searching.{search-by_halves}
use Rattle.manifests.proofs.Reaching.{searched_read, searched_over, searched_none, search_empty, here, up, down, finds, counted, filled_empty, reach-none, reach-found, lists_long, list_at_lem, list_few}
use Rattle.manifests.proofs.reaches.Goals.{In-all, In-loop-low}
use Rattle.manifests.proofs.reaches.Goals as goal

pub all-init : goal.all-init
unfolding any
all-init c = record {
  lost = refl;
  places = refl;
  passed = refl;
  counts = filled_none (manifest_limit limits) 0 (counted c.args.object) (lists_in c.args.names.now c.args.counts.now);
}

-- the list at i
module _ (c : In-all) where
  abbrev lists : List (List ℕ)
  lists = lists_in c.args.names.now c.args.counts.now

  abbrev array : List ℕ
  array = get_or c.args.names.now c.all.i []

  inside : c.all.i < length lists
  inside = omega (arith, lists_long c.args.names.now c.args.counts.now c.requires.arrays)

  whole : length array ≡ limits.names
  whole = c.told-names c.all.i (omega (arith, c.requires.arrays))

  short : length (get_or lists c.all.i []) ≤ limits.names
  short = rw (list_at_lem c.args.names.now c.args.counts.now c.all.i) (omega (arith, length-take (get_or c.args.counts.now c.all.i 0) array, whole))

pub loop-low-init : goal.loop-low-init
loop-low-init c = record {
  order = omega arith;
  fits = list_few c.requires c.all.i (omega arith);
  lost = c.all.invariant.lost;
  places = c.all.invariant.places;
  read = rw (list_at_lem c.args.names.now c.args.counts.now c.all.i)
      (searched_none c.all.i c.all.reads (filled_empty (manifest_limit limits) (counted c.args.object) (lists_in c.args.names.now c.args.counts.now) c.all.i c.all.invariant.counts));
}

-- the count is within the bound that is claimed of it
pub overflow_add-reads : goal.overflow_add-reads
overflow_add-reads c =
    let at = (goal.at.overflow_add-reads c).In-all in
    let most = search-by_halves.few c.args.object (get_or (lists at) c.all.i []) limits.names (omega (arith, short at)) in
    omega (arith, most, ap (λ (s : Search). s.reads) c.loop-low.invariant.read.says)

pub loop-low-preserved-then-name-object-2 : goal.loop-low-preserved-then-name-object-2
loop-low-preserved-then-name-object-2 c =
    let at = (goal.at.loop-low-preserved-then-name-object-2 c).In-all in
    let h = c.loop-low.invariant in
    let behind = up c.args.object (array at) {low = c.loop-low.low} {high = c.loop-low.high} (omega arith) (omega (arith, whole at)) c.if-name-object.false c.if-name-object-2.true in
    record { order = omega arith; fits = h.fits; lost = h.lost; places = length-set c.loop-low.reads c.all.i _ ∙ h.places; read = searched_read h.read (omega (arith, c.requires.places)) behind }

pub loop-low-preserved : goal.loop-low-preserved
loop-low-preserved c =
    let at = (goal.at.loop-low-preserved c).In-all in
    let h = c.loop-low.invariant in
    let before = down c.args.object (array at) {low = c.loop-low.low} {high = c.loop-low.high} (omega arith) (omega (arith, whole at)) c.if-name-object.false c.if-name-object-2.false in
    record { order = omega arith; fits = omega arith; lost = h.lost; places = length-set c.loop-low.reads c.all.i _ ∙ h.places; read = searched_read h.read (omega (arith, c.requires.places)) before }

pub all-preserved : goal.all-preserved
all-preserved c =
    let at = (goal.at.all-preserved c).In-all in
    let g = c.all.invariant in
    let h = c.loop-low.invariant in
    let end = searched_over h.read (search_empty c.args.object (array at) c.loop-low.low c.loop-low.high (omega arith)) in
    record {
      lost = h.lost;
      places = h.places;
      passed = any_passed (finds c.args.object) (lists at) c.all.i [] (inside at) g.passed end.0;
      counts = end.1 ∙ filled_next (manifest_limit limits) 0 (counted c.args.object) (lists at) g.counts [] (inside at) (omega (arith, c.requires.places));
    }

pub returns-after-all : goal.returns-after-all
returns-after-all c =
    let lists = lists_in c.args.names.now c.args.counts.now in
    let passed = take_all c.all.i lists (omega (arith, lists_long c.args.names.now c.args.counts.now c.requires.arrays)) in
    reach-none c.args.object lists c.all.invariant.lost
    (ap (any (finds c.args.object)) (sym passed) ∙ c.all.invariant.passed)
    (c.all.invariant.counts ∙ ap (λ (l : List (List ℕ)). pad (manifest_limit limits) 0 (map (counted c.args.object) l)) passed)

pub returns-then-name-object : goal.returns-then-name-object
returns-then-name-object c =
    let at = (goal.at.returns-then-name-object c).In-all in
    let g = c.all.invariant in
    let h = c.loop-low.invariant in
    let read = here c.args.object (array at) {low = c.loop-low.low} {high = c.loop-low.high} (omega arith) (omega (arith, whole at)) c.if-name-object.true in
    let end = searched_over (searched_read h.read (omega (arith, c.requires.places)) read) refl in
    reach-found c.args.object (lists at) c.all.i (inside at) g.passed end.0
    (end.1 ∙ filled_next (manifest_limit limits) 0 (counted c.args.object) (lists at) g.counts [] (inside at) (omega (arith, c.requires.places)))
