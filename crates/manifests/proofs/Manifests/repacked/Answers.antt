use Rattle.std.proofs.Common.{rules, tests, arith, ◌≡◌, sym, ap, ap₂, ◌∙◌, List, [], ◌∷◌, ◌++◌, map, ℕ, ◌+◌, ◌≤◌, length, take, drop}
use lib.ListN.{set, replicate, length-map, length-append}
use Rattle.rules.specs.Limits.{limits, manifest_limit}
use Rattle.rules.specs.Lists.{keep}
use Rattle.rules.specs.State.{Manifest}
use Rattle.rules.specs.Step.{held_by}
use Rattle.arrays.specs.Arrays.{pad}
use Rattle.arrays.proofs.Lists.{keep_same, laid_over, pad-set, map-append}
use Rattle.holds.specs.declared.Holds.{Holds}
use Rattle.holds.specs.Holds.{holds_of}
use Rattle.manifests.specs.declared.KeptManifest.{KeptManifest}
use Rattle.manifests.specs.declared.Manifests.{Manifests}
use Rattle.manifests.specs.Manifests.{lay_manifest, lay_manifests, manifest_of, no_manifest, Repackable}
use Rattle.manifests.proofs.Places.{Long, long, kept_same}
use Rattle.manifests.proofs.Manifests.repacked.Goals.{After-pack-count}
use Rattle.manifests.proofs.Manifests.repacked.Goals as goal

-- the places that are kept, and what they say
module _ (ms : Manifests) (n : ℕ) (hs : Holds) (last : KeptManifest) (l : Long ms) (r : Repackable ms n hs last) where
  abbrev places : List KeptManifest
  places = keep (λ (m : KeptManifest). held_by (holds_of hs) (manifest_of m)) (take n ms.items)

  abbrev said : List Manifest
  said = keep (held_by (holds_of hs)) (map manifest_of (take n ms.items))

  laid : map lay_manifest said ≡ places
  laid = keep_same manifest_of lay_manifest (held_by (holds_of hs)) (take n ms.items) (kept_same ms l r.laid n r.some)

  same : length said ≡ length places
  same = sym (length-map said lay_manifest) ∙ ap length laid

  few : length places ≤ limits.holds
  few = omega (arith, same, r.few)

  -- the last one goes behind them
  packed_last : {k : ℕ} {items : List KeptManifest} → k ≡ length places → items ≡ places ++ drop (length places) (replicate (manifest_limit limits) no_manifest)
      → ◌≡◌ {A = Manifests} (record { count = k + 1; items = set items k last }) (lay_manifests (said ++ (manifest_of last ∷ [])))
  packed_last {k} {items} count array =
      let all : map lay_manifest (said ++ (manifest_of last ∷ [])) ≡ places ++ (last ∷ []) =
      map-append lay_manifest said (manifest_of last ∷ []) ∙ ap₂ ◌++◌ laid (ap (λ (m : KeptManifest). m ∷ []) r.formed) in
      let one_more : k + 1 ≡ length (said ++ (manifest_of last ∷ [])) = omega (arith, length-append said (manifest_of last ∷ []), count, same) in
      λ i. record {
        count = one_more i;
        items = (ap₂ (λ (a : List KeptManifest) (j : ℕ). set a j last) (array ∙ laid_over (manifest_limit limits) no_manifest places) count
            ∙ pad-set (manifest_limit limits) no_manifest places last (omega (arith, few)) ∙ ap (pad (manifest_limit limits) no_manifest) (sym all)) i;
      }

-- how many are kept
module _ (c : After-pack-count) where
  count : c.pack-count.result ≡ length (places c.args.self c.args.n c.args.holds c.args.last (long c.args.self _ c.well_formed.0) c.requires)
  count = c.pack-count.ensures.count (λ (m : KeptManifest). held_by (holds_of c.args.holds) (manifest_of m)) (λ x r k. search (rules, tests))

  room : c.pack-count.result ≤ limits.holds
  room = omega (arith, count, few c.args.self c.args.n c.args.holds c.args.last (long c.args.self _ c.well_formed.0) c.requires)

pub offset_bounds-items-count : goal.offset_bounds-items-count
offset_bounds-items-count c = omega (arith, room (goal.at.offset_bounds-items-count c).After-pack-count)

pub bounds-items-count : goal.bounds-items-count
bounds-items-count c = omega (arith, room (goal.at.bounds-items-count c).After-pack-count)

pub overflow_add-result : goal.overflow_add-result
overflow_add-result c = omega (arith, room (goal.at.overflow_add-result c).After-pack-count)

pub returns : goal.returns
returns c =
    packed_last c.args.self c.args.n c.args.holds c.args.last (long c.args.self _ c.well_formed.0) c.requires (count (goal.at.returns c).After-pack-count)
    (c.pack-count.ensures.packed (λ (m : KeptManifest). held_by (holds_of c.args.holds) (manifest_of m)) (λ x r k. search (rules, tests)))
