use Rattle.std.proofs.Common.{rules, tests, arith, ◌≡◌, refl, sym, ap, ap₂, ◌∙◌, Bool, true, false, ◌&&◌, List, [], ◌∷◌, map, ℕ, suc, drop, length, ltb, leb, ◌<◌, ◌+◌}
use Rattle.std.specs.List.{list_all, zip}
use Rattle.std.proofs.lemmas.Iterator.Search.{all_from_yields_List}
use Rattle.std.proofs.lemmas.Iterator.{YieldsList-from_slice, YieldsList-from_zip}
use Rattle.rules.specs.Lists.{conj}
use Rattle.rules.specs.State.{Manifest}
use Rattle.rules.specs.Sound.{ordered}
use borrow.Author.Tests.{le-leb}
use lib.ListN.{get_or}
use lib.Seq.{drop-cons, length-take-le}
use Rattle.std.proofs.lemmas.List.{take_rest}
use Rattle.manifests.specs.declared.KeptManifest.{KeptManifest}
use Rattle.manifests.specs.Manifests.{manifest_of, manifests_of, epochs_follow, past_end}
use Rattle.manifests.proofs.Places.{items_long, few, some}
use Rattle.manifests.proofs.Manifests.is_ordered.Goals.{After-follows}
use Rattle.manifests.proofs.Manifests.is_ordered.Goals as goal

-- what is asked of each manifest but the first, beside the one before it
abbrev rises : KeptManifest × KeptManifest → Bool
rises p = ltb p.0.number p.1.number && epochs_follow p.0.writer p.0.compactor (manifest_of p.1)

regroup : (a b d s r : Bool) → (a && (b && (d && (s && (r && true))))) ≡ ((a && (b && (d && (s && true)))) && r)
regroup true true true true true = refl
regroup true true true true false = refl
regroup true true true false r = refl
regroup true true false s r = refl
regroup true false d s r = refl
regroup false b d s r = refl

ordered_next : (n w c : ℕ) (m : Manifest) (ms : List Manifest)
    → ordered n w c (m ∷ ms) ≡ ((leb n m.number && epochs_follow w c m) && ordered (suc m.number) m.writer_epoch m.compactor_epoch ms)
unfolding ordered epochs_follow conj
ordered_next n w c m ms = regroup (leb n m.number) (leb w m.writer_epoch) (leb c m.compactor_epoch) (leb (m.writer_epoch + m.compactor_epoch) m.number) (ordered (suc m.number) m.writer_epoch m.compactor_epoch ms)

rising : (m : KeptManifest) (ms : List KeptManifest) → ordered (suc m.number) m.writer m.compactor (map manifest_of ms) ≡ list_all rises (zip (m ∷ ms) ms)
unfolding ordered
rising m [] = refl
rising m (x ∷ xs) = ordered_next _ _ _ _ _ ∙ ap (λ (b : Bool). rises (m, x) && b) (rising x xs)

-- the first has none before it
first : (m : KeptManifest) (ms : List KeptManifest) → ordered 0 0 0 (map manifest_of (m ∷ ms)) ≡ (epochs_follow 0 0 (manifest_of m) && list_all rises (zip (m ∷ ms) ms))
first m ms =
    ordered_next 0 0 0 (manifest_of m) (map manifest_of ms)
    ∙ ap₂ (λ (a b : Bool). (a && epochs_follow 0 0 (manifest_of m)) && b) (le-leb 0 m.number (omega arith)) (rising m ms)

-- and so of all of them
asked : (kept : List KeptManifest) → 0 < length kept
    → ordered 0 0 0 (map manifest_of kept) ≡ (epochs_follow 0 0 (manifest_of (get_or kept 0 past_end)) && list_all rises (zip kept (drop 1 kept)))
asked kept some =
    let begins : kept ≡ get_or kept 0 past_end ∷ drop 1 kept = drop-cons kept 0 past_end some in
    ap (λ (l : List KeptManifest). ordered 0 0 0 (map manifest_of l)) begins
    ∙ first (get_or kept 0 past_end) (drop 1 kept)
    ∙ ap (λ (l : List KeptManifest). epochs_follow 0 0 (manifest_of (get_or kept 0 past_end)) && list_all rises (zip l (drop 1 kept))) (sym begins)

-- what the places lent say is what all say
all_asked : (c : After-follows) → (c.follows.result && list_all rises (zip c.kept-kept.result.now (drop 1 c.kept-kept.result.now))) ≡ ordered 0 0 0 (manifests_of c.args.self)
all_asked c =
    let kept = c.kept-kept.result.now in
    let long : length kept ≡ c.args.self.count =
    ap length c.kept-kept.ensures ∙ length-take-le c.args.self.count c.args.self.items (omega (arith, few c.args.self c.requires, items_long c.args.self _ c.well_formed.0)) in
    ap (λ (b : Bool). b && list_all rises (zip kept (drop 1 kept))) c.follows.ensures
    ∙ sym (asked kept (omega (arith, long, some c.args.self c.requires)))
    ∙ ap (λ (l : List KeptManifest). ordered 0 0 0 (map manifest_of l)) c.kept-kept.ensures

pub returns-then-follows : goal.returns-then-follows
returns-then-follows c =
    let kept = c.kept-kept.result.now in
    all_from_yields_List rises c.all.new.self _ c.all.result c.all.ensures.ran (YieldsList-from_zip {s = c.zip.result} (YieldsList-from_slice kept cc) (YieldsList-from_slice (drop 1 kept) (c.zip.ensures.second.0 ∙ take_rest kept 1)))
    (λ x b q k. search (rules, tests))
    ∙ ap (λ (b : Bool). b && list_all rises (zip kept (drop 1 kept))) (sym c.if-follows.true)
    ∙ all_asked (goal.at.returns-then-follows c).After-follows

pub returns-else-follows : goal.returns-else-follows
returns-else-follows c =
    let kept = c.kept-kept.result.now in
    c.if-follows.false ∙ ap (λ (b : Bool). b && list_all rises (zip kept (drop 1 kept))) (sym c.if-follows.false)
    ∙ all_asked (goal.at.returns-else-follows c).After-follows
