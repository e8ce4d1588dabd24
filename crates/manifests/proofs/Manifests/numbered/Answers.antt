use Rattle.std.proofs.Common.{rules, tests, ◌≡◌, refl, sym, ap, ap₂, ◌∙◌, Bool, true, false, cond, List, [], ◌∷◌, map, ℕ, Option, Some, None, arith}
use Rattle.std.specs.Option.{MatchOption, unwrap_or}
use Rattle.std.proofs.lemmas.Iterator.Search.{find_from_yields_List}
use Rattle.std.proofs.lemmas.Iterator.{YieldsList-from_slice}
use lib.Dec.{eqb}
use Rattle.std.specs.List.{find}
use Rattle.rules.specs.Lists.{lookup}
use Rattle.rules.specs.State.{Manifest, first_manifest}
use Rattle.holds.proofs.Found.{lookup-find}
use Rattle.manifests.specs.declared.KeptManifest.{KeptManifest}
use Rattle.manifests.specs.Manifests.{lay_manifest, no_manifest, manifests_of}
use Rattle.manifests.proofs.Places.{long, first-laid, kept_same}
use Rattle.manifests.proofs.Manifests.numbered.Goals as goal

-- looking up a place is laying out what is looked up
lookup_laid : (n : ℕ) (ms : List Manifest)
    → lookup (λ (m : KeptManifest). m.number) (λ m. m) (lay_manifest first_manifest) n (map lay_manifest ms) ≡ lay_manifest (lookup (λ (m : Manifest). m.number) (λ m. m) first_manifest n ms)
unfolding lookup
lookup_laid n [] = refl
lookup_laid n (m ∷ ms) = step (eqb n m.number) _ _ (lookup_laid n ms)
  where
    step : (b : Bool) (x : KeptManifest) (y : Manifest) → x ≡ lay_manifest y → cond b (lay_manifest m) x ≡ lay_manifest (cond b m y)
    step true x y e = refl
    step false x y e = e

unwrapped : (o : Option KeptManifest) (d : KeptManifest) → MatchOption o (unwrap_or o d ≡ d) (λ m. unwrap_or o d ≡ m)
unwrapped None d = refl
unwrapped (Some m) d = refl

pub returns : goal.returns
returns c =
    let s = c.args.self in
    let n = c.args.number in
    let kept = c.kept.result.now in
    let this : KeptManifest → Bool = λ m. eqb n m.number in
    let found : c.copied.result ≡ find this kept =
    c.copied.ensures ∙ find_from_yields_List this _ _ c.find.result c.find.ensures.ran (YieldsList-from_slice kept cc) (λ x b q k. search (rules, tests)) in
    c.unwrap_or.ensures ∙ ap (λ (o : Option KeptManifest). unwrap_or o no_manifest) found
    ∙ lookup-find (λ (m : KeptManifest). m.number) (λ m. m) no_manifest n _ kept (unwrapped _ no_manifest)
    ∙ ap₂ (λ (d : KeptManifest) (l : List KeptManifest). lookup (λ (m : KeptManifest). m.number) (λ m. m) d n l) (sym first-laid)
    (c.kept.ensures ∙ sym (kept_same s (long s _ c.well_formed.0) c.requires s.count (omega arith)))
    ∙ lookup_laid n (manifests_of s)
