-- Laws of the rules that code rests on, so that it never opens a definition.
-- Assumes nothing.
use mathlib.Core.Path.{◌≡◌, refl, sym, ap, ap₂, ◌∙◌}
use mathlib.Core.Bool.{Bool, true, false, not, cond, ◌&&◌, ◌||◌}
use mathlib.Core.List.Memᴰ
use mathlib.Core.List.{List, [], ◌∷◌, ◌++◌, map}
use Prim.Native.Nat.{ℕ, suc}
use lib.Dec.{eqb}
use lib.ListN.{set}
use borrow.Author.Tests.{eq-eqb, eqb-true}
use Rattle.rules.specs.declared.Hold.{Hold}
use Rattle.rules.specs.declared.Object.{Object}
use Rattle.rules.specs.Lists.{◌∈◌, has, keep, lookup, maximum, sorted}
use Rattle.rules.specs.State.{Manifest, State, first_manifest, free, objects, occupied}
use Rattle.rules.specs.Step.{clear, collect, collected, held_by, place, tidy}
use Rattle.rules.specs.Words.{dead, listed, live, live_holds, manifest_of, pending}
use Rattle.rules.proofs.Lists.{any_same, in_any, keep_in, keep_same, true-false}

-- Manifests

module _ {A B : Type 0} (key : A → ℕ) (value : A → B) (default : B) (p : A → Bool) where
  -- dropping what has another key does not change what is found
  pub lookup-keep : (n : ℕ) (l rest : List A) → ((x : A) → x ∈ l → key x ≡ n → p x ≡ true) → lookup key value default n (keep p l ++ rest) ≡ lookup key value default n (l ++ rest)
  unfolding lookup keep
  lookup-keep n [] rest f = refl
  lookup-keep n (x ∷ xs) rest f = step (p x) refl (eqb n (key x)) refl (lookup-keep n xs rest (λ y i. f y (Memᴰ.tail i)))
    where
      step : (b : Bool) → p x ≡ b → (c : Bool) → eqb n (key x) ≡ c → lookup key value default n (keep p xs ++ rest) ≡ lookup key value default n (xs ++ rest)
          → lookup key value default n (cond b (x ∷ keep p xs) (keep p xs) ++ rest) ≡ cond (eqb n (key x)) (value x) (lookup key value default n (xs ++ rest))
      step true q c e r = ap (λ y. cond (eqb n (key x)) (value x) y) r
      step false q true e r = true-false (p x) (f x (Memᴰ.head refl) (sym (eqb-true n (key x) e))) q
      step false q false e r = r ∙ ap (λ b. cond b (value x) (lookup key value default n (xs ++ rest))) (sym e)

-- a hold's manifest is found the same after inactive manifests are dropped
pub manifest-tidy : (s : State) (x : Hold) → x ∈ s.holds → manifest_of (tidy s) x.manifest ≡ manifest_of s x.manifest
unfolding manifest_of
manifest-tidy s x i =
    lookup-keep (λ (m : Manifest). m.number) (λ m. m) first_manifest (held_by s.holds) x.manifest s.older (s.current ∷ [])
    (λ m j e. in_any (λ (y : Hold). eqb m.number y.manifest) i (eq-eqb _ _ e))

pub dead-tidy : (t : ℕ) (s : State) (o : Object) → dead t (tidy s) o ≡ dead t s o
unfolding dead pending listed
dead-tidy t s o =
    ap (λ b. not (pending s o) && not (has o.number s.current.names || b))
    (any_same _ _ (live_holds t s) (λ x i. ap (λ (m : Manifest). has o.number m.names) (manifest-tidy s x (keep_in (live t) s.holds i).0)))

pub collected-tidy : (t : ℕ) (s : State) → collected t (tidy s) ≡ collected t s
unfolding collected
collected-tidy t s = ap (λ os. sorted (map (λ (o : Object). o.number) os)) (keep_same _ _ (objects s) (λ o i. dead-tidy t s o))

-- a collection may run after the inactive manifests are dropped
pub collect-tidy : (s : State) → tidy (collect s) ≡ collect (tidy s)
collect-tidy s = λ i. record {
  clock = s.clock;
  highest_collected = maximum (s.highest_collected ∷ sym (collected-tidy s.clock s) i);
  places = same s.places i;
  older = keep (held_by s.holds) s.older;
  current = s.current;
  holds = s.holds;
}
  where
    same : (ps : List Object) → map (clear s.clock s) ps ≡ map (clear s.clock (tidy s)) ps
    same [] = refl
    same (o ∷ os) = ap₂ ◌∷◌ (ap (λ b. cond b free o) (sym (dead-tidy s.clock s o))) (same os)

-- Places

-- the lowest free place, or the number of places where none is free
unfoldable pub lowest_free : List Object → ℕ
lowest_free [] = 0
lowest_free (o ∷ os) = cond (occupied o) (suc (lowest_free os)) 0

pub place-lowest : (o : Object) (ps : List Object) → place o ps ≡ set ps (lowest_free ps) o
unfolding place lowest_free
place-lowest o [] = refl
place-lowest o (x ∷ xs) = step (occupied x) (place-lowest o xs)
  where
    step : (b : Bool) → place o xs ≡ set xs (lowest_free xs) o → cond b (x ∷ place o xs) (o ∷ xs) ≡ set (x ∷ xs) (cond b (suc (lowest_free xs)) 0) o
    step true e = ap (λ l. x ∷ l) e
    step false e = refl
