-- COLLECT keeps the shape of a sound ledger.
-- Assumes nothing.
use mathlib.Core.Path.{◌≡◌, refl, sym, ap, ◌∙◌}
use mathlib.Core.Bool.{Bool, true, false, not, cond, ◌&&◌}
use mathlib.Core.List.Memᴰ
use mathlib.Core.List.{List, [], ◌∷◌, map}
use Prim.Native.Nat.{ℕ}
use lib.ListN.{length-map}
use Rattle.rules.specs.declared.Hold.{Hold}
use Rattle.rules.specs.declared.Object.{Object}
use Rattle.rules.specs.Limits.{Limits}
use Rattle.rules.specs.Lists.{◌∈◌, distinct, has, keep}
use Rattle.rules.specs.State.{Manifest, State, first_manifest, free, kept, objects, occupied}
use Rattle.rules.specs.Step.{clear, collect}
use Rattle.rules.specs.Words.{dead, listed, live, manifest_of, pending}
use Rattle.rules.proofs.Collect.{clear-from, clear-to}
use Rattle.rules.proofs.Lists.{in_any, in_keep, lookup_in, or_left, or_right}
use Rattle.rules.proofs.Numbers.{distinct-keep, in_has}
use Rattle.rules.proofs.Ordered.{ordered-unique}
use Rattle.rules.proofs.Shape.{Named, Shape, numbers}

-- what is left is what was not dead
clear-objects : (t : ℕ) (s : State) (ps : List Object) → keep occupied (map (clear t s) ps) ≡ keep (λ o. not (dead t s o)) (keep occupied ps)
unfolding keep
clear-objects t s [] = refl
clear-objects t s (o ∷ os) = step (dead t s o) refl (occupied o) refl (clear-objects t s os)
  where
    alive : Object → Bool
    alive o = not (dead t s o)

    L : List Object
    L = keep occupied (map (clear t s) os)

    K : List Object
    K = keep occupied os

    step : (d : Bool) → dead t s o ≡ d → (b : Bool) → occupied o ≡ b → L ≡ keep alive K → cond (occupied (cond d free o)) (cond d free o ∷ L) L ≡ keep alive (cond b (o ∷ K) K)
    step true p true q e = e ∙ ap (λ d. cond (not d) (o ∷ keep alive K) (keep alive K)) (sym p)
    step true p false q e = e
    step false p true q e = ap (λ b. cond b (o ∷ L) L) q ∙ ap (λ l. o ∷ l) e ∙ ap (λ d. cond (not d) (o ∷ keep alive K) (keep alive K)) (sym p)
    step false p false q e = ap (λ b. cond b (o ∷ L) L) q ∙ e

module _ {L : Limits} (s : State) (r : Shape L s) where
  -- what a current or held manifest names is listed
  spared : (o : Object) → listed s.clock s o.number ≡ true → dead s.clock s o ≡ false
  unfolding dead
  spared o e = ap (λ b. not (pending s o) && not b) e ∙ mathlib.Core.Bool.and-false (not (pending s o))

  left-named : (ns : List ℕ) → ((n : ℕ) → n ∈ ns → listed s.clock s n ≡ true) → Named (objects s) ns → Named (keep occupied (map (clear s.clock s) s.places)) ns
  left-named ns list f n i = let k = f n i in (k.0, clear-to s.clock s k.0 k.1 (spared k.0 (ap (listed s.clock s) k.2 ∙ list n i)), k.2, k.3)

  current-listed : (n : ℕ) → n ∈ s.current.names → listed s.clock s n ≡ true
  unfolding listed
  current-listed n i = or_left (has n s.current.names) _ (in_has i)

  held-listed : (x : Hold) → x ∈ s.holds → (m : Manifest) → m ∈ kept s → m.number ≡ x.manifest → (n : ℕ) → n ∈ m.names → listed s.clock s n ≡ true
  unfolding listed manifest_of
  held-listed x i m j q n k =
      let f = lookup_in (λ (m : Manifest). m.number) (λ m. m) first_manifest x.manifest (kept s) j q in
      let e = f.3 ∙ ordered-unique 0 0 0 (kept s) f.0 m r.ordered f.1 j (f.2 ∙ sym q) in
      or_right (has n s.current.names) _ (in_any (λ (x : Hold). has n (manifest_of s x.manifest).names) (in_keep (live s.clock) i (r.alive x i))
      (ap (λ (m : Manifest). has n m.names) e ∙ in_has k))

  pub collect_shape : Shape L (collect s)
  collect_shape = record {
    size = length-map s.places (clear s.clock s) ∙ r.size;
    unused = λ o i z. let m = Memᴰ.of_map (clear s.clock s) s.places i in empty o z m.0 m.1 (dead s.clock s m.0) m.2;
    stored = λ o i. r.stored o (clear-from s.clock s o i).0;
    distinct = ap (λ os. distinct (numbers os)) (clear-objects s.clock s s.places) ∙ distinct-keep (λ (o : Object). o.number) _ (objects s) r.distinct;
    ordered = r.ordered;
    rising = r.rising;
    short = r.short;
    current = left-named s.current.names current-listed r.current;
    held = λ x i m j q. left-named m.names (held-listed x i m j q) (r.held x i m j q);
    holds_rising = r.holds_rising;
    few = r.few;
    holds = r.holds;
    alive = r.alive;
  }
    where
      empty : (o : Object) → occupied o ≡ false → (q : Object) → q ∈ s.places → (b : Bool) → cond b free q ≡ o → o ≡ free
      empty o z q i true e = sym e
      empty o z q i false e = sym e ∙ r.unused q i (ap occupied e ∙ z)
