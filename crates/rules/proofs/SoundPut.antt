-- PUT keeps the shape of a sound ledger.
-- Assumes nothing.
use mathlib.Core.Path.{◌≡◌, refl, sym, ap, ◌∙◌, subst}
use mathlib.Core.Logic.{◌⊎◌, inl, inr}
use mathlib.Core.Bool.{Bool, true, false, not, cond}
use mathlib.Core.List.Memᴰ
use mathlib.Core.List.{List, [], ◌∷◌}
use Prim.Native.Nat.{ℕ}
use lib.Dec.{eqb}
use borrow.Author.Tests.{eqb-false, eq-eqb, not-true}
use Rattle.rules.specs.declared.Object.{Object}
use Rattle.rules.specs.Limits.{Limits}
use Rattle.rules.specs.Lists.{◌∈◌, any, distinct, has, keep}
use Rattle.rules.specs.State.{State, free, objects, occupied}
use Rattle.rules.specs.Step.{place, put}
use Rattle.rules.specs.Words.{stored}
use Rattle.rules.proofs.Lists.{and_both, and_left, and_right, decide, in_any, in_keep, keep_in, or_false-left, or_false_right, true-false}
use Rattle.rules.proofs.Numbers.{has_in, in_has}
use Rattle.rules.proofs.Put.{place-from, place-length, place-to}
use Rattle.rules.proofs.Shape.{Named, ObjectOk, Shape, numbers}

place-numbers : (o : Object) (n : ℕ) (ps : List Object) → has n (numbers (keep occupied (place o ps))) ≡ true → (n ≡ o.number) ⊎ (has n (numbers (keep occupied ps)) ≡ true)
place-numbers o n ps e =
    let m = Memᴰ.of_map (λ (o : Object). o.number) (keep occupied (place o ps)) (has_in n _ e) in
    let k = keep_in occupied (place o ps) m.1 in
    step m.0 m.2 k.1 (place-from o m.0 ps k.0)
  where
    step : (q : Object) → q.number ≡ n → occupied q ≡ true → (q ≡ o) ⊎ (q ∈ ps) → (n ≡ o.number) ⊎ (has n (numbers (keep occupied ps)) ≡ true)
    step q e t (inl p) = inl (sym e ∙ ap (λ (o : Object). o.number) p)
    step q e t (inr i) = inr (in_has (Memᴰ.cast (sym e) (Memᴰ.map (λ (o : Object). o.number) (in_keep occupied i t))))

place-distinct : (o : Object) (ps : List Object) → occupied o ≡ true → has o.number (numbers (keep occupied ps)) ≡ false
    → distinct (numbers (keep occupied ps)) ≡ true → distinct (numbers (keep occupied (place o ps))) ≡ true
unfolding place keep distinct has any
place-distinct o [] t new e = refl
place-distinct o (x ∷ xs) t new e = step (occupied x) refl new e (place-distinct o xs t)
  where
    K : List Object
    K = keep occupied xs

    P : List Object
    P = keep occupied (place o xs)

    step : (b : Bool) → occupied x ≡ b → has o.number (numbers (cond b (x ∷ K) K)) ≡ false → distinct (numbers (cond b (x ∷ K) K)) ≡ true
        → (has o.number (numbers K) ≡ false → distinct (numbers K) ≡ true → distinct (numbers P) ≡ true)
        → distinct (numbers (keep occupied (cond b (x ∷ place o xs) (o ∷ xs)))) ≡ true
    step true q new e f =
        subst (λ b. distinct (numbers (cond b (x ∷ P) P)) ≡ true) (sym q)
        (and_both _ _ (ap not (absent (decide (has x.number (numbers P)))))
        (f (or_false_right (eqb o.number x.number) _ new) (and_right (not (has x.number (numbers K))) _ e)))
      where
        clash : (x.number ≡ o.number) ⊎ (has x.number (numbers K) ≡ true) → has x.number (numbers P) ≡ false
        clash (inl p) = absurd (eqb-false o.number x.number (or_false-left (eqb o.number x.number) _ new) (sym p))
        clash (inr p) = true-false _ p (not-true _ (and_left (not (has x.number (numbers K))) _ e))

        absent : (has x.number (numbers P) ≡ true) ⊎ (has x.number (numbers P) ≡ false) → has x.number (numbers P) ≡ false
        absent (inl p) = clash (place-numbers o x.number xs p)
        absent (inr p) = p
    step false q new e f = subst (λ b. distinct (numbers (cond b (o ∷ K) K)) ≡ true) (sym t) (and_both _ _ (ap not new) e)

module _ {L : Limits} (s : State) (r : Shape L s) (o : Object) (used : occupied o ≡ true) (new : stored s o.number ≡ false)
    (ok : ObjectOk s.current o) where
  put-to : (q : Object) → q ∈ objects s → q ∈ keep occupied (place o s.places)
  put-to q i = let k = keep_in occupied s.places i in in_keep occupied (place-to o q s.places k.0 k.1) k.1

  put-named : (ns : List ℕ) → Named (objects s) ns → Named (keep occupied (place o s.places)) ns
  put-named ns f n i = let k = f n i in (k.0, put-to k.0 k.1, k.2, k.3)

  put-absent : has o.number (numbers (objects s)) ≡ false
  unfolding stored
  put-absent = fall (decide (has o.number (numbers (objects s))))
    where
      fall : (has o.number (numbers (objects s)) ≡ true) ⊎ (has o.number (numbers (objects s)) ≡ false) → has o.number (numbers (objects s)) ≡ false
      fall (inl t) = let m = Memᴰ.of_map (λ (o : Object). o.number) (objects s) (has_in _ _ t) in
          true-false _ (in_any (λ (q : Object). eqb o.number q.number) m.1 (eq-eqb _ _ (sym m.2))) new
      fall (inr t) = t

  pub put_shape : Shape L (put o s)
  put_shape = record {
    size = place-length o s.places ∙ r.size;
    unused = λ q i z. empty q z (place-from o q s.places i);
    stored = λ q i. let k = keep_in occupied (place o s.places) i in sound q k.1 (place-from o q s.places k.0);
    distinct = place-distinct o s.places used put-absent r.distinct;
    ordered = r.ordered;
    rising = r.rising;
    short = r.short;
    current = put-named s.current.names r.current;
    held = λ x i m j q. put-named m.names (r.held x i m j q);
    holds_rising = r.holds_rising;
    few = r.few;
    holds = r.holds;
    alive = r.alive;
  }
    where
      empty : (q : Object) → occupied q ≡ false → (q ≡ o) ⊎ (q ∈ s.places) → q ≡ free
      empty q z (inl e) = true-false (occupied o) used (ap occupied (sym e) ∙ z)
      empty q z (inr i) = r.unused q i z

      sound : (q : Object) → occupied q ≡ true → (q ≡ o) ⊎ (q ∈ s.places) → ObjectOk s.current q
      sound q t (inl e) = subst (ObjectOk s.current) (sym e) ok
      sound q t (inr i) = r.stored q (in_keep occupied i t)
