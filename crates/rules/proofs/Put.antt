-- PUT keeps the relation.
-- Assumes nothing.
use mathlib.Core.Path.{◌≡◌, refl, sym, ap, ◌∙◌, subst}
use mathlib.Core.Logic.{◌⊎◌, inl, inr}
use mathlib.Core.Bool.{Bool, true, false, not, cond}
use mathlib.Core.List.Memᴰ
use mathlib.Core.List.{List, [], ◌∷◌}
use Prim.Native.Nat.{ℕ, suc, ◌≤◌, ◌<◌}
use native.Mathlib.Omega.{arith}
use lib.Dec.{eqb}
use lib.ListN.{length}
use borrow.Author.Tests.{eq-eqb, le-ltb}
use Rattle.rules.specs.declared.Object.{Object}
use Rattle.rules.specs.declared.Role.{Role}
use Rattle.rules.specs.Agreement.{Agrees, Match, Objects, Safe}
use Rattle.rules.specs.History.{History, Stored, current_number, listed_at, lists, named_above, stored_at, with_objects}
use Rattle.rules.specs.Limits.{Limits}
use Rattle.rules.specs.Lists.{◌∈◌, keep}
use Rattle.rules.specs.State.{State, objects, occupied}
use Rattle.rules.specs.Step.{place, put}
use Rattle.rules.specs.Table.{nonzero}
use Rattle.rules.specs.Words.{stored}
use Rattle.rules.proofs.Lists.{any_in, in_any, in_keep, keep_in, true-false}

module _ (o : Object) where
  pub place-length : (ps : List Object) → length (place o ps) ≡ length ps
  unfolding place
  place-length [] = refl
  place-length (x ∷ xs) = step (occupied x) (place-length xs)
    where
      step : (b : Bool) → length (place o xs) ≡ length xs → length (cond b (x ∷ place o xs) (o ∷ xs)) ≡ length (x ∷ xs)
      step true e = ap suc e
      step false e = refl

  pub place-from : (q : Object) (ps : List Object) → q ∈ place o ps → (q ≡ o) ⊎ (q ∈ ps)
  unfolding place
  place-from q [] i = absurd (Memᴰ.not-nil i)
  place-from q (x ∷ xs) i = step (occupied x) i (place-from q xs)
    where
      later : (q ≡ o) ⊎ (q ∈ xs) → (q ≡ o) ⊎ (q ∈ x ∷ xs)
      later (inl e) = inl e
      later (inr j) = inr (Memᴰ.tail j)

      kept : (q ≡ x) ⊎ (q ∈ place o xs) → (q ∈ place o xs → (q ≡ o) ⊎ (q ∈ xs)) → (q ≡ o) ⊎ (q ∈ x ∷ xs)
      kept (inl e) f = inr (Memᴰ.head e)
      kept (inr j) f = later (f j)

      step : (b : Bool) → q ∈ cond b (x ∷ place o xs) (o ∷ xs) → (q ∈ place o xs → (q ≡ o) ⊎ (q ∈ xs)) → (q ≡ o) ⊎ (q ∈ x ∷ xs)
      step true j f = kept (Memᴰ.cases_cons j) f
      step false j f = later (Memᴰ.cases_cons j)

  -- a stored object keeps its place
  pub place-to : (q : Object) (ps : List Object) → q ∈ ps → occupied q ≡ true → q ∈ place o ps
  unfolding place
  place-to q [] i t = absurd (Memᴰ.not-nil i)
  place-to q (x ∷ xs) i t = step (occupied x) refl (Memᴰ.cases_cons i) (λ j. place-to q xs j t)
    where
      step : (b : Bool) → occupied x ≡ b → (q ≡ x) ⊎ (q ∈ xs) → (q ∈ xs → q ∈ place o xs) → q ∈ cond b (x ∷ place o xs) (o ∷ xs)
      step true e (inl w) f = Memᴰ.head w
      step true e (inr j) f = Memᴰ.tail (f j)
      step false e (inl w) f = true-false (occupied q) t (ap occupied w ∙ e)
      step false e (inr j) f = Memᴰ.tail j

  -- where not every place is taken, the object is placed
  pub place_in : (ps : List Object) → length (keep occupied ps) < length ps → o ∈ place o ps
  unfolding place keep
  place_in [] h = absurd (omega arith)
  place_in (x ∷ xs) h = step (occupied x) h (place_in xs)
    where
      step : (b : Bool) → length (cond b (x ∷ keep occupied xs) (keep occupied xs)) < length (x ∷ xs) → (length (keep occupied xs) < length xs → o ∈ place o xs) → o ∈ cond b (x ∷ place o xs) (o ∷ xs)
      step true h f = Memᴰ.tail (f (omega arith))
      step false h f = Memᴰ.head refl

-- no manifest is above the current one
named_none : (since n : ℕ) (ls : List (List ℕ)) → length ls ≤ suc since → named_above since n ls ≡ false
unfolding named_above
named_none since n [] h = refl
named_none since n (l ∷ ls) h = rw (le-ltb since (length ls) (omega arith), named_none since n ls (omega arith))

module _ {L : Limits} (s : State) (h : History) (r : Agrees L s h) (o : Object) (p : Stored) (match : Match (lists h) o p)
    (nonzero : occupied o ≡ true) (new : stored s o.number ≡ false) (room : length (objects s) < L.places) where
  placed : o ∈ keep occupied (place o s.places)
  placed = let z = r.things.size in
      in_keep occupied (place_in o s.places (omega arith)) nonzero

  from : (q : Object) → q ∈ keep occupied (place o s.places) → (q ≡ o) ⊎ (q ∈ objects s)
  from q i = let k = keep_in occupied (place o s.places) i in step k.1 (place-from o q s.places k.0)
    where
      step : occupied q ≡ true → (q ≡ o) ⊎ (q ∈ s.places) → (q ≡ o) ⊎ (q ∈ objects s)
      step t (inl e) = inl e
      step t (inr j) = inr (in_keep occupied j t)

  to : (q : Object) → q ∈ objects s → q ∈ keep occupied (place o s.places)
  to q i = let k = keep_in occupied s.places i in in_keep occupied (place-to o q s.places k.0 k.1) k.1

  -- no stored object has the number of the one put
  clash : {C : Type 0} (q : Object) → q ∈ objects s → o.number ≡ q.number → C
  unfolding stored
  clash q i e = true-false _ (in_any (λ (q : Object). eqb o.number q.number) i (eq-eqb _ _ e)) new

  put-objects : Objects L (place o s.places) (p ∷ h.objects) (lists h)
  put-objects = record {
    size = place-length o s.places ∙ r.things.size;
    noted = λ q i. noted q (from q i);
    found = λ q i. found q (Memᴰ.cases_cons i);
    unique = λ q q' i j e. unique q q' e (from q i) (from q' j);
  }
    where
      noted : (q : Object) → (q ≡ o) ⊎ (q ∈ objects s) → (p' : Stored) × (p' ∈ p ∷ h.objects) × Match (lists h) q p'
      noted q (inl e) = (p, Memᴰ.head refl, subst (λ q. Match (lists h) q p) (sym e) match)
      noted q (inr i) = let f = r.things.noted q i in (f.0, Memᴰ.tail f.1, f.2)

      found : (q : Stored) → (q ≡ p) ⊎ (q ∈ h.objects) → (o' : Object) × (o' ∈ keep occupied (place o s.places)) × Match (lists h) o' q
      found q (inl e) = (o, placed, subst (λ q. Match (lists h) o q) (sym e) match)
      found q (inr i) = let f = r.things.found q i in (f.0, to f.0 f.1, f.2)

      unique : (q q' : Object) → q.number ≡ q'.number → (q ≡ o) ⊎ (q ∈ objects s) → (q' ≡ o) ⊎ (q' ∈ objects s) → q ≡ q'
      unique q q' e (inl a) (inl b) = a ∙ sym b
      unique q q' e (inl a) (inr b) = clash q' b (sym (ap (λ (o : Object). o.number) a) ∙ e)
      unique q q' e (inr a) (inl b) = clash q a (sym (ap (λ (o : Object). o.number) b) ∙ sym e)
      unique q q' e (inr a) (inr b) = r.things.unique q q' a b e

  put-safe : Safe (with_objects h (p ∷ h.objects))
  unfolding listed_at stored_at
  put-safe n e = let k = any_in (λ (p : Stored). eqb n p.number) h.objects (r.safe n e) in
      in_any (λ (p : Stored). eqb n p.number) (Memᴰ.tail k.1) k.2

  put-agrees : Agrees L (put o s) (with_objects h (p ∷ h.objects))
  put-agrees = record {
    clock = r.clock;
    number = r.number;
    names = r.names;
    writer = r.writer;
    compactor = r.compactor;
    things = put-objects;
    holding = r.holding;
    manifests = r.manifests;
    safe = put-safe;
  }

pub put_keeps : {L : Limits} (s : State) (h : History) → Agrees L s h → (role : Role) (e n c : ℕ) → eqb n 0 ≡ false → stored s n ≡ false → length (objects s) < L.places
    → Agrees L (put (record { number = n; role = role; epoch = e; currency = c; named = false }) s)
    (with_objects h (record { number = n; role = role; epoch = e; currency = c; since = current_number h } ∷ h.objects))
put_keeps s h r role e n c nonzero new room = put-agrees s h r _ _
    (record { number = refl; role = refl; epoch = refl; currency = refl; named = sym (named_none (length h.past) n (lists h) (omega arith)); since = omega arith })
    (ap not nonzero) new room
