-- COLLECT: its list is the history's, and the relation is kept.
-- Assumes nothing.
use mathlib.Core.Path.{◌≡◌, refl, sym, ap, ◌∙◌, subst}
use mathlib.Core.Bool.{Bool, true, false, not, cond, ◌&&◌, false≢true}
use mathlib.Core.List.Memᴰ
use mathlib.Core.List.{map}
use Prim.Native.Nat.{ℕ, ◌≤◌, ◌<◌}
use native.Mathlib.Omega.{arith}
use lib.Dec.{eqb}
use lib.ListN.{length-map}
use borrow.Author.Tests.{eqb-true, eqb-false, eq-eqb, not-true}
use Rattle.rules.specs.declared.Object.{Object}
use Rattle.rules.specs.Agreement.{Agrees, Match, Safe}
use Rattle.rules.specs.History.{History, Stored, dead_at, dead_object, listed_at, lists, pending_at, stored_at, with_objects}
use Rattle.rules.specs.Limits.{Limits}
use Rattle.rules.specs.Lists.{◌∈◌, has, keep, rising_above}
use Rattle.rules.specs.State.{State, free, objects, occupied}
use Rattle.rules.specs.Step.{clear, collect, collected}
use Rattle.rules.specs.Words.{dead}
use Rattle.rules.proofs.Agreement.{dead-same}
use Rattle.rules.proofs.Lists.{and_both, and_left, and_right, any_in, bool_ext, in_any, in_keep, keep_in}
use Rattle.rules.proofs.Numbers.{has_in, in_has, in_sorted, rising-sorted, sorted_in}

pub occupied_pos : (o : Object) → occupied o ≡ true → 0 < o.number
occupied_pos o e = let f = eqb-false o.number 0 (not-true (eqb o.number 0) e) in omega (arith, f)

module _ {L : Limits} (s : State) (h : History) (r : Agrees L s h) (t : ℕ) (later : s.clock ≤ t) where
  -- the list of a collection is exactly what the history calls dead
  pub collected-exact : (n : ℕ) → has n (collected t s) ≡ dead_at t h n
  unfolding collected dead_at
  collected-exact n = bool_ext _ _
      (λ e. let m = Memᴰ.of_map (λ (o : Object). o.number) (keep (dead t s) (objects s)) (sorted_in _ (has_in n _ e)) in
      let k = keep_in (dead t s) (objects s) m.1 in
      let f = r.things.noted m.0 k.0 in
      in_any (λ (p : Stored). eqb n p.number && dead_object t h p) f.1
      (and_both _ _ (eq-eqb n f.0.number (sym m.2 ∙ f.2.number)) (sym (dead-same s h r t later m.0 f.0 f.2) ∙ k.1)))
      (λ e. let k = any_in (λ (p : Stored). eqb n p.number && dead_object t h p) h.objects e in
      let f = r.things.found k.0 k.1 in
      let d = dead-same s h r t later f.0 k.0 f.2 ∙ and_right (eqb n k.0.number) (dead_object t h k.0) k.2 in
      let q = eqb-true n k.0.number (and_left (eqb n k.0.number) (dead_object t h k.0) k.2) ∙ sym f.2.number in
      in_has (in_sorted (Memᴰ.cast q (Memᴰ.map (λ (o : Object). o.number) (in_keep (dead t s) f.1 d)))))

  pub collected-rising : rising_above 0 (collected t s) ≡ true
  unfolding collected
  collected-rising = rising-sorted 0 _ (λ n i.
      let m = Memᴰ.of_map (λ (o : Object). o.number) (keep (dead t s) (objects s)) i in
      let k = keep_in occupied s.places (keep_in (dead t s) (objects s) m.1).0 in
      subst (λ k. 0 < k) m.2 (occupied_pos m.0 k.1))

-- what is left in the places after the dead are cleared
module _ (t : ℕ) (s : State) where
  pub clear-from : (o : Object) → o ∈ keep occupied (map (clear t s) s.places) → (o ∈ objects s) × (dead t s o ≡ false)
  clear-from o i =
      let k = keep_in occupied (map (clear t s) s.places) i in
      let m = Memᴰ.of_map (clear t s) s.places k.0 in
      step m.0 m.1 (dead t s m.0) refl m.2 k.1
    where
      step : (q : Object) → q ∈ s.places → (b : Bool) → dead t s q ≡ b → cond b free q ≡ o → occupied o ≡ true → (o ∈ objects s) × (dead t s o ≡ false)
      step q j true d e f = absurd (false≢true (ap occupied e ∙ f))
      step q j false d e f = (in_keep occupied (Memᴰ.cast (sym e) j) f, ap (dead t s) (sym e) ∙ d)

  pub clear-to : (o : Object) → o ∈ objects s → dead t s o ≡ false → o ∈ keep occupied (map (clear t s) s.places)
  clear-to o i d =
      let k = keep_in occupied s.places i in
      in_keep occupied (Memᴰ.cast (sym (ap (λ (b : Bool). cond b free o) d)) (Memᴰ.map (clear t s) k.0)) k.1

-- what is listed is not dead, so it stays stored
spared : (t : ℕ) (h : History) (p : Stored) → listed_at t h p.number ≡ true → not (dead_object t h p) ≡ true
unfolding dead_object
spared t h p e = ap (λ b. not (not (pending_at h p) && not b)) e ∙ nand (not (pending_at h p))
  where
    nand : (b : Bool) → not (b && false) ≡ true
    nand true = refl
    nand false = refl

collect-safe : (h : History) → Safe h → Safe (with_objects h (keep (λ p. not (dead_object h.time h p)) h.objects))
unfolding listed_at stored_at
collect-safe h safe n e =
    let k = any_in (λ (p : Stored). eqb n p.number) h.objects (safe n e) in
    let q = eqb-true n k.0.number k.2 in
    in_any (λ (p : Stored). eqb n p.number) (in_keep (λ p. not (dead_object h.time h p)) k.1 (spared h.time h k.0 (ap (listed_at h.time h) (sym q) ∙ e))) k.2

pub collect-keeps : {L : Limits} (s : State) (h : History) → Agrees L s h
    → Agrees L (collect s) (with_objects h (keep (λ p. not (dead_object h.time h p)) h.objects))
collect-keeps s h r = record {
  clock = r.clock;
  number = r.number;
  names = r.names;
  writer = r.writer;
  compactor = r.compactor;
  things = record {
    size = length-map s.places (clear t s) ∙ r.things.size;
    noted = λ o i. let k = clear-from t s o i in let f = r.things.noted o k.0 in
        (f.0, in_keep alive f.1 (ap not (same o f.0 f.2 ∙ k.1)), f.2);
    found = λ p i. let k = keep_in alive h.objects i in let f = r.things.found p k.0 in
        (f.0, clear-to t s f.0 f.1 (sym (same f.0 p f.2) ∙ not-true _ k.1), f.2);
    unique = λ o q i j e. r.things.unique o q (clear-from t s o i).0 (clear-from t s q j).0 e;
  };
  holding = r.holding;
  manifests = r.manifests;
  safe = safe;
}
  where
    t : ℕ
    t = s.clock

    alive : Stored → Bool
    alive p = not (dead_object h.time h p)

    same : (o : Object) (p : Stored) → Match (lists h) o p → dead_object h.time h p ≡ dead t s o
    same o p m = ap (λ t. dead_object t h p) (sym r.clock) ∙ sym (dead-same s h r s.clock (omega arith) o p m)

    safe : Safe (with_objects h (keep alive h.objects))
    safe n e = collect-safe h r.safe n e
