-- HOLD, RENEW and RELEASE keep the shape of a sound ledger.
-- Assumes nothing.
use mathlib.Core.Path.{◌≡◌, refl, sym, ap, ap₂, ◌∙◌, subst}
use mathlib.Core.Logic.{◌⊎◌, inl, inr}
use mathlib.Core.Bool.{Bool, true, false, cond, ◌||◌}
use mathlib.Core.List.Memᴰ
use mathlib.Core.List.{List, [], ◌∷◌, map}
use Prim.Native.Nat.{ℕ, suc, ◌≤◌, ◌<◌}
use native.Mathlib.Omega.{arith}
use lib.Dec.{leb, ltb, eqb}
use lib.ListN.{length, length-map}
use borrow.Author.Tests.{ltb-false, lt-ltb, eqb-false}
use Rattle.rules.specs.declared.Hold.{Hold}
use Rattle.rules.specs.Limits.{Limits}
use Rattle.rules.specs.Lists.{◌∈◌, any, keep, rising_above}
use Rattle.rules.specs.State.{Manifest, State, free, kept, objects}
use Rattle.rules.specs.Step.{insert_hold, other, renewed, with_holds}
use Rattle.rules.specs.Words.{active, live}
use Rattle.rules.proofs.Holds.{Active, insert_hold-from, renewed-live, renewed-manifest, renewed-number}
use Rattle.rules.proofs.Lists.{and_both, and_left, and_right, keep_in, or_false-left, or_false_right}
use Rattle.rules.proofs.Numbers.{keep-length, rising-keep}
use Rattle.rules.proofs.Ordered.{ordered-unique}
use Rattle.rules.proofs.Shape.{Named, Shape, hold_numbers}
use Rattle.rules.proofs.SoundEnds.{current-kept}

-- new holds keep the shape, where each names an active manifest
module _ {L : Limits} (s : State) (r : Shape L s) (xs : List Hold) (active : (x : Hold) → x ∈ xs → Active s x.manifest)
    (rising : rising_above 0 (hold_numbers xs) ≡ true) (few : length xs ≤ L.holds) (alive : (x : Hold) → x ∈ xs → live s.clock x ≡ true) where
  active-kept : (x : Hold) → Active s x.manifest → (m : Manifest) × (m ∈ kept s) × (m.number ≡ x.manifest)
  active-kept x (inl e) = (s.current, current-kept s, sym e)
  active-kept x (inr y) = let f = r.holds y.0 y.1 in (f.0, f.1, f.2 ∙ sym y.2)

  active-named : (x : Hold) → Active s x.manifest → (m : Manifest) → m ∈ kept s → m.number ≡ x.manifest → Named (objects s) m.names
  active-named x (inl e) m i q = subst (λ (m : Manifest). Named (objects s) m.names) (ordered-unique 0 0 0 (kept s) s.current m r.ordered (current-kept s) i (sym (q ∙ e))) r.current
  active-named x (inr y) m i q = r.held y.0 y.1 m i (q ∙ y.2)

  holds_shape : Shape L (with_holds s xs)
  holds_shape = record {
    size = r.size;
    unused = r.unused;
    stored = r.stored;
    distinct = r.distinct;
    ordered = r.ordered;
    rising = r.rising;
    short = r.short;
    current = r.current;
    held = λ x i m j q. active-named x (active x i) m j q;
    holds_rising = rising;
    few = few;
    holds = λ x i. active-kept x (active x i);
    alive = alive;
  }

insert_hold-rising : (x : Hold) (a : ℕ) (xs : List Hold) → a < x.number → any (λ y. eqb x.number y.number) xs ≡ false → rising_above a (hold_numbers xs) ≡ true
    → rising_above a (hold_numbers (insert_hold x xs)) ≡ true
unfolding insert_hold rising_above any
insert_hold-rising x a [] h e r = and_both (ltb a x.number) true (lt-ltb _ _ h) refl
insert_hold-rising x a (y ∷ ys) h e r = step (ltb x.number y.number) refl (insert_hold-rising x y.number ys)
  where
    above : ltb a y.number ≡ true
    above = and_left (ltb a y.number) _ r

    rest : rising_above y.number (hold_numbers ys) ≡ true
    rest = and_right (ltb a y.number) _ r

    step : (b : Bool) → ltb x.number y.number ≡ b
        → (y.number < x.number → any (λ z. eqb x.number z.number) ys ≡ false → rising_above y.number (hold_numbers ys) ≡ true → rising_above y.number (hold_numbers (insert_hold x ys)) ≡ true)
        → rising_above a (hold_numbers (cond b (x ∷ y ∷ ys) (y ∷ insert_hold x ys))) ≡ true
    step true q f = and_both (ltb a x.number) _ (lt-ltb _ _ h) (and_both (ltb x.number y.number) _ q rest)
    step false q f =
        let ne = eqb-false x.number y.number (or_false-left (eqb x.number y.number) _ e) in
        let le = ltb-false x.number y.number q in
        and_both (ltb a y.number) _ above (f (omega (arith, ne)) (or_false_right (eqb x.number y.number) _ e) rest)

insert_hold-length : (x : Hold) (xs : List Hold) → length (insert_hold x xs) ≡ suc (length xs)
unfolding insert_hold
insert_hold-length x [] = refl
insert_hold-length x (y ∷ ys) = step (ltb x.number y.number) (insert_hold-length x ys)
  where
    step : (b : Bool) → length (insert_hold x ys) ≡ suc (length ys) → length (cond b (x ∷ y ∷ ys) (y ∷ insert_hold x ys)) ≡ suc (suc (length ys))
    step true e = refl
    step false e = ap suc e

pub hold_shape : {L : Limits} (s : State) → Shape L s → (x : Hold) → 0 < x.number → live s.clock x ≡ true → Active s x.manifest
    → any (λ y. eqb x.number y.number) s.holds ≡ false → length s.holds < L.holds → Shape L (with_holds s (insert_hold x s.holds))
hold_shape s r x pos alive active free few =
    holds_shape s r (insert_hold x s.holds) (λ y i. acts y (insert_hold-from x y s.holds i))
    (insert_hold-rising x 0 s.holds pos free r.holds_rising) (let e = insert_hold-length x s.holds in omega arith) (λ y i. lives y (insert_hold-from x y s.holds i))
  where
    acts : (y : Hold) → (y ≡ x) ⊎ (y ∈ s.holds) → Active s y.manifest
    acts y (inl e) = subst (λ (y : Hold). Active s y.manifest) (sym e) active
    acts y (inr i) = inr (y, i, refl)

    lives : (y : Hold) → (y ≡ x) ⊎ (y ∈ s.holds) → live s.clock y ≡ true
    lives y (inl e) = ap (live s.clock) e ∙ alive
    lives y (inr i) = r.alive y i

renewed-numbers : (n e : ℕ) (xs : List Hold) → hold_numbers (map (renewed n e) xs) ≡ hold_numbers xs
renewed-numbers n e [] = refl
renewed-numbers n e (x ∷ xs) = ap₂ ◌∷◌ (renewed-number n e x) (renewed-numbers n e xs)

pub renew_shape : {L : Limits} (s : State) → Shape L s → (n e : ℕ) → (eqb e 0 || leb s.clock e) ≡ true → Shape L (with_holds s (map (renewed n e) s.holds))
renew_shape s r n e later =
    holds_shape s r (map (renewed n e) s.holds)
    (λ y i. let k = Memᴰ.of_map (renewed n e) s.holds i in inr (k.0, k.1, sym (ap (λ (y : Hold). y.manifest) k.2) ∙ renewed-manifest n e k.0))
    (ap (rising_above 0) (renewed-numbers n e s.holds) ∙ r.holds_rising)
    (let a = length-map s.holds (renewed n e) in let b = r.few in omega arith)
    (λ y i. let k = Memᴰ.of_map (renewed n e) s.holds i in
    subst (λ y. live s.clock y ≡ true) k.2 (renewed-live n e s.clock k.0 later (r.alive k.0 k.1)))

pub release_shape : {L : Limits} (s : State) → Shape L s → (n : ℕ) → Shape L (with_holds s (keep (other n) s.holds))
release_shape s r n =
    holds_shape s r (keep (other n) s.holds) (λ y i. inr (y, (keep_in (other n) s.holds i).0, refl))
    (rising-keep (λ (x : Hold). x.number) (other n) 0 s.holds r.holds_rising)
    (let a = keep-length (other n) s.holds in let b = r.few in omega arith)
    (λ y i. r.alive y (keep_in (other n) s.holds i).0)
