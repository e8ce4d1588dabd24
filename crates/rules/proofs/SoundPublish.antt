-- A new manifest (FENCE, COMMIT, COMPACT) keeps the shape of a sound ledger.
-- Assumes nothing.
use mathlib.Core.Path.{◌≡◌, refl, sym, ap, ◌∙◌, subst}
use mathlib.Core.Logic.{◌⊎◌, inl, inr}
use mathlib.Core.Bool.{Bool, true, false, cond}
use mathlib.Core.List.Memᴰ
use mathlib.Core.List.{List, [], ◌∷◌, map}
use Prim.Native.Nat.{ℕ, suc, ◌+◌, ◌≤◌}
use native.Mathlib.Omega.{arith}
use lib.Dec.{eqb}
use lib.ListN.{length, length-map}
use borrow.Author.Tests.{eqb-true}
use Rattle.rules.specs.declared.Hold.{Hold}
use Rattle.rules.specs.declared.Object.{Object}
use Rattle.rules.specs.declared.Role.{Role}
use Rattle.rules.specs.declared.Role.TheVariants.{Compactor, Writer}
use Rattle.rules.specs.Limits.{Limits}
use Rattle.rules.specs.Lists.{◌∈◌, distinct, has, keep, rising_above}
use Rattle.rules.specs.State.{Manifest, State, epoch_of, free, kept, objects, occupied}
use Rattle.rules.specs.Step.{mark, publish}
use Rattle.rules.specs.Words.{stored}
use Rattle.rules.proofs.Lists.{any_in, decide, or_left, or_right}
use Rattle.rules.proofs.Numbers.{has_in, in_has, rising_above_lem}
use Rattle.rules.proofs.Ordered.{ordered_add}
use Rattle.rules.proofs.Publish.{mark-from, mark-to}
use Rattle.rules.proofs.Shape.{Named, ObjectOk, Shape, numbers}

mark-numbers : (l : List ℕ) (ps : List Object) → numbers (keep occupied (map (mark l) ps)) ≡ numbers (keep occupied ps)
unfolding keep
mark-numbers l [] = refl
mark-numbers l (o ∷ os) = step (occupied o) (mark-numbers l os)
  where
    step : (b : Bool) → numbers (keep occupied (map (mark l) os)) ≡ numbers (keep occupied os)
        → numbers (cond b (mark l o ∷ keep occupied (map (mark l) os)) (keep occupied (map (mark l) os))) ≡ numbers (cond b (o ∷ keep occupied os) (keep occupied os))
    step true e = ap (λ ns. o.number ∷ ns) e
    step false e = e

-- a rising list has no 0
no_zero : (l : List ℕ) → rising_above 0 l ≡ true → has 0 l ≡ false
no_zero l e = step (decide (has 0 l))
  where
    step : (has 0 l ≡ true) ⊎ (has 0 l ≡ false) → has 0 l ≡ false
    step (inl t) = let h = rising_above_lem 0 0 l e (has_in 0 l t) in absurd (omega arith)
    step (inr t) = t

mark-named : (l : List ℕ) (ps : List Object) (ns : List ℕ) → Named (keep occupied ps) ns → Named (keep occupied (map (mark l) ps)) ns
mark-named l ps ns f n i = let k = f n i in (mark l k.0, mark-to l ps k.0 k.1, k.2, or_left _ _ k.3)

epoch_grows : (w c : ℕ) (cur new : Manifest) → cur.writer_epoch ≤ new.writer_epoch → cur.compactor_epoch ≤ new.compactor_epoch → (role : Role) → epoch_of role cur ≤ epoch_of role new
epoch_grows w c cur new a b Writer = a
epoch_grows w c cur new a b Compactor = b

module _ {L : Limits} (s : State) (r : Shape L s) (w c : ℕ) (l : List ℕ) (up : s.current.writer_epoch ≤ w) (up' : s.current.compactor_epoch ≤ c) (sum : w + c ≤ suc s.current.number)
    (rising : rising_above 0 l ≡ true) (short : length l ≤ L.names) (all_stored_lem : (n : ℕ) → n ∈ l → stored s n ≡ true) where
  new : Manifest
  new = (publish w c l s).current

  new_named : Named (keep occupied (map (mark l) s.places)) l
  unfolding stored
  new_named n i =
      let k = any_in (λ (o : Object). eqb n o.number) (objects s) (all_stored_lem n i) in
      let q = eqb-true n k.0.number k.2 in
      (mark l k.0, mark-to l s.places k.0 k.1, sym q, or_right k.0.named _ (ap (λ n. has n l) (sym q) ∙ in_has i))

  marked-free : mark l free ≡ free
  marked-free = λ i. record { number = 0; role = Writer; epoch = 0; currency = 0; named = no_zero l rising i }

  pub publish_shape : Shape L (publish w c l s)
  unfolding new
  publish_shape = record {
    size = length-map s.places (mark l) ∙ r.size;
    unused = λ o i z. let m = Memᴰ.of_map (mark l) s.places i in
        sym m.2 ∙ ap (mark l) (r.unused m.0 m.1 (ap occupied m.2 ∙ z)) ∙ marked-free;
    stored = λ o i. let m = mark-from l s.places o i in let k = r.stored m.0 m.1 in
        subst (ObjectOk new) m.2 (record {
          given = k.given;
          epoch = let a = k.epoch in let b = epoch_grows w c s.current new up up' m.0.role in omega arith;
          currency = k.currency;
        });
    distinct = ap distinct (mark-numbers l s.places) ∙ r.distinct;
    ordered = ordered_add 0 0 0 s.older s.current new r.ordered (omega arith) up up' sum;
    rising = λ m i. rises m (Memᴰ.append_cases (kept s) i);
    short = λ m i. shorts m (Memᴰ.append_cases (kept s) i);
    current = new_named;
    held = λ x i m j q. names x i m q (Memᴰ.append_cases (kept s) j);
    holds_rising = r.holds_rising;
    few = r.few;
    holds = λ x i. let f = r.holds x i in (f.0, Memᴰ.append_left (new ∷ []) f.1, f.2);
    alive = r.alive;
  }
    where
      rises : (m : Manifest) → (m ∈ kept s) ⊎ (m ∈ (new ∷ [])) → rising_above 0 m.names ≡ true
      rises m (inl i) = r.rising m i
      rises m (inr i) = ap (λ (m : Manifest). rising_above 0 m.names) (Memᴰ.eq_of_singleton i) ∙ rising

      shorts : (m : Manifest) → (m ∈ kept s) ⊎ (m ∈ (new ∷ [])) → length m.names ≤ L.names
      shorts m (inl i) = r.short m i
      shorts m (inr i) = subst (λ (m : Manifest). length m.names ≤ L.names) (sym (Memᴰ.eq_of_singleton i)) short

      names : (x : Hold) → x ∈ s.holds → (m : Manifest) → m.number ≡ x.manifest → (m ∈ kept s) ⊎ (m ∈ (new ∷ [])) → Named (keep occupied (map (mark l) s.places)) m.names
      names x i m q (inl j) = mark-named l s.places m.names (r.held x i m j q)
      names x i m q (inr j) = subst (λ (m : Manifest). Named (keep occupied (map (mark l) s.places)) m.names) (sym (Memᴰ.eq_of_singleton j)) new_named
