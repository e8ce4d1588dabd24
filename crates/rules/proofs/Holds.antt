-- HOLD, RENEW and RELEASE keep the relation.
-- Assumes nothing.
use mathlib.Core.Path.{◌≡◌, refl, sym, ap, ◌∙◌, subst}
use mathlib.Core.Logic.{◌⊎◌, inl, inr}
use mathlib.Core.Bool.{Bool, true, false, not, cond, ◌||◌}
use mathlib.Core.List.Memᴰ
use mathlib.Core.List.{List, [], ◌∷◌, map}
use Prim.Native.Nat.{ℕ}
use lib.Dec.{leb, ltb, eqb}
use borrow.Author.Tests.{eqb-true, eqb-false, eq-eqb, ne_eqb, not-true}
use Rattle.rules.specs.declared.Hold.{Hold}
use Rattle.rules.specs.Agreement.{Agrees, Holds, Safe}
use Rattle.rules.specs.History.{History, list_at, listed_at, lists, live_at, noting, stored_at}
use Rattle.rules.specs.Limits.{Limits}
use Rattle.rules.specs.Lists.{◌∈◌, any, has, keep}
use Rattle.rules.specs.State.{Manifest, State, free, kept}
use Rattle.rules.specs.Step.{insert_hold, other, renewed, with_holds}
use Rattle.rules.specs.Words.{active, live}
use Rattle.rules.proofs.Lists.{any_in, in_any, in_keep, keep_in, or_cases, or_left, or_right, true-false}
use Rattle.rules.proofs.Publish.{list_at_new}

module _ (x : Hold) where
  pub insert_hold-from : (y : Hold) (xs : List Hold) → y ∈ insert_hold x xs → (y ≡ x) ⊎ (y ∈ xs)
  unfolding insert_hold
  insert_hold-from y [] i = Memᴰ.cases_cons i
  insert_hold-from y (z ∷ zs) i = step (ltb x.number z.number) i (insert_hold-from y zs)
    where
      later : (y ≡ x) ⊎ (y ∈ zs) → (y ≡ x) ⊎ (y ∈ z ∷ zs)
      later (inl e) = inl e
      later (inr j) = inr (Memᴰ.tail j)

      past : (y ≡ z) ⊎ (y ∈ insert_hold x zs) → (y ∈ insert_hold x zs → (y ≡ x) ⊎ (y ∈ zs)) → (y ≡ x) ⊎ (y ∈ z ∷ zs)
      past (inl e) f = inr (Memᴰ.head e)
      past (inr j) f = later (f j)

      step : (b : Bool) → y ∈ cond b (x ∷ z ∷ zs) (z ∷ insert_hold x zs) → (y ∈ insert_hold x zs → (y ≡ x) ⊎ (y ∈ zs)) → (y ≡ x) ⊎ (y ∈ z ∷ zs)
      step true j f = Memᴰ.cases_cons j
      step false j f = past (Memᴰ.cases_cons j) f

  pub insert_hold-to : (y : Hold) (xs : List Hold) → (y ≡ x) ⊎ (y ∈ xs) → y ∈ insert_hold x xs
  unfolding insert_hold
  insert_hold-to y [] (inl e) = Memᴰ.head e
  insert_hold-to y [] (inr i) = absurd (Memᴰ.not-nil i)
  insert_hold-to y (z ∷ zs) w = step (ltb x.number z.number) w (insert_hold-to y zs)
    where
      later : (y ≡ z) ⊎ (y ∈ zs) → ((y ≡ x) ⊎ (y ∈ zs) → y ∈ insert_hold x zs) → y ∈ z ∷ insert_hold x zs
      later (inl e) f = Memᴰ.head e
      later (inr j) f = Memᴰ.tail (f (inr j))

      step : (b : Bool) → (y ≡ x) ⊎ (y ∈ z ∷ zs) → ((y ≡ x) ⊎ (y ∈ zs) → y ∈ insert_hold x zs) → y ∈ cond b (x ∷ z ∷ zs) (z ∷ insert_hold x zs)
      step true (inl e) f = Memᴰ.head e
      step true (inr j) f = Memᴰ.tail j
      step false (inl e) f = Memᴰ.tail (f (inl e))
      step false (inr j) f = later (Memᴰ.cases_cons j) f

-- the manifest is current, or that of a hold in the ledger
abbrev pub Active : State → ℕ → Type 0
Active s k = (k ≡ s.current.number) ⊎ ((y : Hold) × (y ∈ s.holds) × (k ≡ y.manifest))

-- new holds keep the relation, where they agree and their manifests are active
module _ {L : Limits} (s : State) (h : History) (r : Agrees L s h) (xs ys : List Hold) (agree : Holds s.clock xs ys) (active : (x : Hold) → x ∈ xs → Active s x.manifest) where
  holds-held : (x : Hold) → Active s x.manifest → (m : Manifest) × (m ∈ kept s) × (m.number ≡ x.manifest)
  holds-held x (inl e) = (s.current, Memᴰ.append_right s.older (Memᴰ.head refl), sym e)
  holds-held x (inr y) = let f = r.manifests.held y.0 y.1 in (f.0, f.1, f.2 ∙ sym y.2)

  holds-safe : Safe (noting h ys)
  unfolding listed_at stored_at live
  holds-safe n e = r.safe n (step (or_cases (has n h.current) _ e))
    where
      named : Hold → Bool
      named x = has n (list_at x.manifest (lists h))

      held : (x : Hold) → named x ≡ true → Active s x.manifest → (has n h.current || any named (keep (live_at h.time) h.holds)) ≡ true
      held x q (inl a) = or_left _ _ (ap (has n) (sym (list_at_new x.manifest h.current h.past (a ∙ r.number))) ∙ q)
      held x q (inr a) = or_right (has n h.current) _
          (in_any named (in_keep (live_at h.time) (r.holding.noted a.0 a.1) (ap (λ t. live t a.0) (sym r.clock) ∙ r.holding.alive a.0 a.1))
          (ap (λ k. has n (list_at k (lists h))) (sym a.2) ∙ q))

      step : (has n h.current ≡ true) ⊎ (any named (keep (live_at h.time) ys) ≡ true) → (has n h.current || any named (keep (live_at h.time) h.holds)) ≡ true
      step (inl q) = or_left _ _ q
      step (inr q) =
          let k = any_in named (keep (live_at h.time) ys) q in
          let i = keep_in (live_at h.time) ys k.1 in
          held k.0 k.2 (active k.0 (agree.found k.0 i.0 (ap (λ t. live t k.0) r.clock ∙ i.1)))

  holds-keeps : Agrees L (with_holds s xs) (noting h ys)
  holds-keeps = record {
    clock = r.clock;
    number = r.number;
    names = r.names;
    writer = r.writer;
    compactor = r.compactor;
    things = r.things;
    holding = agree;
    manifests = record { noted = r.manifests.noted; past = r.manifests.past; held = λ x i. holds-held x (active x i) };
    safe = holds-safe;
  }

-- a hold in the ledger has an active manifest
held-active : (s : State) (x : Hold) → x ∈ s.holds → Active s x.manifest
held-active s x i = inr (x, i, refl)

pub hold-keeps : {L : Limits} (s : State) (h : History) → Agrees L s h → (x : Hold) → live s.clock x ≡ true → Active s x.manifest
    → any (λ y. eqb x.number y.number) s.holds ≡ false
    → Agrees L (with_holds s (insert_hold x s.holds)) (noting h (x ∷ keep (other x.number) h.holds))
hold-keeps s h r x alive active free =
    holds-keeps s h r (insert_hold x s.holds) (x ∷ keep (other x.number) h.holds)
    (record {
      alive = λ y i. lives y (insert_hold-from x y s.holds i);
      noted = λ y i. notes y (insert_hold-from x y s.holds i);
      found = λ y i e. insert_hold-to x y s.holds (finds y e (Memᴰ.cases_cons i));
      unique = λ y z i j e. one y z e (Memᴰ.cases_cons i) (Memᴰ.cases_cons j);
    })
    (λ y i. acts y (insert_hold-from x y s.holds i))
  where
    ys : List Hold
    ys = keep (other x.number) h.holds

    differs : (y : Hold) → y ∈ s.holds → other x.number y ≡ true
    differs y i = ap not (ne_eqb y.number x.number (λ e. true-false _ (in_any (λ (y : Hold). eqb x.number y.number) i (eq-eqb _ _ (sym e))) free))

    lives : (y : Hold) → (y ≡ x) ⊎ (y ∈ s.holds) → live s.clock y ≡ true
    lives y (inl e) = ap (live s.clock) e ∙ alive
    lives y (inr i) = r.holding.alive y i

    notes : (y : Hold) → (y ≡ x) ⊎ (y ∈ s.holds) → y ∈ x ∷ ys
    notes y (inl e) = Memᴰ.head e
    notes y (inr i) = Memᴰ.tail (in_keep (other x.number) (r.holding.noted y i) (differs y i))

    finds : (y : Hold) → live s.clock y ≡ true → (y ≡ x) ⊎ (y ∈ ys) → (y ≡ x) ⊎ (y ∈ s.holds)
    finds y e (inl q) = inl q
    finds y e (inr i) = inr (r.holding.found y (keep_in (other x.number) h.holds i).0 e)

    clash : (y z : Hold) → y.number ≡ z.number → y ≡ x → z ∈ ys → y ≡ z
    clash y z e a b = absurd (eqb-false z.number x.number (not-true _ (keep_in (other x.number) h.holds b).1) (sym e ∙ ap (λ (y : Hold). y.number) a))

    one : (y z : Hold) → y.number ≡ z.number → (y ≡ x) ⊎ (y ∈ ys) → (z ≡ x) ⊎ (z ∈ ys) → y ≡ z
    one y z e (inl a) (inl b) = a ∙ sym b
    one y z e (inl a) (inr b) = clash y z e a b
    one y z e (inr a) (inl b) = sym (clash z y (sym e) b a)
    one y z e (inr a) (inr b) = r.holding.unique y z (keep_in (other x.number) h.holds a).0 (keep_in (other x.number) h.holds b).0 e

    acts : (y : Hold) → (y ≡ x) ⊎ (y ∈ s.holds) → Active s y.manifest
    acts y (inl e) = subst (λ (y : Hold). Active s y.manifest) (sym e) active
    acts y (inr i) = held-active s y i

module _ (n e : ℕ) where
  pub renewed-number : (y : Hold) → (renewed n e y).number ≡ y.number
  renewed-number y = step (eqb y.number n)
    where
      step : (b : Bool) → (cond b (record { number = y.number; manifest = y.manifest; expiry = e }) y).number ≡ y.number
      step true = refl
      step false = refl

  pub renewed-manifest : (y : Hold) → (renewed n e y).manifest ≡ y.manifest
  renewed-manifest y = step (eqb y.number n)
    where
      step : (b : Bool) → (cond b (record { number = y.number; manifest = y.manifest; expiry = e }) y).manifest ≡ y.manifest
      step true = refl
      step false = refl

  pub renewed-live : (t : ℕ) (y : Hold) → (eqb e 0 || leb t e) ≡ true → live t y ≡ true → live t (renewed n e y) ≡ true
  unfolding live
  renewed-live t y p q = step (eqb y.number n)
    where
      step : (b : Bool) → live t (cond b (record { number = y.number; manifest = y.manifest; expiry = e }) y) ≡ true
      step true = p
      step false = q

pub renew_keeps : {L : Limits} (s : State) (h : History) → Agrees L s h → (n e : ℕ) → (eqb e 0 || leb s.clock e) ≡ true → any (λ y. eqb n y.number) s.holds ≡ true
    → Agrees L (with_holds s (map (renewed n e) s.holds)) (noting h (map (renewed n e) h.holds))
renew_keeps s h r n e later there =
    holds-keeps s h r (map f s.holds) (map f h.holds)
    (record {
      alive = λ y i. let k = Memᴰ.of_map f s.holds i in
          subst (λ y. live s.clock y ≡ true) k.2 (renewed-live n e s.clock k.0 later (r.holding.alive k.0 k.1));
      noted = λ y i. let k = Memᴰ.of_map f s.holds i in Memᴰ.cast (sym k.2) (Memᴰ.map f (r.holding.noted k.0 k.1));
      found = λ y i a. let k = Memᴰ.of_map f h.holds i in
          Memᴰ.cast (sym k.2) (Memᴰ.map f (finds k.0 k.1 (eqb k.0.number n) refl (ap (live s.clock) k.2 ∙ a)));
      unique = λ y z i j q. let k = Memᴰ.of_map f h.holds i in let m = Memᴰ.of_map f h.holds j in
          sym k.2 ∙ ap f (r.holding.unique k.0 m.0 k.1 m.1 (sym (number k.0) ∙ ap (λ (y : Hold). y.number) k.2 ∙ q ∙ sym (ap (λ (y : Hold). y.number) m.2) ∙ number m.0)) ∙ m.2;
    })
    (λ y i. let k = Memᴰ.of_map f s.holds i in
    inr (k.0, k.1, sym (ap (λ (y : Hold). y.manifest) k.2) ∙ renewed-manifest n e k.0))
  where
    f : Hold → Hold
    f = renewed n e

    number : (y : Hold) → (f y).number ≡ y.number
    number y = renewed-number n e y

    -- a hold that is live once renewed is in the ledger: it has the number of one that is, or is itself live
    finds : (y : Hold) → y ∈ h.holds → (b : Bool) → eqb y.number n ≡ b → live s.clock (f y) ≡ true → y ∈ s.holds
    finds y i true q a =
        let k = any_in (λ (y : Hold). eqb n y.number) s.holds there in
        Memᴰ.cast (r.holding.unique y k.0 i (r.holding.noted k.0 k.1) (eqb-true y.number n q ∙ eqb-true n k.0.number k.2)) k.1
    finds y i false q a = r.holding.found y i (ap (λ b. live s.clock (cond b (record { number = y.number; manifest = y.manifest; expiry = e }) y)) (sym q) ∙ a)

pub release_keeps : {L : Limits} (s : State) (h : History) → Agrees L s h → (n : ℕ) → Agrees L (with_holds s (keep (other n) s.holds)) (noting h (keep (other n) h.holds))
release_keeps s h r n =
    holds-keeps s h r (keep (other n) s.holds) (keep (other n) h.holds)
    (record {
      alive = λ y i. r.holding.alive y (keep_in (other n) s.holds i).0;
      noted = λ y i. let k = keep_in (other n) s.holds i in in_keep (other n) (r.holding.noted y k.0) k.1;
      found = λ y i a. let k = keep_in (other n) h.holds i in in_keep (other n) (r.holding.found y k.0 a) k.1;
      unique = λ y z i j q. r.holding.unique y z (keep_in (other n) h.holds i).0 (keep_in (other n) h.holds j).0 q;
    })
    (λ y i. held-active s y (keep_in (other n) s.holds i).0)
