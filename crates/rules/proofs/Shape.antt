-- What soundness says, as facts; and the same without "each older manifest is held", which holds in the middle of a step.
-- Assumes nothing.
use mathlib.Core.Path.{◌≡◌, refl, sym, ap, ◌∙◌, subst}
use mathlib.Core.Logic.{◌⊎◌, inl, inr}
use mathlib.Core.Bool.{Bool, true, false, cond, ◌&&◌}
use mathlib.Core.List.Memᴰ
use mathlib.Core.List.{List, [], ◌∷◌, map}
use Prim.Native.Nat.{ℕ, ◌≤◌, ◌<◌}
use lib.Dec.{eqb}
use lib.ListN.{length}
use borrow.Author.Tests.{leb-true, ltb-true, le-leb, lt-ltb, eqb-true, eq-eqb, not-true}
use Rattle.rules.specs.declared.Hold.{Hold}
use Rattle.rules.specs.declared.Object.{Object}
use Rattle.rules.specs.declared.Role.{Role}
use Rattle.rules.specs.declared.Role.TheVariants.{Compactor, Writer}
use Rattle.rules.specs.Limits.{Limits, currency_limit}
use Rattle.rules.specs.Lists.{◌∈◌, any, conj, distinct, rising_above}
use Rattle.rules.specs.Sound.{hold_sound, is_held, is_writer, manifest_sound, name_sound, object_sound, ordered, place_sound, sound, unused}
use Rattle.rules.specs.State.{Manifest, State, epoch_of, free, kept, objects, occupied}
use Rattle.rules.specs.Words.{live}
use Rattle.rules.proofs.Lists.{all_in, and_both, and_left, and_right, any_in, conj-true, in_all, in_any, in_keep, keep_in, true-conj}

pub record ObjectOk (current : Manifest) (o : Object) : Type 0 where
  pub given : 0 < o.epoch
  pub epoch : o.epoch ≤ epoch_of o.role current
  pub currency : o.currency ≤ currency_limit

-- every name of the list is a stored object's, marked as named
abbrev pub Named : List Object → List ℕ → Type 0
Named objs l = (n : ℕ) → n ∈ l → (o : Object) × (o ∈ objs) × (o.number ≡ n) × (o.named ≡ true)

abbrev pub numbers : List Object → List ℕ
numbers objs = map (λ (o : Object). o.number) objs

abbrev pub hold_numbers : List Hold → List ℕ
hold_numbers xs = map (λ (x : Hold). x.number) xs

pub record Shape (L : Limits) (s : State) : Type 0 where
  pub size : length s.places ≡ L.places
  pub unused : (o : Object) → o ∈ s.places → occupied o ≡ false → o ≡ free
  pub stored : (o : Object) → o ∈ objects s → ObjectOk s.current o
  pub distinct : distinct (numbers (objects s)) ≡ true
  pub ordered : ordered 0 0 0 (kept s) ≡ true
  pub rising : (m : Manifest) → m ∈ kept s → rising_above 0 m.names ≡ true
  pub short : (m : Manifest) → m ∈ kept s → length m.names ≤ L.names
  -- what the current manifest names, and what a held one names
  pub current : Named (objects s) s.current.names
  pub held : (x : Hold) → x ∈ s.holds → (m : Manifest) → m ∈ kept s → m.number ≡ x.manifest → Named (objects s) m.names
  pub holds_rising : rising_above 0 (hold_numbers s.holds) ≡ true
  pub few : length s.holds ≤ L.holds
  pub holds : (x : Hold) → x ∈ s.holds → (m : Manifest) × (m ∈ kept s) × (m.number ≡ x.manifest)
  pub alive : (x : Hold) → x ∈ s.holds → live s.clock x ≡ true

abbrev pub Held : State → Type 0
Held s = (m : Manifest) → m ∈ s.older → (x : Hold) × (x ∈ s.holds) × (m.number ≡ x.manifest)

is_writer_lem : (r : Role) → is_writer r ≡ true → r ≡ Writer
is_writer_lem Writer e = refl
is_writer_lem Compactor e = absurd (mathlib.Core.Bool.false≢true e)

unused-free : (o : Object) → unused o ≡ true → o ≡ free
unfolding unused
unused-free o e =
    let f = conj-true _ e in
    λ i. record {
      number = eqb-true o.number 0 f.0 i;
      role = is_writer_lem o.role f.1.0 i;
      epoch = eqb-true o.epoch 0 f.1.1.0 i;
      currency = eqb-true o.currency 0 f.1.1.1.0 i;
      named = not-true o.named f.1.1.1.1.0 i;
    }

free-unused : unused free ≡ true
unfolding unused conj
free-unused = refl

module _ (L : Limits) (s : State) where
  object_ok : (o : Object) → object_sound s o ≡ true → ObjectOk s.current o
  unfolding object_sound
  object_ok o e =
      let f = conj-true _ e in
      record { given = ltb-true _ _ f.0; epoch = leb-true _ _ f.1.0; currency = leb-true _ _ f.1.1.0 }

  ok_object : (o : Object) → ObjectOk s.current o → object_sound s o ≡ true
  unfolding object_sound
  ok_object o k = true-conj _ (lt-ltb _ _ k.given, (le-leb _ _ k.epoch, (le-leb _ _ k.currency, tt)))

  place-object : (o : Object) → place_sound s o ≡ true → occupied o ≡ true → object_sound s o ≡ true
  unfolding place_sound
  place-object o e z = ap (λ b. cond b (object_sound s o) (unused o)) (sym z) ∙ e

  place-unused : (o : Object) → place_sound s o ≡ true → occupied o ≡ false → unused o ≡ true
  unfolding place_sound
  place-unused o e z = ap (λ b. cond b (object_sound s o) (unused o)) (sym z) ∙ e

  name_stored : (n : ℕ) → name_sound s n ≡ true → (o : Object) × (o ∈ objects s) × (o.number ≡ n) × (o.named ≡ true)
  unfolding name_sound
  name_stored n e =
      let k = any_in (λ (o : Object). eqb n o.number && o.named) (objects s) e in
      (k.0, k.1, sym (eqb-true n k.0.number (and_left (eqb n k.0.number) k.0.named k.2)), and_right (eqb n k.0.number) k.0.named k.2)

  stored_name : (n : ℕ) → (o : Object) × (o ∈ objects s) × (o.number ≡ n) × (o.named ≡ true) → name_sound s n ≡ true
  unfolding name_sound
  stored_name n k = in_any (λ (o : Object). eqb n o.number && o.named) k.1 (and_both _ _ (eq-eqb n k.0.number (sym k.2)) k.3)

  names_of : (m : Manifest) → manifest_sound L s m ≡ true → Named (objects s) m.names
  unfolding manifest_sound
  names_of m e n i = name_stored n (all_in (name_sound s) (conj-true _ e).1.1.0 i)

  pub shape_of : sound L s ≡ true → Shape L s
  unfolding sound manifest_sound hold_sound
  shape_of e =
      let f = conj-true _ e in
      record {
        size = eqb-true _ _ f.0;
        unused = λ o i z. unused-free o (place-unused o (all_in (place_sound s) f.1.0 i) z);
        stored = λ o i. let k = keep_in occupied s.places i in object_ok o (place-object o (all_in (place_sound s) f.1.0 k.0) k.1);
        distinct = f.1.1.0;
        ordered = f.1.1.1.0;
        rising = λ m i. (conj-true _ (all_in (manifest_sound L s) f.1.1.1.1.0 i)).0;
        short = λ m i. leb-true _ _ (conj-true _ (all_in (manifest_sound L s) f.1.1.1.1.0 i)).1.0;
        current = names_of s.current (all_in (manifest_sound L s) f.1.1.1.1.0 (Memᴰ.append_right s.older (Memᴰ.head refl)));
        held = λ x j m i q. names_of m (all_in (manifest_sound L s) f.1.1.1.1.0 i);
        holds_rising = f.1.1.1.1.1.0;
        few = leb-true _ _ f.1.1.1.1.1.1.0;
        holds = λ x i. let k = any_in (λ (m : Manifest). eqb x.manifest m.number) (kept s) (and_left _ (live s.clock x) (all_in (hold_sound s) f.1.1.1.1.1.1.1.0 i)) in
            (k.0, k.1, sym (eqb-true x.manifest k.0.number k.2));
        alive = λ x i. and_right (any (λ m. eqb x.manifest m.number) (kept s)) _ (all_in (hold_sound s) f.1.1.1.1.1.1.1.0 i);
      }

  pub held_of : sound L s ≡ true → Held s
  unfolding sound is_held
  held_of e m i =
      let k = any_in (λ (x : Hold). eqb m.number x.manifest) s.holds (all_in (is_held s) (conj-true _ e).1.1.1.1.1.1.1.1.0 i) in
      (k.0, k.1, eqb-true m.number k.0.manifest k.2)

  pub sound_of : Shape L s → Held s → sound L s ≡ true
  unfolding sound place_sound manifest_sound hold_sound is_held
  sound_of r h = true-conj _ (
    eq-eqb _ _ r.size,
    (
      in_all (place_sound s) s.places (λ o i. place o i (occupied o) refl),
      (
        r.distinct,
        (
          r.ordered,
          (
            in_all (manifest_sound L s) (kept s) (λ m i. true-conj _
                (r.rising m i, (le-leb _ _ (r.short m i), (in_all (name_sound s) m.names (λ n j. stored_name n (named m (Memᴰ.append_cases s.older i) n j)), tt)))),
            (
              r.holds_rising,
              (
                le-leb _ _ r.few,
                (
                  in_all (hold_sound s) s.holds (λ x i. let k = r.holds x i in
                      and_both _ _ (in_any (λ (m : Manifest). eqb x.manifest m.number) k.1 (eq-eqb _ _ (sym k.2))) (r.alive x i)),
                  (in_all (is_held s) s.older (λ m i. let k = h m i in in_any (λ (x : Hold). eqb m.number x.manifest) k.1 (eq-eqb _ _ k.2)), tt),
                ),
              ),
            ),
          ),
        ),
      ),
    ),
  )
    where
      place : (o : Object) → o ∈ s.places → (b : Bool) → occupied o ≡ b → cond b (object_sound s o) (unused o) ≡ true
      place o i true q = ok_object o (r.stored o (in_keep occupied i q))
      place o i false q = ap unused (r.unused o i q) ∙ free-unused

      named : (m : Manifest) → (m ∈ s.older) ⊎ (m ∈ (s.current ∷ [])) → Named (objects s) m.names
      named m (inl i) = let k = h m i in r.held k.0 k.1 m (Memᴰ.append_left (s.current ∷ []) i) k.2
      named m (inr i) = subst (λ (m : Manifest). Named (objects s) m.names) (sym (Memᴰ.eq_of_singleton i)) r.current
