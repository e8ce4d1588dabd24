-- What a step on the holds leaves and answers, and what a LIST or a LOOK reads.
-- Assumes nothing.
use mathlib.Core.Path.{◌≡◌, refl, sym, ap, ap₂, ◌∙◌}
use mathlib.Core.Bool.{Bool, true, false, not, cond, ◌||◌}
use mathlib.Core.List.Memᴰ
use mathlib.Core.List.{List, [], ◌∷◌, map-id}
use Prim.Native.Nat.{ℕ, suc, ◌≤◌, ◌<◌}
use native.Mathlib.Omega.{arith}
use borrow.Author.Tests.{eq-eqb, ne_eqb, le-leb, lt-leb, leb-false, ltb-true}
use lib.Dec.{leb, ltb, eqb}
use lib.ListN.{length, take}
use Rattle.rules.specs.declared.Hold.{Hold}
use Rattle.rules.specs.declared.Kind.{Kind}
use Rattle.rules.specs.declared.ObjectList.{ObjectList}
use Rattle.rules.specs.declared.Kind.TheVariants.{Hold as HOLD, List as LIST, Look as LOOK}
use Rattle.rules.specs.declared.Answer.TheVariants.{Done, Listed, Found}
use Rattle.rules.specs.Limits.{limits}
use Rattle.rules.specs.Lists.{◌∈◌, keep, none, lookup, maximum, rising_above}
use Rattle.rules.specs.Request.{Asked}
use Rattle.rules.specs.State.{Manifest, State, first_manifest, kept}
use Rattle.rules.specs.Step.{settle, tidy, with_holds, act, answers, alone, insert_hold}
use Rattle.rules.specs.Table.{◌if◌, row15, row16, first_of}
use Rattle.rules.specs.Typed.{object_list}
use Rattle.rules.specs.Words.{live, live_holds, is_live, active, currency_of, of_currency, manifest_of, read_by}
use Rattle.rules.proofs.Lists.{and_left, or_left, or_right}
use Rattle.rules.proofs.Numbers.{rising-keep}
use Rattle.rules.proofs.SoundEnds.{current-kept}
use Rattle.arrays.proofs.Lists.{take-pad, length-pad}
use Rattle.arrays.proofs.Sorting.{length_inserted}
use Rattle.objects.specs.Objects.{of_currency_in}
use Rattle.manifests.specs.declared.KeptManifest.{KeptManifest}
use Rattle.manifests.specs.Manifests.{lay_manifest, manifests_of, current_of, numbered}
use Rattle.manifests.proofs.Places as lists
use Rattle.holds.specs.declared.Holds.{Holds}
use Rattle.holds.specs.Holds.{holds_of, lay_holds, numbers, manifest_by, names_manifest, is_laid as holds_laid}
use Rattle.holds.proofs.Places as holds
use Rattle.ledger.specs.declared.Ledger.{Ledger}
use Rattle.ledger.specs.Ledger.{lay, view, is_sound}
use Rattle.ledger.specs.Rows.{row_behind}
use Rattle.ledger.specs.Step.{Admitted, answered_with, ruled}
use Rattle.ledger.proofs.View.{Sized, sound_parts, sound_shape, kept-view}
use Rattle.ledger.proofs.Changes.{live_then, live-said}
use Rattle.ledger.proofs.Door.{taken}
use Rattle.ledger.proofs.Live.{hold-rows, look-rows}

-- HOLD, RENEW, RELEASE: the live holds, changed by f

module _ (t : ℕ) (l : Ledger) (f : List Hold → List Hold) {old : Holds} (is : old ≡ live_then t l) {hs : Holds} (made : hs ≡ lay_holds (f (holds_of old))) where
  pub changed : holds_of hs ≡ f (live_holds t (view l))
  changed = ap holds_of made ∙ holds.holds-lay (f (holds_of old)) ∙ ap f (live-said t l is)

  pub changed_laid : length (f (live_holds t (view l))) ≤ limits.holds → holds_laid hs ≡ true
  changed_laid h = ap holds_laid (made ∙ ap (λ (xs : List Hold). lay_holds (f xs)) (live-said t l is)) ∙ holds.lay-laid (f (live_holds t (view l))) h

  -- a kind that changes the holds so, and nothing else
  module _ (k : Kind) (acts : (s : State) → act k [] s ≡ with_holds s (f s.holds)) (says : (s : State) → answers k s ≡ alone Done) (a : Admitted l t k []) where
    pub done : (r : ℕ) → r ≡ row_behind (view l) t k [] → r ≡ 0 → {next : Ledger} → next ≡ lay (tidy (with_holds (settle t (view l)) (holds_of hs)))
        → answered_with (alone Done) next ≡ ruled (Asked t k []) l
    done r e z n =
        let s = settle t (view l) in
        ap (answered_with (alone Done)) (n ∙ ap (λ (xs : List Hold). lay (tidy (with_holds s xs))) changed ∙ ap (λ (q : State). lay (tidy q)) (sym (acts s)))
        ∙ ap (λ q. answered_with q (lay (tidy (act k [] s)))) (sym (says s)) ∙ taken l t k [] a r e z

-- HOLD puts one more among them, and there is room for it
module _ (l : Ledger) (e : is_sound l ≡ true) (t : ℕ) where
  pub live-rising : rising_above 0 (numbers (live_holds t (view l))) ≡ true
  live-rising = rising-keep (λ (x : Hold). x.number) (live t) 0 (view l).holds (sound_shape l e).holds_rising

  pub inserted_length : (x : Hold) → length (insert_hold x (live_holds t (view l))) ≡ suc (length (live_holds t (view l)))
  inserted_length x = ap length (sym (holds.inserted_rising 0 x (live_holds t (view l)) live-rising)) ∙ length_inserted holds.earlier x (live_holds t (view l))

no_row : (a b c : Bool) → ◌≡◌ {A = ℕ} (cond a 12 (cond b 13 (cond c 14 0))) 0 → c ≡ false
no_row true b c e = absurd (omega (arith, e))
no_row false true c e = absurd (omega (arith, e))
no_row false false true e = absurd (omega (arith, e))
no_row false false false e = refl

pub hold-room : (s : State) (t x m e r : ℕ) → r ≡ row_behind s t (HOLD x m e) [] → r ≡ 0 → length (live_holds t s) < limits.holds
hold-room s t x m e r is z = leb-false _ _ (no_row (is_live t s x) (not (active t s m)) _ (sym (hold-rows s t x m e) ∙ sym is ∙ z))

-- The manifest that is read

module _ (t : ℕ) (l : Ledger) (x : ℕ) (sized : Sized l) (e : is_sound l ≡ true) where
  pub read-current : x ≡ 0 → current_of l.manifests ≡ lay_manifest (read_by t (view l) x)
  unfolding read_by
  read-current z = rw (eq-eqb _ _ z) (sym (lists.current-formed l.manifests sized.manifests (sound_parts l e).manifests))

  pub read_held : (x ≡ 0 → ⊥) → {old : Holds} → old ≡ live_then t l → lay_manifest (numbered (manifests_of l.manifests) (manifest_by (holds_of old) x)) ≡ lay_manifest (read_by t (view l) x)
  unfolding read_by manifest_of
  read_held f is =
      rw (ne_eqb _ _ f)
      (ap₂ (λ (ms : List Manifest) (xs : List Hold). lay_manifest (numbered ms (manifest_by xs x))) (sym (kept-view l sized (sound_parts l e))) (live-said t l is))

lookup-has : {A B : Type 0} (key : A → ℕ) (value : A → B) (default : B) (P : B → Type 0) (n : ℕ) (l : List A) → P default → ((x : A) → x ∈ l → P (value x)) → P (lookup key value default n l)
unfolding lookup
lookup-has key value default P n [] d f = d
lookup-has key value default P n (x ∷ xs) d f =
    go (eqb n (key x)) (f x (Memᴰ.head refl)) (lookup-has key value default P n xs d (λ y m. f y (Memᴰ.tail m)))
  where
    go : (b : Bool) → P (value x) → P (lookup key value default n xs) → P (cond b (value x) (lookup key value default n xs))
    go true p q = p
    go false p q = q

module _ (l : Ledger) (e : is_sound l ≡ true) (t x : ℕ) where
  -- what is so of every kept manifest, and of the first one, is so of the one that is read
  read_is : (P : Manifest → Type 0) → P first_manifest → ((m : Manifest) → m ∈ kept (view l) → P m) → P (read_by t (view l) x)
  unfolding read_by manifest_of
  read_is P d f =
      go (eqb x 0) (f (view l).current (current-kept (view l)))
      (lookup-has (λ (m : Manifest). m.number) (λ m. m) first_manifest P (manifest_by (live_holds t (view l)) x) (kept (view l)) d f)
    where
      go : (b : Bool) → {m k : Manifest} → P m → P k → P (cond b m k)
      go true p q = p
      go false p q = q

  pub read_short : length (read_by t (view l) x).names ≤ limits.names
  read_short = read_is (λ m. length m.names ≤ limits.names) (omega arith) (sound_shape l e).short

  pub read-rising : rising_above 0 (read_by t (view l) x).names ≡ true
  unfolding rising_above
  read-rising = read_is (λ m. rising_above 0 m.names ≡ true) refl (sound_shape l e).rising

  -- in its places
  module _ {m : KeptManifest} (is : m ≡ lay_manifest (read_by t (view l) x)) where
    pub read-room : m.count ≤ length m.names
    read-room =
        let long : length m.names ≡ limits.names = ap (λ (k : KeptManifest). length k.names) is ∙ length-pad limits.names 0 (read_by t (view l) x).names read_short in
        omega (arith, ap (λ (k : KeptManifest). k.count) is, read_short)

    pub read_names : take m.count m.names ≡ (read_by t (view l) x).names
    read_names = ap (λ (k : KeptManifest). take k.count k.names) is ∙ take-pad limits.names 0 (read_by t (view l) x).names

-- the clock's setting leaves what is read
keep_twice : {A : Type 0} (p : A → Bool) (l : List A) → keep p (keep p l) ≡ keep p l
unfolding keep
keep_twice p [] = refl
keep_twice p (x ∷ xs) = go (p x) refl (keep_twice p xs)
  where
    go : (b : Bool) → p x ≡ b → keep p (keep p xs) ≡ keep p xs → keep p (cond b (x ∷ keep p xs) (keep p xs)) ≡ cond b (x ∷ keep p xs) (keep p xs)
    go true q h = rw q (ap (λ r. x ∷ r) h)
    go false q h = h

pub read_settled : (t : ℕ) (s : State) (x : ℕ) → read_by t (settle t s) x ≡ read_by t s x
unfolding read_by manifest_of
read_settled t s x = ap (λ (xs : List Hold). cond (eqb x 0) s.current (numbered (kept s) (manifest_by xs x))) (keep_twice (live t) s.holds)

-- LIST

module _ (l : Ledger) (t x : ℕ) (a : Admitted l t (LIST x) []) (r : ℕ) (e : r ≡ row_behind (view l) t (LIST x) []) (z : r ≡ 0) where
  pub listed : {m : KeptManifest} → m ≡ lay_manifest (read_by t (view l) x) → {list : ObjectList} → list ≡ object_list (take m.count m.names)
      → {next : Ledger} → next ≡ lay (tidy (settle t (view l))) → record { verdict = record { answer = Listed m.number; list = list }; ledger = next } ≡ ruled (Asked t (LIST x) []) l
  unfolding act answers
  listed {m} is made n =
      let same : read_by t (view l) x ≡ read_by t (settle t (view l)) x = sym (read_settled t (view l) x) in
      let number : m.number ≡ (read_by t (settle t (view l)) x).number = ap (λ (k : KeptManifest). k.number) is ∙ ap (λ (k : Manifest). k.number) same in
      let names = made ∙ ap object_list (read_names l a.is_sound t x is ∙ ap (λ (k : Manifest). k.names) same) in
      (λ i. record { verdict = record { answer = Listed (number i); list = names i }; ledger = n i }) ∙ taken l t (LIST x) [] a r e z

-- LOOK: the rows, and the highest number of a list without 0

row_stays : (b d : Bool) (r : ℕ) → r ≡ cond b 15 0 → (r ≡ 0 → ⊥) → r ≡ cond b 15 (cond d 16 0)
row_stays true d r e f = e
row_stays false d r e f = absurd (f e)

row-clear : (b : Bool) (r : ℕ) → r ≡ cond b 15 0 → r ≡ 0 → b ≡ false
row-clear true r e z = absurd (omega (arith, e, z))
row-clear false r e z = refl

none-highest : (l : List ℕ) → rising_above 0 l ≡ true → maximum l ≡ 0 → none l ≡ true
unfolding maximum none rising_above
none-highest [] r e = refl
none-highest (n ∷ ns) r e = absurd (omega (arith, e, ltb-true 0 n (and_left (ltb 0 n) _ r)))

some-highest : (l : List ℕ) → (maximum l ≡ 0 → ⊥) → none l ≡ false
unfolding maximum none
some-highest [] f = absurd (f refl)
some-highest (n ∷ ns) f = refl

module _ (s : State) (t c x r : ℕ) (e : r ≡ first_of ((15 if row15 s t x) ∷ [])) where
  pub look_away : (r ≡ 0 → ⊥) → r ≡ row_behind s t (LOOK c x) []
  unfolding first_of
  look_away f = row_stays (row15 s t x) (row16 s t c x) r e f ∙ sym (look-rows s t c x)

  look-clear : r ≡ 0 → row15 s t x ≡ false
  unfolding first_of
  look-clear z = row-clear (row15 s t x) r e z

  look-row : r ≡ 0 → (b : Bool) → row16 s t c x ≡ b → cond b 16 0 ≡ row_behind s t (LOOK c x) []
  look-row z b q = sym (look-rows s t c x ∙ ap₂ (λ (p : Bool) (d : Bool). cond p 15 (cond d 16 0)) (look-clear z) q)

module _ (l : Ledger) (sound : is_sound l ≡ true) (t c x : ℕ) {m : KeptManifest} (is : m ≡ lay_manifest (read_by t (view l) x)) (found : ℕ)
    (made : found ≡ maximum (of_currency_in l.objects.items c (take m.count m.names))) where
  pub highest-read : found ≡ maximum (of_currency (view l) c (read_by t (view l) x).names)
  unfolding of_currency currency_of
  highest-read = made ∙ ap (λ (ns : List ℕ). maximum (of_currency_in l.objects.items c ns)) (read_names l sound t x is)

  of_rising : rising_above 0 (of_currency (view l) c (read_by t (view l) x).names) ≡ true
  unfolding of_currency
  of_rising =
      let names = (read_by t (view l) x).names in
      let p : ℕ → Bool = λ n. eqb (currency_of (view l) n) c in
      ap (rising_above 0) (sym (map-id (keep p names))) ∙ rising-keep (λ (n : ℕ). n) p 0 names (ap (rising_above 0) (map-id names) ∙ read-rising l sound t x)

  module _ (r : ℕ) (e : r ≡ first_of ((15 if row15 (view l) t x) ∷ [])) (z : r ≡ 0) where
    pub look_none : found ≡ 0 → 16 ≡ row_behind (view l) t (LOOK c x) []
    look_none f = look-row (view l) t c x r e z true (none-highest _ of_rising (sym highest-read ∙ f))

    pub look-found : Admitted l t (LOOK c x) [] → (found ≡ 0 → ⊥) → {next : Ledger} → next ≡ lay (tidy (settle t (view l)))
        → answered_with (alone (Found found)) next ≡ ruled (Asked t (LOOK c x) []) l
    unfolding act answers of_currency currency_of
    look-found a f n =
        let p : ℕ → Bool = λ k. eqb (currency_of (view l) k) c in
        let same = highest-read ∙ ap (λ (k : Manifest). maximum (keep p k.names)) (sym (read_settled t (view l) x)) in
        (λ i. answered_with (alone (Found (same i))) (n i))
        ∙ taken l t (LOOK c x) [] a 0 (look-row (view l) t c x r e z false (some-highest _ (λ h. f (highest-read ∙ h)))) refl

-- HOLD's rows

module _ (s : State) (t m : ℕ) where
  pub active-current : m ≡ s.current.number → active t s m ≡ true
  unfolding active
  active-current e = or_left (eqb m s.current.number) _ (eq-eqb _ _ e)

  pub active-held : names_manifest (live_holds t s) m ≡ true → active t s m ≡ true
  unfolding active
  active-held e = or_right (eqb m s.current.number) _ e

  pub not-active : (m ≡ s.current.number → ⊥) → names_manifest (live_holds t s) m ≡ false → active t s m ≡ false
  unfolding active
  not-active f e = ap₂ ◌||◌ (ne_eqb _ _ f) e

  module _ (x e : ℕ) where
    row_of : (a b c : Bool) → is_live t s x ≡ a → active t s m ≡ b → leb limits.holds (length (live_holds t s)) ≡ c
        → cond a 12 (cond (not b) 13 (cond c 14 0)) ≡ row_behind s t (HOLD x m e) []
    row_of a b c p q r = sym (hold-rows s t x m e ∙ (λ i. cond (p i) 12 (cond (not (q i)) 13 (cond (r i) 14 0))))

    pub hold_there : is_live t s x ≡ true → 12 ≡ row_behind s t (HOLD x m e) []
    hold_there p = row_of true _ _ p refl refl

    pub hold_inactive : is_live t s x ≡ false → active t s m ≡ false → 13 ≡ row_behind s t (HOLD x m e) []
    hold_inactive p q = row_of false false _ p q refl

    pub hold-full : is_live t s x ≡ false → active t s m ≡ true → limits.holds ≤ length (live_holds t s) → 14 ≡ row_behind s t (HOLD x m e) []
    hold-full p q h = row_of false true true p q (le-leb _ _ h)

    pub hold-free : is_live t s x ≡ false → active t s m ≡ true → length (live_holds t s) < limits.holds → 0 ≡ row_behind s t (HOLD x m e) []
    hold-free p q h = row_of false true false p q (lt-leb _ _ h)
