-- Row 1's test is its parts' tests: what soundness asks of the view of a ledger that is laid out, asked of the places.
-- Assumes nothing.
use mathlib.Core.Path.{◌≡◌, refl, sym, ap, ◌∙◌}
use mathlib.Core.Bool.{Bool, true, false, ◌&&◌, and-false}
use mathlib.Core.List.Memᴰ
use mathlib.Core.List.{List, [], ◌∷◌, map}
use Prim.Native.Nat.{◌≤◌}
use native.Mathlib.Omega.{arith}
use borrow.Author.Tests.{le-leb, eq-eqb}
use lib.ListN.{length, take, length-take}
use Rattle.rules.specs.declared.Role.{Role}
use Rattle.rules.specs.declared.Role.TheVariants.{Writer, Compactor}
use Rattle.rules.specs.declared.Object.{Object}
use Rattle.rules.specs.Limits.{limits}
use Rattle.rules.specs.Lists.{◌∈◌, conj, all, distinct, rising_above}
use Rattle.rules.specs.State.{Manifest, epoch_of, kept}
use Rattle.rules.specs.Words.{live}
use Rattle.rules.specs.Step.{held_by}
use Rattle.rules.specs.Sound.{sound, object_sound, place_sound, ordered, name_sound, manifest_sound, hold_sound, is_held}
use Rattle.rules.proofs.Lists.{and_left, and_right, and_both, bool_ext, conj-true, true-conj}
use Rattle.objects.specs.Objects.{role_epoch, place_sound_by, numbers_in}
use Rattle.manifests.specs.declared.KeptManifest.{KeptManifest}
use Rattle.manifests.specs.Manifests.{manifest_of, manifests_of, current_of, older_of}
use Rattle.manifests.proofs.Places.{kept-short}
use Rattle.holds.specs.Holds.{holds_of, numbers}
use Rattle.holds.proofs.Places.{few}
use Rattle.ledger.specs.declared.Ledger.{Ledger}
use Rattle.ledger.specs.Ledger.{view, is_laid_out, is_sound}
use Rattle.ledger.specs.Parts.{objects_sound, list_sound, manifests_sound, hold_kept, holds_sound}
use Rattle.ledger.proofs.View.{Sized, Laid, laid_parts, kept-view}

-- A test of every element

module _ {A : Type 0} (p q : A → Bool) where
  pub all_same : (l : List A) → ((x : A) → x ∈ l → p x ≡ q x) → all p l ≡ all q l
  unfolding all
  all_same [] f = refl
  all_same (x ∷ xs) f = rw (f x (Memᴰ.head refl), all_same xs (λ y m. f y (Memᴰ.tail m)))

  all_and : (l : List A) → all (λ x. p x && q x) l ≡ (all p l && all q l)
  unfolding all
  all_and [] = refl
  all_and (x ∷ xs) = rw (all_and xs) (swap (p x) (q x) (all p xs))
    where
      swap : (a b c : Bool) → ((a && b) && (c && all q xs)) ≡ ((a && c) && (b && all q xs))
      swap true true c = refl
      swap true false c = sym (and-false c)
      swap false b c = refl

all_map : {A B : Type 0} (f : A → B) (p : B → Bool) (l : List A) → all p (map f l) ≡ all (λ x. p (f x)) l
unfolding all
all_map f p [] = refl
all_map f p (x ∷ xs) = ap (λ (b : Bool). p (f x) && b) (all_map f p xs)

-- The nine tests in three parts; the numbers of places and of holds are known
regroup : (a b c d e f g h : Bool) → conj (true ∷ a ∷ b ∷ c ∷ d ∷ e ∷ true ∷ (f && g) ∷ h ∷ []) ≡ (conj (a ∷ b ∷ []) && (conj (c ∷ d ∷ h ∷ []) && conj (e ∷ f ∷ g ∷ [])))
regroup a b c d e f g h =
    bool_ext _ _
    (λ t.
    let k = conj-true _ t in
    let fg = k.1.1.1.1.1.1.1.0 in
    and_both _ _ (true-conj _ (k.1.0, (k.1.1.0, tt)))
    (and_both _ _ (true-conj _ (k.1.1.1.0, (k.1.1.1.1.0, (k.1.1.1.1.1.1.1.1.0, tt))))
    (true-conj _ (k.1.1.1.1.1.0, (and_left f g fg, (and_right f g fg, tt))))))
    (λ t.
    let rest = and_right (conj (a ∷ b ∷ [])) _ t in
    let x = conj-true _ (and_left (conj (a ∷ b ∷ [])) _ t) in
    let y = conj-true _ (and_left (conj (c ∷ d ∷ h ∷ [])) _ rest) in
    let z = conj-true _ (and_right (conj (c ∷ d ∷ h ∷ [])) _ rest) in
    true-conj _ (refl, (x.0, (x.1.0, (y.0, (y.1.0, (z.0, (refl, (and_both f g z.1.0 z.1.1.0, (y.1.1.0, tt))))))))))

-- Each test, of the view and of the places

epoch-same : (r : Role) (m : KeptManifest) → epoch_of r (manifest_of m) ≡ role_epoch r m.writer m.compactor
epoch-same Writer m = refl
epoch-same Compactor m = refl

place_same : (l : Ledger) (o : Object) → place_sound (view l) o ≡ place_sound_by (current_of l.manifests).writer (current_of l.manifests).compactor o
unfolding place_sound object_sound place_sound_by
place_same l o = rw (epoch-same o.role (current_of l.manifests))

-- a list has at most as many names as it has room for
list_same : (l : Ledger) (m : KeptManifest) → length (manifest_of m).names ≤ limits.names → manifest_sound limits (view l) (manifest_of m) ≡ list_sound l.objects.items m
unfolding manifest_sound name_sound list_sound conj
list_same l m h = rw (le-leb _ _ h)

module _ (l : Ledger) (s : Sized l) (p : Laid l) where
  lists-same : all (manifest_sound limits (view l)) (kept (view l)) ≡ all (list_sound l.objects.items) (take l.manifests.count l.manifests.items)
  lists-same =
      let places = take l.manifests.count l.manifests.items in
      ap (all (manifest_sound limits (view l))) (kept-view l s p) ∙ all_map manifest_of (manifest_sound limits (view l)) places
      ∙ all_same (λ m. manifest_sound limits (view l) (manifest_of m)) (list_sound l.objects.items) places
      (λ m i. list_same l m (kept-short s.manifests (manifest_of m) (Memᴰ.map manifest_of i)))

  holds_same : all (hold_sound (view l)) (holds_of l.holds) ≡ (all (hold_kept (manifests_of l.manifests)) (holds_of l.holds) && all (live l.clock) (holds_of l.holds))
  unfolding hold_sound
  holds_same =
      ap (λ (ms : List Manifest). all (λ x. hold_kept ms x && live l.clock x) (holds_of l.holds)) (kept-view l s p)
      ∙ all_and (hold_kept (manifests_of l.manifests)) (live l.clock) (holds_of l.holds)

  holds-few : length (holds_of l.holds) ≤ limits.holds
  holds-few = omega (arith, length-take l.holds.count l.holds.items, few l.holds p.holds)

  pub sound-by_parts : sound limits (view l) ≡ (objects_sound l && (manifests_sound l && holds_sound l))
  unfolding sound is_held objects_sound manifests_sound holds_sound
  sound-by_parts =
      (λ i. conj (eq-eqb (length l.objects.items) limits.places s.objects i
      ∷ all (λ o. place_same l o i) l.objects.items
      ∷ distinct (numbers_in l.objects.items)
      ∷ ordered 0 0 0 (kept-view l s p i)
      ∷ lists-same i
      ∷ rising_above 0 (numbers (holds_of l.holds))
      ∷ le-leb (length (holds_of l.holds)) limits.holds holds-few i
      ∷ holds_same i
      ∷ all (held_by (holds_of l.holds)) (older_of l.manifests) ∷ []))
      ∙ regroup _ _ _ _ _ _ _ _

-- row 1's test, once the layout is known
pub laid-sound : (l : Ledger) → Sized l → is_laid_out l ≡ true → is_sound l ≡ (objects_sound l && (manifests_sound l && holds_sound l))
unfolding is_sound
laid-sound l s e = ap (λ (b : Bool). b && sound limits (view l)) e ∙ sound-by_parts l s (laid_parts l e)

-- the test, part by part
pub sound_by_parts : (l : Ledger) → Sized l → is_sound l ≡ (is_laid_out l && (objects_sound l && (manifests_sound l && holds_sound l)))
unfolding is_sound
sound_by_parts l long = go (is_laid_out l) refl
  where
    go : (b : Bool) → is_laid_out l ≡ b → is_sound l ≡ (b && (objects_sound l && (manifests_sound l && holds_sound l)))
    go true e = laid-sound l long e
    go false e = rw e refl
