-- Numbers and ledgers are each other's (specs/Exact.antt). Assumes nothing.
use mathlib.Core.Path.{◌≡◌, refl, sym, ap, ap₂, ◌∙◌}
use mathlib.Core.Logic.{⊎_elim}
use mathlib.Core.Bool.{Bool, true, false, not, cond, ◌&&◌, and-true}
use mathlib.Core.List.Memᴰ
use mathlib.Core.List.{List, [], ◌∷◌, ◌++◌, map, map-id, append_assoc, append-nil}
use Prim.Native.Nat.{ℕ, zero, suc, ◌+◌, ◌-◌, ◌*◌, ◌%◌, ◌≤◌}
use native.Mathlib.Nat.{zero-mul, suc-mul, mod-eq_of_lt}
use native.Mathlib.Omega.{arith}
use borrow.Author.Tests.{leb-true}
use lib.Dec.{eqb, leb}
use lib.ListN.{length, get_or, take, drop, length-append, length-drop, take-append-drop}
use lib.Seq.{drop-cons, drop-drop, take-add, take_at, drop_at, get_or-drop, length-take-le}
use Rattle.fields.specs.Fields.{over}
use Rattle.rules.specs.declared.Role.{Role}
use Rattle.rules.specs.declared.Role.TheVariants.{Writer, Compactor}
use Rattle.rules.specs.declared.Object.{Object}
use Rattle.rules.specs.Limits.{limits, manifest_limit, word_count}
use Rattle.rules.specs.Lists.{◌∈◌, conj, all}
use Rattle.rules.proofs.Lists.{and_left, and_right, decide, conj-true, all_in}
use Rattle.manifests.specs.declared.KeptManifest.{KeptManifest}
use Rattle.manifests.proofs.Places as lists
use Rattle.ledger.specs.declared.Ledger.{Ledger}
use Rattle.ledger.specs.Ledger.{is_sound}
use Rattle.ledger.specs.SoundLaw.{Whole}
use Rattle.ledger.proofs.View.{sound_parts}
use Rattle.ledger_numbers.specs.Numbers.{role_number, flag, object_size, names_at, manifest_size, hold_size, occupancy_at, objects_at, kept_at, manifests_at, held_at, holds_at, ledger_size, object_numbers, manifest_numbers, hold_numbers, flat, ledger_numbers, largest_currency, role_from, object_from, manifest_from, hold_from, each, ledger_said, can_be, is_ledger, no_manifest, ledger_from, laid_back}
use Rattle.ledger_numbers.specs.Exact.{NumbersExact}

-- What is read and written again

-- m numbers from place a on
abbrev row : List ℕ → ℕ → ℕ → List ℕ
row v a zero = []
row v a (suc m) = get_or v a 0 ∷ row v (suc a) m

row-part : (v : List ℕ) (a m : ℕ) → a + m ≤ length v → row v a m ≡ take m (drop a v)
row-part v a zero h = refl
row-part v a (suc m) h = ap (get_or v a 0 ∷◌) (row-part v (suc a) m (omega arith)) ∙ ap (take (suc m)) (sym (drop-cons v a 0 (omega arith)))

-- a part, and those behind it up to place t
module _ (v : List ℕ) (t a m : ℕ) {r : List ℕ} (h : a + m ≤ t) (behind : r ≡ take (t - (a + m)) (drop (a + m) v)) where
  part_then : {p : List ℕ} → p ≡ take m (drop a v) → p ++ r ≡ take (t - a) (drop a v)
  part_then e =
      let many : m + (t - (a + m)) ≡ t - a = omega arith in
      ap₂ ◌++◌ e (behind ∙ ap (take (t - (a + m))) (sym (drop-drop m a v))) ∙ sym (take-add m (t - (a + m)) (drop a v)) ∙ ap (λ (n : ℕ). take n (drop a v)) many

  row_then : t ≤ length v → row v a m ++ r ≡ take (t - a) (drop a v)
  row_then room = part_then (row-part v a m (omega arith))

-- k places that pass the test
module _ {A : Type 0} (f : List ℕ → A) (g : A → List ℕ) (p : List ℕ → Bool) (size : ℕ) (one : (w : List ℕ) → size ≤ length w → p w ≡ true → g (f w) ≡ take size w) where
  flat-each : (k : ℕ) (v : List ℕ) → k * size ≤ length v → conj (each p size k v) ≡ true → flat g (each f size k v) ≡ take (k * size) v
  unfolding each flat conj
  flat-each zero v h e = rw (zero-mul size)
  flat-each (suc k) v h e =
      let more : suc k * size ≡ size + k * size = omega (arith, suc-mul k size) in
      let rest = conj (each p size k (drop size v)) in
      rw more
      (ap₂ ◌++◌ (one v (omega arith) (and_left (p v) rest e)) (flat-each k (drop size v) (omega (arith, length-drop size v)) (and_right (p v) rest e))
      ∙ sym (take-add size (k * size) v))

each-true : (size k : ℕ) (v : List ℕ) → conj (each (λ w. true) size k v) ≡ true
unfolding each conj
each-true size zero v = refl
each-true size (suc k) v = each-true size k (drop size v)

-- a place of each kind
bit : (n : ℕ) → leb n 1 ≡ true → (role_number (role_from n) ≡ n) × (flag (not (eqb n 0)) ≡ n)
bit zero e = (refl, refl)
bit (suc zero) e = (refl, refl)
bit (suc (suc n)) e = absurd (omega (arith, leb-true (suc (suc n)) 1 e))

small_currency : (n : ℕ) → leb n largest_currency ≡ true → n % 65536 ≡ n
small_currency n e = mod-eq_of_lt (omega (arith, leb-true n largest_currency e))

object-same : (w : List ℕ) → object_size ≤ length w → can_be w ≡ true → object_numbers (object_from w) ≡ take object_size w
object-same w h e =
    let t = conj-true (leb (get_or w 1 0) 1 ∷ leb (get_or w 3 0) largest_currency ∷ leb (get_or w 4 0) 1 ∷ []) e in
    (λ i. get_or w 0 0 ∷ (bit (get_or w 1 0) t.0).0 i ∷ get_or w 2 0 ∷ small_currency (get_or w 3 0) t.1.0 i ∷ (bit (get_or w 4 0) t.1.1.0).1 i ∷ [])
    ∙ row-part w 0 object_size h

manifest-same : (w : List ℕ) → manifest_size ≤ length w → true ≡ true → manifest_numbers (manifest_from w) ≡ take manifest_size w
manifest-same w h e = row_then w manifest_size 0 names_at (omega arith) refl h

hold-same : (w : List ℕ) → hold_size ≤ length w → true ≡ true → hold_numbers (hold_from w) ≡ take hold_size w
hold-same w h e = row-part w 0 hold_size h

ledger-same : (v : List ℕ) → ledger_size ≤ length v → is_ledger v ≡ true → ledger_numbers (ledger_said v) ≡ take ledger_size v
unfolding ledger_numbers ledger_said is_ledger
ledger-same v h e =
    let objects = flat-each object_from object_numbers can_be object_size object-same limits.places (drop objects_at v) (omega (arith, length-drop objects_at v)) e in
    let manifests = flat-each manifest_from manifest_numbers (λ w. true) manifest_size manifest-same (manifest_limit limits) (drop manifests_at v) (omega (arith, length-drop manifests_at v)) (each-true _ _ _) in
    let holds = flat-each hold_from hold_numbers (λ w. true) hold_size hold-same limits.holds (drop holds_at v) (omega (arith, length-drop holds_at v)) (each-true _ _ _) in
    let held = row_then v ledger_size held_at 1 (omega arith) holds h in
    let kept = row_then v ledger_size kept_at 1 (omega arith) (part_then v ledger_size manifests_at (manifest_limit limits * manifest_size) (omega arith) held manifests) h in
    let places = part_then v ledger_size objects_at (limits.places * object_size) (omega arith) kept objects in
    row_then v ledger_size 0 2 (omega arith) (part_then v ledger_size occupancy_at word_count (omega arith) places refl) h

stays : (v : List ℕ) → ledger_size ≤ length v → laid_back (ledger_from v) v ≡ v
unfolding laid_back ledger_from
stays v h = step (is_ledger v) refl
  where
    step : (b : Bool) → is_ledger v ≡ b → cond b (over (ledger_numbers (cond b (ledger_said v) no_manifest)) v) v ≡ v
    step true e =
        ap (λ (n : List ℕ). over n v) (ledger-same v h e)
        ∙ ap (λ (k : ℕ). take ledger_size v ++ drop k v) (length-take-le ledger_size v h) ∙ take-append-drop ledger_size v
    step false e = refl

-- No ledger is sound that has no manifest

none-unsound : (l : Ledger) → l.manifests.count ≡ 0 → is_sound l ≡ false
none-unsound l e = ⊎_elim (λ t. absurd (omega (arith, lists.some l.manifests (sound_parts l t).manifests))) (λ f. f) (decide (is_sound l))

unsound : (v : List ℕ) → is_ledger v ≡ false → is_sound (ledger_from v) ≡ false
unfolding ledger_from
unsound v e = ap (λ (b : Bool). is_sound (cond b (ledger_said v) no_manifest)) e ∙ none-unsound no_manifest refl

-- What is written and read again

-- behind a part lies the next; the first of what lies there
behind : (v p q : List ℕ) (a n : ℕ) → drop a v ≡ p ++ q → length p ≡ n → drop (a + n) v ≡ q
behind v p q a n e h = sym (drop-drop n a v) ∙ ap (drop n) e ∙ drop_at p q n h

first : (v : List ℕ) (a x : ℕ) (q : List ℕ) → drop a v ≡ x ∷ q → get_or v a 0 ≡ x
first v a x q e =
    let at : a ≡ a + 0 = omega arith in
    ap (λ (k : ℕ). get_or v k 0) at ∙ sym (get_or-drop a v 0 0) ∙ ap (λ (l : List ℕ). get_or l 0 0) e

-- in v from a on lie k places of so many numbers each, and then the rest
record Lie {A : Type 0} (g : A → List ℕ) (size k a : ℕ) (v : List ℕ) (items : List A) (rest : List ℕ) : Type 0 where
  long : (x : A) → x ∈ items → length (g x) ≡ size
  many : length items ≡ k
  there : drop a v ≡ flat g items ++ rest

module _ {A : Type 0} (g : A → List ℕ) (size : ℕ) where
  length-flat : (items : List A) → ((x : A) → x ∈ items → length (g x) ≡ size) → length (flat g items) ≡ length items * size
  unfolding flat
  length-flat [] long = sym (zero-mul size)
  length-flat (x ∷ xs) long =
      let rest = length-flat xs (λ y m. long y (Memᴰ.tail m)) in
      length-append (g x) (flat g xs) ∙ omega (arith, rest, long x (Memᴰ.head refl), suc-mul (length xs) size)

  -- what is read of each, where those behind it do not matter
  each-flat : {B : Type 0} (f : List ℕ → B) (h : A → B) (items : List A) (rest : List ℕ) → ((x : A) → x ∈ items → length (g x) ≡ size)
      → ((x : A) → x ∈ items → (r : List ℕ) → f (g x ++ r) ≡ h x) → each f size (length items) (flat g items ++ rest) ≡ map h items
  unfolding each flat
  each-flat f h [] rest long says = refl
  each-flat f h (x ∷ xs) rest long says =
      let apart = append_assoc (g x) (flat g xs) rest in
      ap₂ ◌∷◌ (ap f apart ∙ says x (Memᴰ.head refl) (flat g xs ++ rest))
      (ap (each f size (length xs)) (ap (drop size) apart ∙ drop_at (g x) (flat g xs ++ rest) size (long x (Memᴰ.head refl)))
      ∙ each-flat f h xs rest (λ y m. long y (Memᴰ.tail m)) (λ y m. says y (Memᴰ.tail m)))

module _ {A : Type 0} {g : A → List ℕ} {size k a : ℕ} {v : List ℕ} {items : List A} {rest : List ℕ} (lie : Lie g size k a v items rest) where
  lie_behind : drop (a + k * size) v ≡ rest
  lie_behind = behind v (flat g items) rest a (k * size) lie.there (length-flat g size items lie.long ∙ ap (◌* size) lie.many)

  lie_read : {B : Type 0} (f : List ℕ → B) (h : A → B) → ((x : A) → x ∈ items → (r : List ℕ) → f (g x ++ r) ≡ h x) → each f size k (drop a v) ≡ map h items
  lie_read f h says = ap₂ (each f size) (sym lie.many) lie.there ∙ each-flat g size f h items rest lie.long says

  lie_back : (f : List ℕ → A) → ((x : A) → x ∈ items → (r : List ℕ) → f (g x ++ r) ≡ x) → each f size k (drop a v) ≡ items
  lie_back f says = lie_read f (λ x. x) says ∙ map-id items

conj-map : {A : Type 0} (p : A → Bool) (l : List A) → conj (map p l) ≡ all p l
unfolding conj all
conj-map p [] = refl
conj-map p (x ∷ xs) = ap (p x &&◌) (conj-map p xs)

-- a place of each kind
role-back : (r : Role) → (role_from (role_number r) ≡ r) × (leb (role_number r) 1 ≡ true)
role-back Writer = (refl, refl)
role-back Compactor = (refl, refl)

flag-back : (b : Bool) → (not (eqb (flag b) 0) ≡ b) × (leb (flag b) 1 ≡ true)
flag-back true = (refl, refl)
flag-back false = (refl, refl)

-- its currency has 16 bits
abbrev has_currency : Object → Bool
has_currency o = leb o.currency largest_currency

object-back : (o : Object) → has_currency o ≡ true → (r : List ℕ) → object_from (object_numbers o ++ r) ≡ o
object-back o e r = λ i. record {
  number = o.number;
  role = (role-back o.role).0 i;
  epoch = o.epoch;
  currency = small_currency o.currency e i;
  named = (flag-back o.named).0 i;
}

object_can : (o : Object) (r : List ℕ) → can_be (object_numbers o ++ r) ≡ has_currency o
unfolding conj
object_can o r = (λ i. conj ((role-back o.role).1 i ∷ has_currency o ∷ (flag-back o.named).1 i ∷ [])) ∙ and-true (has_currency o)

manifest-back : (m : KeptManifest) → length m.names ≡ limits.names → (r : List ℕ) → manifest_from (manifest_numbers m ++ r) ≡ m
manifest-back m e r = λ i. record { number = m.number; writer = m.writer; compactor = m.compactor; count = m.count; names = take_at m.names r limits.names e i }

-- what lies from each part of a ledger on
module _ (l : Ledger) where
  abbrev from_held : List ℕ
  from_held = l.holds.count ∷ flat hold_numbers l.holds.items

  abbrev from_kept : List ℕ
  from_kept = l.manifests.count ∷ (flat manifest_numbers l.manifests.items ++ from_held)

  abbrev from_words : List ℕ
  from_words = l.objects.occupancy ++ (flat object_numbers l.objects.items ++ from_kept)

  at_words : drop occupancy_at (ledger_numbers l) ≡ from_words
  unfolding ledger_numbers
  at_words = refl

module _ (l : Ledger) (w : Whole l) (words : length l.objects.occupancy ≡ word_count) where
  objects_lie : Lie object_numbers object_size limits.places objects_at (ledger_numbers l) l.objects.items (from_kept l)
  objects_lie = record {
    long = λ o m. refl;
    many = w.objects;
    there = behind (ledger_numbers l) l.objects.occupancy _ occupancy_at word_count (at_words l) words;
  }

  manifests_lie : Lie manifest_numbers manifest_size (manifest_limit limits) manifests_at (ledger_numbers l) l.manifests.items (from_held l)
  manifests_lie = record {
    long = λ x m. omega (arith, w.names x m);
    many = w.manifests;
    there = behind (ledger_numbers l) (l.manifests.count ∷ []) _ kept_at 1 (lie_behind objects_lie) refl;
  }

  holds_lie : Lie hold_numbers hold_size limits.holds holds_at (ledger_numbers l) l.holds.items []
  holds_lie = record {
    long = λ x m. refl;
    many = w.holds;
    there = behind (ledger_numbers l) (l.holds.count ∷ []) _ held_at 1 (lie_behind manifests_lie) refl ∙ sym (append-nil (flat hold_numbers l.holds.items));
  }

  is_ledger_lem : is_ledger (ledger_numbers l) ≡ all has_currency l.objects.items
  unfolding is_ledger
  is_ledger_lem = ap conj (lie_read objects_lie can_be has_currency (λ o m. object_can o)) ∙ conj-map has_currency l.objects.items

  said-back : all has_currency l.objects.items ≡ true → ledger_said (ledger_numbers l) ≡ l
  unfolding ledger_said ledger_numbers
  said-back small = λ i. record {
    clock = l.clock;
    collected = l.collected;
    objects = record {
      occupancy = (ap (take word_count) (at_words l) ∙ take_at l.objects.occupancy _ word_count words) i;
      items = lie_back objects_lie object_from (λ o m. object-back o (all_in has_currency small m)) i;
    };
    manifests = record {
      count = first (ledger_numbers l) kept_at l.manifests.count _ (lie_behind objects_lie) i;
      items = lie_back manifests_lie manifest_from (λ x m. manifest-back x (w.names x m)) i;
    };
    holds = record {
      count = first (ledger_numbers l) held_at l.holds.count _ (lie_behind manifests_lie) i;
      items = lie_back holds_lie hold_from (λ x m r. refl) i;
    };
  }

back : (l : Ledger) → Whole l → length l.objects.occupancy ≡ word_count → all has_currency l.objects.items ≡ true → (is_ledger (ledger_numbers l) ≡ true) × (ledger_from (ledger_numbers l) ≡ l)
unfolding ledger_from
back l w words small =
    let can = is_ledger_lem l w words ∙ small in
    (can, ap (λ (b : Bool). cond b (ledger_said (ledger_numbers l)) no_manifest) can ∙ said-back l w words small)

pub numbers-exact : NumbersExact
numbers-exact = record { stays = stays; unsound = unsound; back = back }
