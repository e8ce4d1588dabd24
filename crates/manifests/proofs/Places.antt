-- What the type of the manifests and their layout tell of the places.
-- Assumes nothing.
use mathlib.Core.Path.{◌≡◌, refl, sym, ap, ap₂, ◌∙◌}
use mathlib.Core.Logic.{⊎_elim}
use mathlib.Core.Bool.{Bool, true, ◌&&◌}
use mathlib.Core.List.Memᴰ
use mathlib.Core.List.{List, [], ◌∷◌, ◌++◌, map}
use Prim.Native.Nat.{ℕ, zero, suc, ◌-◌, ◌≤◌, ◌<◌}
use native.Mathlib.Nat.{not-suc-le-zero, le_of_suc-le-suc}
use native.Mathlib.Omega.{arith}
use borrow.Author.Tests.{leb-true, le-leb, eqb-true, eq-eqb}
use lib.Dec.{leb, eqb}
use lib.Seq.{length-take-le, take-suc, take-take, get_or-take}
use lib.ListN.{length, take, drop, get_or, replicate, length-map, length-take}
use mir.Val.{Val}
use denote.Laws.{Is}
use denote.Shadow.{shadow}
use denote.Array.{each}
use Rattle.rules.specs.Limits.{limits, manifest_limit}
use Rattle.rules.specs.Lists.{◌∈◌, conj, all}
use Rattle.rules.specs.State.{Manifest, first_manifest}
use Rattle.rules.specs.Typed.{is_padded}
use Rattle.rules.proofs.Lists.{and_left, and_right, and_both, conj-true, true-conj}
use Rattle.rules.proofs.Typed.{padded-room}
use Rattle.arrays.specs.Arrays.{pad}
use Rattle.arrays.proofs.Lists.{pad-laid, laid-pad, take-pad, length-pad, pad-none, map-append, same_at}
use Rattle.manifests.specs.declared.KeptManifest.{KeptManifest}
use Rattle.manifests.specs.declared.Manifests.{Manifests}
use Rattle.manifests.specs.Manifests.{lay_manifest, manifest_of, no_manifest, past_end, manifests_of, lay_manifests, current_of, older_of, is_no_manifest, is_list_laid, is_laid}
use Rattle.manifests.specs.contracts.KeptManifest as kept
use Rattle.manifests.specs.contracts.Manifests as manifests

-- A test that every element passes

module _ {A : Type 0} (p : A → Bool) where
  pub all-at : (l : List A) → all p l ≡ true → (i : ℕ) (d : A) → i < length l → p (get_or l i d) ≡ true
  unfolding all
  all-at [] e i d h = absurd (not-suc-le-zero h)
  all-at (x ∷ xs) e zero d h = and_left (p x) (all p xs) e
  all-at (x ∷ xs) e (suc i) d h = all-at xs (and_right (p x) (all p xs) e) i d (le_of_suc-le-suc h)

  all_take : (n : ℕ) (l : List A) → all p l ≡ true → all p (take n l) ≡ true
  unfolding all
  all_take zero l e = refl
  all_take (suc n) [] e = refl
  all_take (suc n) (x ∷ xs) e = and_both (p x) _ (and_left (p x) (all p xs) e) (all_take n xs (and_right (p x) (all p xs) e))

  all_drop : (n : ℕ) (l : List A) → all p l ≡ true → all p (drop n l) ≡ true
  unfolding all
  all_drop zero l e = e
  all_drop (suc n) [] e = refl
  all_drop (suc n) (x ∷ xs) e = all_drop n xs (and_right (p x) (all p xs) e)

  all_also : (q : A → Bool) (l : List A) → all p l ≡ true → all q l ≡ true → all (λ x. p x && q x) l ≡ true
  unfolding all
  all_also q [] e f = refl
  all_also q (x ∷ xs) e f =
      and_both (p x && q x) _ (and_both (p x) (q x) (and_left (p x) (all p xs) e) (and_left (q x) (all q xs) f))
      (all_also q xs (and_right (p x) (all p xs) e) (and_right (q x) (all q xs) f))

-- What the type says: how many places there are, and each place's room for names

-- a place's array of names is whole
abbrev pub has_room : KeptManifest → Bool
has_room m = eqb (length m.names) limits.names

field_room : (ms : List KeptManifest) (us : List Val)
    → shadow (each (kept.the_row).Denot (kept.the_row).own_val ms us) → all has_room ms ≡ true
unfolding all
field_room [] us is = refl
field_room (m ∷ ms) [] is = absurd is
field_room (m ∷ ms) (u ∷ us) is =
    and_both (has_room m) _ (eq-eqb _ _ is.0.1.1.1.1.1.1.0.1.0.1) (field_room ms us is.1)

-- the lengths of a value's arrays
pub record Long (ms : Manifests) : Type 0 where
  pub items : length ms.items ≡ manifest_limit limits
  pub names : all has_room ms.items ≡ true

pub long : (ms : Manifests) (vs : List Val) → Is manifests.the_row ms vs → Long ms
long ms vs is = record {
  items = is.1.1.1.0.1.0.1;
  names = field_room ms.items _ is.1.1.1.0.1.1;
}

pub items_long : (ms : Manifests) (vs : List Val) → Is manifests.the_row ms vs → length ms.items ≡ manifest_limit limits
items_long ms vs is = (long ms vs is).items

pub names_long : {ms : Manifests} → Long ms → (i : ℕ) → i < manifest_limit limits → length (get_or ms.items i past_end).names ≡ limits.names
names_long {ms} l i h = eqb-true _ _ (all-at has_room ms.items l.names i past_end (omega (arith, l.items)))

-- what a place says is no longer than its room
names-short : (l : List KeptManifest) → all has_room l ≡ true → (m : Manifest) → m ∈ map manifest_of l → length m.names ≤ limits.names
unfolding all
names-short [] r m k = absurd (Memᴰ.not-nil k)
names-short (x ∷ xs) r m k =
    ⊎_elim
    (λ e. omega (arith, ap (λ (y : Manifest). length y.names) e, length-take x.count x.names, eqb-true (length x.names) limits.names (and_left (has_room x) _ r)))
    (names-short xs (and_right (has_room x) _ r) m) (Memᴰ.cases_cons k)

pub kept-short : {ms : Manifests} → Long ms → (m : Manifest) → m ∈ manifests_of ms → length m.names ≤ limits.names
kept-short {ms} l = names-short (take ms.count ms.items) (all_take has_room ms.count ms.items l.names)

-- A place that is laid out is the layout of its manifest

pub formed : (m : KeptManifest) → has_room m ≡ true → is_list_laid m ≡ true → lay_manifest (manifest_of m) ≡ m
unfolding is_padded
formed m r e =
    let whole : length m.names ≡ limits.names = eqb-true _ _ r in
    let fits = padded-room m.count m.names e in
    let same = pad-laid 0 (eqb 0) (λ x t. sym (eqb-true 0 x t)) m.count m.names fits (and_right (leb m.count (length m.names)) _ e) in
    λ i. record {
      number = m.number;
      writer = m.writer;
      compactor = m.compactor;
      count = length-take-le m.count m.names fits i;
      names = (ap (λ (k : ℕ). pad k 0 (take m.count m.names)) (sym whole) ∙ same) i;
    }

lists-formed : (l : List KeptManifest) → all has_room l ≡ true → all is_list_laid l ≡ true → map lay_manifest (map manifest_of l) ≡ l
unfolding all
lists-formed [] r e = refl
lists-formed (m ∷ ms) r e =
    ap₂ ◌∷◌ (formed m (and_left (has_room m) _ r) (and_left (is_list_laid m) _ e))
    (lists-formed ms (and_right (has_room m) _ r) (and_right (is_list_laid m) _ e))

-- a place that is all zero is the layout of manifest 0 with an empty list
pub first-laid : lay_manifest first_manifest ≡ no_manifest
first-laid = λ i. record { number = 0; writer = 0; compactor = 0; count = 0; names = pad-none limits.names 0 i }

no_manifest_lem : (m : KeptManifest) → (is_no_manifest m && has_room m) ≡ true → m ≡ no_manifest
unfolding is_no_manifest
no_manifest_lem m e =
    let f = conj-true _ (and_left (is_no_manifest m) (has_room m) e) in
    let same = formed m (and_right (is_no_manifest m) (has_room m) e) f.1.1.1.1.0 in
    let none : m.count ≡ 0 = eqb-true m.count 0 f.1.1.1.0 in
    let empty : manifest_of m ≡ first_manifest = λ i. record {
      number = eqb-true m.number 0 f.0 i;
      writer_epoch = eqb-true m.writer 0 f.1.0 i;
      compactor_epoch = eqb-true m.compactor 0 f.1.1.0 i;
      names = take (none i) m.names;
    } in
    sym same ∙ ap lay_manifest empty ∙ first-laid

-- Manifests that are laid out

pub some : (ms : Manifests) → is_laid ms ≡ true → 1 ≤ ms.count
unfolding is_laid
some ms e = leb-true 1 ms.count (conj-true _ e).0

pub few : (ms : Manifests) → is_laid ms ≡ true → ms.count ≤ manifest_limit limits
unfolding is_laid
few ms e = leb-true ms.count (manifest_limit limits) (conj-true _ e).1.0

module _ (ms : Manifests) (l : Long ms) (e : is_laid ms ≡ true) where
  room : ms.count ≤ length ms.items
  room = omega (arith, few ms e, l.items)

  pub padded : all is_list_laid (take ms.count ms.items) ≡ true
  unfolding is_laid
  padded = (conj-true _ e).1.1.0

  -- a kept manifest names no more than it has room for
  pub names-few : (i : ℕ) → i < ms.count → (get_or ms.items i past_end).count ≤ limits.names
  names-few i h =
      let here = all-at is_list_laid (take ms.count ms.items) padded i past_end (rw (length-take-le ms.count ms.items room) h) in
      let m = get_or ms.items i past_end in
      omega (arith, padded-room m.count m.names (rw (get_or-take ms.count ms.items i past_end h) at here), names_long l i (omega (arith, few ms e)))

  -- the first of the kept manifests, laid out anew, are their places
  pub kept_same : (n : ℕ) → n ≤ ms.count → map lay_manifest (map manifest_of (take n ms.items)) ≡ take n ms.items
  kept_same n h =
      lists-formed (take n ms.items) (all_take has_room n ms.items l.names)
      (rw (take-take n ms.count ms.items h) at (all_take is_list_laid n (take ms.count ms.items) padded))

  -- each kept manifest is laid out
  kept-formed : (i : ℕ) → i < ms.count → lay_manifest (manifest_of (get_or ms.items i past_end)) ≡ get_or ms.items i past_end
  kept-formed i h =
      let at = get_or-take ms.count ms.items i past_end h in
      ap (λ (m : KeptManifest). lay_manifest (manifest_of m)) (sym at)
      ∙ same_at manifest_of lay_manifest (take ms.count ms.items) (kept_same ms.count (omega arith)) i past_end (rw (length-take-le ms.count ms.items room) h) ∙ at

  -- and so is the current one
  pub current-formed : lay_manifest (manifest_of (current_of ms)) ≡ current_of ms
  current-formed = kept-formed (ms.count - 1) (omega (arith, some ms e))

  pub laid_out : lay_manifests (manifests_of ms) ≡ ms
  unfolding is_laid
  laid_out =
      let rest = all_also is_no_manifest has_room (drop ms.count ms.items) (conj-true _ e).1.1.1.0 (all_drop has_room ms.count ms.items l.names) in
      let same = pad-laid no_manifest (λ m. is_no_manifest m && has_room m) no_manifest_lem ms.count ms.items room rest in
      λ i. record {
        count = (length-map (take ms.count ms.items) manifest_of ∙ length-take-le ms.count ms.items room) i;
        items = (ap (pad (manifest_limit limits) no_manifest) (kept_same ms.count (omega arith)) ∙ ap (λ (k : ℕ). pad k no_manifest (take ms.count ms.items)) (sym l.items) ∙ same) i;
      }

  -- the last of them is the current one
  pub split : manifests_of ms ≡ older_of ms ++ (manifest_of (current_of ms) ∷ [])
  split =
      let last = ms.count - 1 in
      let more : ms.count ≡ suc last = omega (arith, some ms e) in
      ap (λ (n : ℕ). map manifest_of (take n ms.items)) more
      ∙ ap (map manifest_of) (take-suc ms.items last past_end (omega (arith, some ms e, few ms e, l.items)))
      ∙ map-append manifest_of (take last ms.items) (current_of ms ∷ [])

-- A layout is laid out, and says its manifests

pub of_lay : (m : Manifest) → manifest_of (lay_manifest m) ≡ m
of_lay m = λ i. record { number = m.number; writer_epoch = m.writer_epoch; compactor_epoch = m.compactor_epoch; names = take-pad limits.names 0 m.names i }

lay-padded : (m : Manifest) → length m.names ≤ limits.names → is_list_laid (lay_manifest m) ≡ true
unfolding is_padded
lay-padded m h =
    let fits : length m.names ≤ length (pad limits.names 0 m.names) = rw (length-pad limits.names 0 m.names h) h in
    and_both (leb (length m.names) (length (pad limits.names 0 m.names))) _ (le-leb _ _ fits) (laid-pad (eqb 0) limits.names 0 m.names refl)

lists-padded : (ms : List Manifest) → ((m : Manifest) → m ∈ ms → length m.names ≤ limits.names) → all is_list_laid (map lay_manifest ms) ≡ true
unfolding all
lists-padded [] f = refl
lists-padded (m ∷ ms) f =
    and_both (is_list_laid (lay_manifest m)) _ (lay-padded m (f m (Memᴰ.head refl))) (lists-padded ms (λ x k. f x (Memᴰ.tail k)))

no_manifest-zero : is_no_manifest no_manifest ≡ true
unfolding is_no_manifest is_padded conj all
no_manifest-zero = refl

pub lay-laid : (ms : List Manifest) → 1 ≤ length ms → length ms ≤ manifest_limit limits
    → ((m : Manifest) → m ∈ ms → length m.names ≤ limits.names) → is_laid (lay_manifests ms) ≡ true
unfolding is_laid
lay-laid ms h k f =
    let same : length ms ≡ length (map lay_manifest ms) = sym (length-map ms lay_manifest) in
    let places = pad (manifest_limit limits) no_manifest (map lay_manifest ms) in
    let laid : all is_list_laid (take (length ms) places) ≡ true =
    ap (λ (n : ℕ). all is_list_laid (take n places)) same ∙ ap (all is_list_laid) (take-pad (manifest_limit limits) no_manifest (map lay_manifest ms)) ∙ lists-padded ms f in
    let rest : all is_no_manifest (drop (length ms) places) ≡ true =
    ap (λ (n : ℕ). all is_no_manifest (drop n places)) same ∙ laid-pad is_no_manifest (manifest_limit limits) no_manifest (map lay_manifest ms) no_manifest-zero in
    true-conj _ (le-leb 1 (length ms) h, (le-leb (length ms) (manifest_limit limits) k, (laid, (rest, tt))))

-- the places of manifest 0 alone
pub first_items : {z : KeptManifest} → z ≡ lay_manifest first_manifest → replicate (manifest_limit limits) z ≡ (lay_manifests (first_manifest ∷ [])).items
unfolding pad
first_items e = ap (replicate (manifest_limit limits)) (e ∙ first-laid) ∙ (λ i. sym first-laid i ∷ replicate limits.holds no_manifest)
