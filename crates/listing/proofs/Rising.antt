-- What the lines before the first bad one are: names that a reader takes and that rise, so that the highest manifest is the last.
-- Assumes nothing.
use mathlib.Core.Path.{◌≡◌, refl, sym, ap, ap₂, ◌∙◌}
use mathlib.Core.Bool.{Bool, true, false, not, cond, ◌||◌, false≢true}
use mathlib.Core.List.{List, [], ◌∷◌}
use Prim.Native.Nat.{ℕ, ◌≤◌, ◌<◌}
use native.Mathlib.Omega.{arith}
use lib.Dec.{ltb}
use borrow.Author.Tests.{ltb-true, not-false}
use Rattle.std.specs.Prelude.{Option, Some, None}
use Rattle.rules.specs.Lists.{all}
use Rattle.rules.proofs.Lists.{and_left, and_right, and_both, or_false-left, or_false_right}
use Rattle.arrays.specs.Arrays.{chain}
use Rattle.store_names.specs.declared.Name.{Name}
use Rattle.store_names.specs.declared.Name.TheVariants.{Manifest, Object}
use Rattle.store_names.specs.Names.{is_taken, decode}
use Rattle.store_names.proofs.RoundTrip.{round_trip_lem}
use Rattle.listing.specs.Lines.{Line, below}
use Rattle.listing.specs.Listing.{is_read, is_name, is_above, is_bad, good_behind, good, with_read, names_in, higher_of, highest}
use Rattle.listing.specs.Whole.{is_before, rising, or_else, last_manifest}
use Rattle.listing.proofs.Order.{order}

-- ---- the names that lines are

-- a name that was read is one that a reader takes
pub names-taken : (ls : List Line) → all is_taken (names_in ls) ≡ true
unfolding names_in all
names-taken [] = refl
names-taken (l ∷ ls) = by (decode l.bytes) refl (names-taken ls)
  where
    by : (r : Option Name) → decode l.bytes ≡ r → all is_taken (names_in ls) ≡ true → all is_taken (with_read r (names_in ls)) ≡ true
    by (Some v) e h = and_both (is_taken v) (all is_taken (names_in ls)) (round_trip_lem.writes_read l.bytes v e).0 h
    by None e h = h

-- lines that are names have their names' order
read-order : (x y : List ℕ) (v w : Name) → decode x ≡ Some v → decode y ≡ Some w → below x y ≡ is_before v w
read-order x y v w d e =
    let r = round_trip_lem.writes_read x v d in
    let s = round_trip_lem.writes_read y w e in
    ap₂ below (sym r.1) (sym s.1) ∙ order v w r.0 s.0

-- ---- a line that isn't bad

pub record Good (earlier : List Line) (l : Line) : Type 0 where
  pub name : Name
  pub read : decode l.bytes ≡ Some name
  pub whole : l.ended ≡ true
  pub above : is_above earlier l ≡ true

is_read_lem : (r : Option Name) → is_read r ≡ true → (v : Name) × (r ≡ Some v)
is_read_lem (Some v) e = (v, refl)
is_read_lem None e = absurd (false≢true e)

pub not_bad : (earlier : List Line) (l : Line) → is_bad earlier l ≡ false → Good earlier l
not_bad earlier l e =
    let rest = or_false_right (not (is_name l.bytes)) (not l.ended || not (is_above earlier l)) e in
    let r = is_read_lem (decode l.bytes) (not-false (is_name l.bytes) (or_false-left (not (is_name l.bytes)) (not l.ended || not (is_above earlier l)) e)) in
    record {
      name = r.0;
      read = r.1;
      whole = not-false l.ended (or_false-left (not l.ended) (not (is_above earlier l)) rest);
      above = not-false (is_above earlier l) (or_false_right (not l.ended) (not (is_above earlier l)) rest);
    }

-- ---- the lines before the first bad one rise

-- behind a line that is the name v
rising-behind : (p : Line) (earlier ls : List Line) (v : Name) → decode p.bytes ≡ Some v → chain is_before v (names_in (good_behind (p ∷ earlier) ls)) ≡ true
unfolding good_behind names_in chain
rising-behind p earlier [] v d = refl
rising-behind p earlier (l ∷ ls) v d = by (is_bad (p ∷ earlier) l) refl (rising-behind l (p ∷ earlier) ls)
  where
    by : (bad : Bool) → is_bad (p ∷ earlier) l ≡ bad → ((w : Name) → decode l.bytes ≡ Some w → chain is_before w (names_in (good_behind (l ∷ p ∷ earlier) ls)) ≡ true)
        → chain is_before v (names_in (cond bad [] (l ∷ good_behind (l ∷ p ∷ earlier) ls))) ≡ true
    by true e f = refl
    by false e f =
        let g = not_bad (p ∷ earlier) l e in
        let here = sym (read-order p.bytes l.bytes v g.name d g.read) ∙ g.above in
        rw g.read (and_both (is_before v g.name) (chain is_before g.name (names_in (good_behind (l ∷ p ∷ earlier) ls))) here (f g.name g.read))

pub good-rising : (ls : List Line) → rising (names_in (good ls)) ≡ true
unfolding good_behind names_in
good-rising [] = refl
good-rising (l ∷ ls) = by (is_bad [] l) refl
  where
    by : (bad : Bool) → is_bad [] l ≡ bad → rising (names_in (cond bad [] (l ∷ good_behind (l ∷ []) ls))) ≡ true
    by true e = refl
    by false e =
        let g = not_bad [] l e in
        rw g.read (rising-behind l [] ls g.name g.read)

-- ---- of names that rise the last manifest is the highest

rising-rest : (v : Name) (vs : List Name) → chain is_before v vs ≡ true → rising vs ≡ true
unfolding chain
rising-rest v [] e = refl
rising-rest v (w ∷ vs) e = and_right (is_before v w) (chain is_before w vs) e

-- behind an object there is no manifest
behind-object : (n : ℕ) (vs : List Name) → chain is_before (Object n) vs ≡ true → last_manifest vs ≡ None
unfolding chain last_manifest
behind-object n [] e = refl
behind-object n (Manifest m ∷ vs) e = absurd (false≢true e)
behind-object n (Object m ∷ vs) e = rw (behind-object m vs (and_right (is_before (Object n) (Object m)) (chain is_before (Object m) vs) e))

-- none, or n at least
abbrev IsFrom : ℕ → Option ℕ → Type 0
IsFrom n None = Unit {0}
IsFrom n (Some m) = n ≤ m

from_else : (n m : ℕ) (o : Option ℕ) → n < m → IsFrom m o → IsFrom n (or_else o (Some m))
from_else n m None h f = omega arith
from_else n m (Some k) h f = omega arith

-- behind a manifest the last one has a higher number
behind-manifest : (n : ℕ) (vs : List Name) → chain is_before (Manifest n) vs ≡ true → IsFrom n (last_manifest vs)
unfolding chain last_manifest
behind-manifest n [] e = tt
behind-manifest n (Manifest m ∷ vs) e =
    from_else n m (last_manifest vs) (ltb-true n m (and_left (ltb n m) (chain is_before (Manifest m) vs) e)) (behind-manifest m vs (and_right (ltb n m) (chain is_before (Manifest m) vs) e))
behind-manifest n (Object m ∷ vs) e = rw (behind-object m vs e) tt

at_least : (n : ℕ) (o : Option ℕ) → IsFrom n o → higher_of n o ≡ or_else o (Some n)
at_least n None f = refl
at_least n (Some m) f = ap Some (omega arith)

pub or_none : (o : Option ℕ) → or_else o None ≡ o
or_none None = refl
or_none (Some n) = refl

pub highest-last : (vs : List Name) → rising vs ≡ true → highest vs ≡ last_manifest vs
unfolding highest last_manifest
highest-last [] e = refl
highest-last (Manifest n ∷ vs) e = rw (highest-last vs (rising-rest (Manifest n) vs e)) (at_least n (last_manifest vs) (behind-manifest n vs e))
highest-last (Object n ∷ vs) e = highest-last vs (rising-rest (Object n) vs e) ∙ sym (or_none (last_manifest vs))

pub highest-good : (ls : List Line) → highest (names_in (good ls)) ≡ last_manifest (names_in (good ls))
highest-good ls = highest-last (names_in (good ls)) (good-rising ls)
