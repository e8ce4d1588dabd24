-- What a walk keeps from turn to turn: what it found before a place, joined with what is found from there on, is what is found in all.
-- Assumes nothing.
use Rattle.std.proofs.Common.{Option, Some, None, IfSome}
use Rattle.std.specs.Option.{option_or, unwrap_or}
use mathlib.Core.Path.{◌≡◌, refl, sym, ap₂, ◌∙◌}
use mathlib.Core.Bool.{Bool, true, false, cond}
use mathlib.Core.List.{List, [], ◌∷◌, ◌++◌, append-nil}
use Prim.Native.Nat.{ℕ, suc, ◌+◌, ◌-◌, ◌*◌, ◌/◌, ◌≤◌, ◌<◌}
use native.Mathlib.Omega.{arith}
use lib.Dec.{eqb}
use lib.ListN.{length, take, drop, set, replicate, take-append-drop}
use lib.Seq.{append_snoc, drop-drop, drop-set-lt, length-take-le}
use Rattle.fields.specs.Bytes.{words_of}
use Rattle.records.specs.declared.Field.{Field}
use Rattle.records.specs.declared.Held.{Held}
use Rattle.records.specs.declared.Place.{Place}
use Rattle.records.specs.Format.{most_fields}
use Rattle.records.specs.Walk.{Walked, Found, Broken, walk}
use Rattle.records.specs.Found.{held, first_list, in_numbers, placed_all}
use Rattle.records.proofs.Fronts.{push, walk-held}

-- the list that was found in the bytes, or else the one that is found behind it
abbrev pub list_from : List ℕ → Option Place → List ℕ → List ℕ
list_from bs None l = l
list_from bs (Some p) l = words_of p.count (drop p.at bs)

-- the numbers and the list that were found in the bytes, before what is found in the rest
abbrev pub joined : List ℕ → List ℕ → Option Place → Walked → Walked
joined bs v p Broken = Broken
joined bs v p (Found rest l) = Found (v ++ rest) (list_from bs p l)

joined-push : (bs v : List ℕ) (p : Option Place) (list : Bool) (n a k : ℕ) (w : Walked)
    → joined bs v p (push list n (words_of k (drop a bs)) w) ≡ joined bs (v ++ n ∷ []) (cond list (option_or p (Some (record { at = a; count = k }))) p) w
unfolding push
joined-push bs v p list n a k Broken = refl
joined-push bs v None true n a k (Found rest l) = rw append_snoc
joined-push bs v None false n a k (Found rest l) = rw append_snoc
joined-push bs v (Some p) true n a k (Found rest l) = rw append_snoc
joined-push bs v (Some p) false n a k (Found rest l) = rw append_snoc

-- a field that is there
pub joined-field : (bs v : List ℕ) (p : Option Place) (f : Field) (fs : List Field) (at : ℕ) (h : Held) → held f (drop at bs) ≡ Some h
    → joined bs v p (walk (f ∷ fs) (drop at bs)) ≡ joined bs (v ++ h.number ∷ []) (first_list p f.width (at + 3) h.len) (walk fs (drop (at + 3 + h.len) bs))
joined-field bs v p f fs at h there =
    let sum : at + (3 + h.len) ≡ at + 3 + h.len = omega arith in
    rw (walk-held f (drop at bs) fs, there, drop-drop 3 at bs, drop-drop (3 + h.len) at bs, sum) (joined-push bs v p (eqb f.width 0) h.number (at + 3) (h.len / 8) (walk fs (drop (at + 3 + h.len) bs)))

-- a field that isn't
pub joined-absent : (bs v : List ℕ) (p : Option Place) (f : Field) (fs : List Field) (at : ℕ) → held f (drop at bs) ≡ None → joined bs v p (walk (f ∷ fs) (drop at bs)) ≡ Broken
joined-absent bs v p f fs at absent = rw (walk-held f (drop at bs) fs, absent)

-- bytes behind the last field
pub walk-left : (s : List ℕ) → 0 < length s → walk [] s ≡ Broken
unfolding walk
walk-left [] h = absurd (omega arith)
walk-left (b ∷ s) h = refl

pub walk_none : walk [] [] ≡ Found [] []
unfolding walk
walk_none = refl

-- ---- the numbers, with zeros behind those that were found

pub zeros_next : (l : List ℕ) (i n : ℕ) → i < most_fields → drop i l ≡ replicate (most_fields - i) 0 → drop (i + 1) (set l i n) ≡ replicate (most_fields - (i + 1)) 0
zeros_next l i n h e =
    let one : most_fields - i ≡ suc (most_fields - (i + 1)) = omega arith in
    drop-set-lt (i + 1) l i n (omega arith) ∙ sym (drop-drop 1 i l) ∙ rw (e, one)

-- the place of the list, empty where none was found
abbrev pub placed : Option Place → Place
placed p = unwrap_or p (record { at = 0; count = 0 })

pub joined_end : (bs l : List ℕ) (p : Option Place) (i : ℕ) → length l ≡ most_fields → i ≤ most_fields → drop i l ≡ replicate (most_fields - i) 0
    → Found l (words_of (placed p).count (drop (placed p).at bs)) ≡ placed_all (joined bs (take i l) p (Found [] []))
unfolding words_of
joined_end bs l p i long h zeros = ap₂ Found numbers (list p)
  where
    size : length (take i l) ≡ i
    size = length-take-le i l (omega arith)

    numbers : l ≡ in_numbers (take i l ++ [])
    numbers = rw (append-nil, size, ← zeros) (sym (take-append-drop i l))

    list : (p : Option Place) → words_of (placed p).count (drop (placed p).at bs) ≡ list_from bs p []
    list None = refl
    list (Some p) = refl

-- ---- the list's place is within the bytes

abbrev pub Within : ℕ → Place → Type 0
Within m p = p.at + 8 * p.count ≤ m

pub first-within : (p : Option Place) (width at len m : ℕ) → IfSome p (Within m) → at + len ≤ m → IfSome (first_list p width at len) (Within m)
first-within p width at len m old new = by p (eqb width 0) old
  where
    by : (p : Option Place) (list : Bool) → IfSome p (Within m) → IfSome (cond list (option_or p (Some (record { at = at; count = len / 8 }))) p) (Within m)
    by None true old = omega arith
    by None false old = old
    by (Some p) true old = old
    by (Some p) false old = old

pub placed-within : (p : Option Place) (m : ℕ) → IfSome p (Within m) → Within m (placed p)
placed-within None m w = omega arith
placed-within (Some p) m w = w
