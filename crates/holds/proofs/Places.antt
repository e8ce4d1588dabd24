-- What the type of the holds and their layout tell of the places.
-- Assumes nothing.
use mathlib.Core.Path.{◌≡◌, refl, sym, ap, ◌∙◌}
use mathlib.Core.Bool.{Bool, true, false, cond}
use mathlib.Core.List.{List, [], ◌∷◌, ◌++◌}
use Prim.Native.Nat.{ℕ, suc, ◌+◌, ◌-◌, ◌≤◌, ◌<◌}
use native.Mathlib.Omega.{arith}
use borrow.Author.Tests.{leb-true, le-leb, eqb-true}
use lib.Dec.{leb, ltb}
use lib.Seq.{length-take-le}
use lib.ListN.{length, drop, replicate}
use mir.Val.{Val}
use denote.Laws.{Is}
use Rattle.rules.specs.declared.Hold.{Hold}
use Rattle.rules.specs.Limits.{limits}
use Rattle.rules.specs.Lists.{conj, rising_above}
use Rattle.rules.specs.Step.{insert_hold}
use Rattle.rules.proofs.Lists.{and_left, and_right, and_both, conj-true}
use Rattle.arrays.proofs.Lists.{pad-laid, laid-pad, laid_over, take-pad, drop-pad}
use Rattle.arrays.proofs.Sorting.{length_inserted}
use Rattle.holds.specs.declared.Holds.{Holds}
use Rattle.arrays.specs.Arrays.{pad, inserted_by}
use Rattle.holds.specs.Holds.{no_hold, holds_of, lay_holds, is_no_hold, is_laid, numbers}
use Rattle.holds.specs.contracts.Holds as holds

pub items_long : (h : Holds) (vs : List Val) → Is holds.the_row h vs → length h.items ≡ 8
items_long h vs is = is.1.1.1.0.1.0.1

-- the places of no holds
none_items : {h : Holds} → h ≡ lay_holds [] → h.items ≡ replicate 8 no_hold
unfolding pad
none_items e = ap (λ (h : Holds). h.items) e

-- a list laid over the places of no holds
pub packed_laid : {h : Holds} → h ≡ lay_holds [] → (kept items : List Hold) → items ≡ kept ++ drop (length kept) h.items → items ≡ pad 8 no_hold kept
packed_laid none kept items put = put ∙ ap (λ (z : List Hold). kept ++ drop (length kept) z) (none_items none) ∙ laid_over 8 no_hold kept

-- Holds that are laid out are the layout of their list, and a layout is laid out

no_hold_lem : (x : Hold) → is_no_hold x ≡ true → x ≡ no_hold
unfolding is_no_hold
no_hold_lem x e =
    let f = conj-true _ e in
    λ i. record { number = eqb-true x.number 0 f.0 i; manifest = eqb-true x.manifest 0 f.1.0 i; expiry = eqb-true x.expiry 0 f.1.1.0 i }

pub few : (h : Holds) → is_laid h ≡ true → h.count ≤ limits.holds
unfolding is_laid
few h e = leb-true h.count limits.holds (and_left (leb h.count limits.holds) _ e)

pub laid_out : (h : Holds) → length h.items ≡ 8 → is_laid h ≡ true → lay_holds (holds_of h) ≡ h
unfolding is_laid
laid_out h long e =
    let fits = few h e in
    let same = pad-laid no_hold is_no_hold no_hold_lem h.count h.items (omega arith) (and_right (leb h.count limits.holds) _ e) in
    λ i. record { count = length-take-le h.count h.items (omega arith) i; items = (ap (λ (k : ℕ). pad k no_hold (holds_of h)) (sym long) ∙ same) i }

pub lay-laid : (xs : List Hold) → length xs ≤ limits.holds → is_laid (lay_holds xs) ≡ true
unfolding is_laid is_no_hold conj
lay-laid xs h = and_both (leb (length xs) limits.holds) _ (le-leb _ _ h) (laid-pad is_no_hold limits.holds no_hold xs refl)

pub holds-lay : (xs : List Hold) → holds_of (lay_holds xs) ≡ xs
holds-lay xs = take-pad limits.holds no_hold xs

-- Putting a hold into a rising list by handing the larger on is putting it in its place

abbrev pub earlier : Hold → Hold → Bool
earlier a b = ltb a.number b.number

inserted_first : (y : Hold) (ys : List Hold) → rising_above y.number (numbers ys) ≡ true → inserted_by earlier y ys ≡ y ∷ ys
unfolding inserted_by rising_above
inserted_first y [] e = refl
inserted_first y (z ∷ zs) e =
    let t = and_left (ltb y.number z.number) _ e in
    rw t (ap (λ (l : List Hold). y ∷ l) (inserted_first z zs (and_right (ltb y.number z.number) _ e)))

pub inserted_rising : (floor : ℕ) (x : Hold) (ys : List Hold) → rising_above floor (numbers ys) ≡ true → inserted_by earlier x ys ≡ insert_hold x ys
unfolding inserted_by insert_hold rising_above
inserted_rising floor x [] e = refl
inserted_rising floor x (y ∷ ys) e = step (ltb x.number y.number) (inserted_first y ys rest) (inserted_rising y.number x ys rest)
  where
    rest : rising_above y.number (numbers ys) ≡ true
    rest = and_right (ltb floor y.number) _ e

    step : (b : Bool) → inserted_by earlier y ys ≡ y ∷ ys → inserted_by earlier x ys ≡ insert_hold x ys
        → cond b x y ∷ inserted_by earlier (cond b y x) ys ≡ cond b (x ∷ y ∷ ys) (y ∷ insert_hold x ys)
    step true f g = ap (λ (l : List Hold). x ∷ l) f
    step false f g = ap (λ (l : List Hold). y ∷ l) g

-- Inserting a hold into holds that are laid out leaves their layout
pub inserted_laid : (x : Hold) (h : Holds) (items : List Hold) → length h.items ≡ 8 → is_laid h ≡ true → h.count < limits.holds → rising_above 0 (numbers (holds_of h)) ≡ true
    → items ≡ inserted_by earlier x (holds_of h) ++ drop (h.count + 1) h.items
    → record { count = h.count + 1; items = items } ≡ lay_holds (insert_hold x (holds_of h))
unfolding pad
inserted_laid x h items long laid room rising put =
    let new = inserted_by earlier x (holds_of h) in
    let short : length (holds_of h) ≡ h.count = length-take-le h.count h.items (omega arith) in
    let next : h.count + 1 ≡ suc (length (holds_of h)) = omega arith in
    let count : h.count + 1 ≡ length new = omega (arith, length_inserted earlier x (holds_of h)) in
    let rest : drop (h.count + 1) h.items ≡ replicate (8 - length new) no_hold =
    ap (λ (g : Holds). drop (h.count + 1) g.items) (sym (laid_out h long laid))
    ∙ ap (λ (k : ℕ). drop k (pad 8 no_hold (holds_of h))) next
    ∙ drop-pad 8 no_hold (holds_of h) (omega arith)
    ∙ ap (λ (k : ℕ). replicate (8 - k) no_hold) (sym (length_inserted earlier x (holds_of h))) in
    let same = inserted_rising 0 x (holds_of h) rising in
    λ j. record { count = (count ∙ ap length same) j; items = (put ∙ ap (λ (l : List Hold). new ++ l) rest ∙ ap (pad 8 no_hold) same) j }
