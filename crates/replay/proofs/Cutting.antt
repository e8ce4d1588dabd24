-- A trace cut into records: one record more, or none.
-- Assumes nothing.
use mathlib.Core.Path.{◌≡◌, refl, ap, ◌∙◌}
use mathlib.Core.Bool.{Bool, true, false, cond}
use mathlib.Core.List.{List, ◌∷◌, ◌++◌, flatten, append_assoc}
use Prim.Native.Nat.{ℕ, zero, suc, ◌+◌, ◌≤◌, ◌<◌}
use native.Mathlib.Omega.{arith}
use lib.Dec.{ltb, eqb}
use lib.ListN.{length, take, drop, length-drop, take-append-drop}
use borrow.Author.Tests.{eqb-true, eqb-false, ltb-false}
use Rattle.fields.specs.declared.Next.{Next}
use Rattle.fields.specs.declared.Next.TheVariants.{End, Torn, Record}
use Rattle.fields.specs.Fields.{claimed, next_of}
use Rattle.fields.proofs.Fields.{next_end}
use Rattle.replay.specs.Replay.{Cut, cut_at, cut_for, cut}

-- what is known of the bytes by what stands at their front
abbrev pub Found : List ℕ → Next → Type 0
Found bs End = length bs ≡ 0
Found bs Torn = 0 < length bs
Found bs (Record n) = (3 ≤ n) × (n ≤ length bs) × (n ≡ 3 + claimed bs)

pub next-found : (bs : List ℕ) → Found bs (next_of bs)
unfolding next_of
next-found bs = by (eqb (length bs) 0) (ltb (length bs) 3) (ltb (length bs) (3 + claimed bs)) refl refl
  where
    by : (a b c : Bool) → eqb (length bs) 0 ≡ a → ltb (length bs) (3 + claimed bs) ≡ c → Found bs (cond a End (cond b Torn (cond c Torn (Record (3 + claimed bs)))))
    by true b c e f = eqb-true (length bs) 0 e
    by false true c e f = let g = eqb-false (length bs) 0 e in omega (arith, g)
    by false false true e f = let g = eqb-false (length bs) 0 e in omega (arith, g)
    by false false false e f = let h = ltb-false (length bs) (3 + claimed bs) f in (omega arith, h, refl)

-- two ways to cut what is behind the first record
cut_alike : (bs : List ℕ) (p q : List ℕ → Cut) → ((n : ℕ) → Found bs (Record n) → p (drop n bs) ≡ q (drop n bs)) → (x : Next) → Found bs x → cut_at x bs p ≡ cut_at x bs q
cut_alike bs p q e End f = refl
cut_alike bs p q e Torn f = refl
cut_alike bs p q e (Record n) f = λ i. record { records = take n bs ∷ (e n f i).records; rest = (e n f i).rest }

-- more turns than bytes change nothing
cut-enough : (k m : ℕ) (bs : List ℕ) → length bs ≤ k → length bs ≤ m → cut_for k bs ≡ cut_for m bs
unfolding cut_for
cut-enough zero zero bs h g = refl
cut-enough zero (suc m) bs h g = rw (next_end bs (omega arith))
cut-enough (suc k) zero bs h g = rw (next_end bs (omega arith))
cut-enough (suc k) (suc m) bs h g = cut_alike bs (cut_for k) (cut_for m) (λ n f. cut-enough k m (drop n bs) (shorter n k f h) (shorter n m f g)) (next_of bs) (next-found bs)
  where
    shorter : (n j : ℕ) → Found bs (Record n) → length bs ≤ suc j → length (drop n bs) ≤ j
    shorter n j f h = omega (arith, length-drop n bs, f.0, h)

-- the front, then the rest as it is cut by itself
pub cut-next : (bs : List ℕ) → cut bs ≡ cut_at (next_of bs) bs cut
unfolding cut_for
cut-next bs =
    cut-enough (length bs) (suc (length bs)) bs (omega arith) (omega arith)
    ∙ cut_alike bs (cut_for (length bs)) cut (λ n f. cut-enough (length bs) (length (drop n bs)) (drop n bs) (omega (arith, length-drop n bs)) (omega arith)) (next_of bs) (next-found bs)

-- the records and the rest are the trace
cut-joined_for : (k : ℕ) (bs : List ℕ) → flatten (cut_for k bs).records ++ (cut_for k bs).rest ≡ bs
unfolding cut_for flatten
cut-joined_for zero bs = refl
cut-joined_for (suc k) bs = by (cut_for k) (cut-joined_for k) (next_of bs)
  where
    by : (more : List ℕ → Cut) → ((r : List ℕ) → flatten (more r).records ++ (more r).rest ≡ r) → (x : Next) → flatten (cut_at x bs more).records ++ (cut_at x bs more).rest ≡ bs
    by more e End = refl
    by more e Torn = refl
    by more e (Record n) =
        append_assoc (take n bs) (flatten (more (drop n bs)).records) (more (drop n bs)).rest
        ∙ ap (λ (l : List ℕ). take n bs ++ l) (e (drop n bs)) ∙ take-append-drop n bs

pub cut-joined : (bs : List ℕ) → flatten (cut bs).records ++ (cut bs).rest ≡ bs
cut-joined bs = cut-joined_for (length bs) bs
