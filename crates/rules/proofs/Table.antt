-- Laws of the refusal table: the verdict is the smallest row that applies, a refusal changes nothing, and of an accepted step no row applies.
-- Assumes nothing.
use mathlib.Core.Path.{◌≡◌, refl, sym, ap, ◌∙◌}
use mathlib.Core.Logic.{◌⊎◌, inl, inr}
use mathlib.Core.Bool.{Bool, true, false, cond}
use mathlib.Core.List.Memᴰ
use mathlib.Core.List.{List, [], ◌∷◌, map}
use Prim.Native.Nat.{ℕ, ◌≤◌, ◌<◌}
use native.Mathlib.Omega.{arith}
use lib.Dec.{ltb, eqb}
use borrow.Author.Tests.{ltb-true, eqb-true}
use Rattle.rules.specs.declared.Answer.TheVariants.{Refused}
use Rattle.rules.specs.declared.Kind.{Kind}
use Rattle.rules.specs.declared.Kind.TheVariants.{Collect as COLLECT, Commit as COMMIT, Compact as COMPACT, Fence as FENCE, Hold as HOLD, List as LIST, Look as LOOK, Put as PUT, Release as RELEASE, Renew as RENEW}
use Rattle.rules.specs.Limits.{Limits}
use Rattle.rules.specs.Lists.{◌∈◌, rising_above}
use Rattle.rules.specs.Request.{Ask, Asked, Request, Unreadable}
use Rattle.rules.specs.State.{State}
use Rattle.rules.specs.Step.{accepts, alone, answers, code, granted, next, reply, rows_of, settle, verdict}
use Rattle.rules.specs.Table.{Row, first_of, rows}
use Rattle.rules.specs.Verdict.{RefusalKeeps, Smallest, VerdictSmallest}
use Rattle.rules.proofs.Lists.{and_left, and_right, true-false}
use Rattle.rules.proofs.Numbers.{rising_above_lem}

abbrev pub row_numbers : List Row → List ℕ
row_numbers rs = map (λ (r : Row). r.number) rs

-- no row of the list applies
abbrev pub Clear : List Row → Type 0
Clear [] = Unit {0}
Clear (r ∷ rs) = (r.applies ≡ false) × Clear rs

module _ (floor : ℕ) (r : Row) (rs : List Row) (e : rising_above floor (row_numbers (r ∷ rs)) ≡ true) where
  rising-first : floor < r.number
  unfolding rising_above
  rising-first = ltb-true floor r.number (and_left (ltb floor r.number) _ e)

  rising-rest : rising_above r.number (row_numbers rs) ≡ true
  unfolding rising_above
  rising-rest = and_right (ltb floor r.number) _ e

  rising-later : (q : Row) → q ∈ rs → r.number < q.number
  rising-later q i = rising_above_lem r.number q.number (row_numbers rs) rising-rest (Memᴰ.map (λ (r : Row). r.number) i)

-- 0, or above the floor
first_above : (floor : ℕ) (rs : List Row) → rising_above floor (row_numbers rs) ≡ true → (first_of rs ≡ 0) ⊎ (floor < first_of rs)
unfolding first_of
first_above floor [] e = inl refl
first_above floor (r ∷ rs) e = step r.applies (first_above r.number rs (rising-rest floor r rs e))
  where
    step : (b : Bool) → (first_of rs ≡ 0) ⊎ (r.number < first_of rs) → (cond b r.number (first_of rs) ≡ 0) ⊎ (floor < cond b r.number (first_of rs))
    step true w = inr (rising-first floor r rs e)
    step false (inl z) = inl z
    step false (inr h) = let f = rising-first floor r rs e in inr (omega arith)

pub clear_of : (floor : ℕ) (rs : List Row) → rising_above floor (row_numbers rs) ≡ true → first_of rs ≡ 0 → Clear rs
unfolding first_of
clear_of floor [] e z = tt
clear_of floor (r ∷ rs) e z = step r.applies refl z (clear_of r.number rs (rising-rest floor r rs e))
  where
    step : (b : Bool) → r.applies ≡ b → cond b r.number (first_of rs) ≡ 0 → (first_of rs ≡ 0 → Clear rs) → (r.applies ≡ false) × Clear rs
    step true q z f = let h = rising-first floor r rs e in absurd (omega arith)
    step false q z f = (q, f z)

pub of_clear : (rs : List Row) → Clear rs → first_of rs ≡ 0
unfolding first_of
of_clear [] f = refl
of_clear (r ∷ rs) f = ap (λ b. cond b r.number (first_of rs)) f.0 ∙ of_clear rs f.1

clear_in : (rs : List Row) → Clear rs → (r : Row) → r ∈ rs → r.applies ≡ false
clear_in [] f r i = absurd (Memᴰ.not-nil i)
clear_in (q ∷ qs) f r i = step (Memᴰ.cases_cons i) (clear_in qs f.1 r)
  where
    step : (r ≡ q) ⊎ (r ∈ qs) → (r ∈ qs → r.applies ≡ false) → r.applies ≡ false
    step (inl e) g = ap (λ (r : Row). r.applies) e ∙ f.0
    step (inr j) g = g j

in_clear : (rs : List Row) → ((r : Row) → r ∈ rs → r.applies ≡ false) → Clear rs
in_clear [] f = tt
in_clear (r ∷ rs) f = (f r (Memᴰ.head refl), in_clear rs (λ q i. f q (Memᴰ.tail i)))

-- no row below r's applies
abbrev Below : List Row → Row → Type 0
Below rs r = (q : Row) → q ∈ rs → q.number < r.number → q.applies ≡ false

-- the number that is given is that of a row that applies, where no smaller one does
given : (floor : ℕ) (rs : List Row) → rising_above floor (row_numbers rs) ≡ true → (r : Row) → r ∈ rs → first_of rs ≡ r.number → (r.applies ≡ true) × Below rs r
unfolding first_of
given floor [] e r i z = absurd (Memᴰ.not-nil i)
given floor (q ∷ qs) e r i z = step q.applies refl (Memᴰ.cases_cons i) z (given q.number qs (rising-rest floor q qs e) r)
  where
    later : (x : Row) → x ∈ qs → q.number < x.number
    later = rising-later floor q qs e

    below : q.applies ≡ false → Below qs r → Below (q ∷ qs) r
    below p f x j lt = go (Memᴰ.cases_cons j)
      where
        go : (x ≡ q) ⊎ (x ∈ qs) → x.applies ≡ false
        go (inl w) = ap (λ (r : Row). r.applies) w ∙ p
        go (inr k) = f x k lt

    least : q.applies ≡ true → r ≡ q → Below (q ∷ qs) r
    least p w x j lt = go (Memᴰ.cases_cons j)
      where
        same : r.number ≡ q.number
        same = ap (λ (r : Row). r.number) w

        go : (x ≡ q) ⊎ (x ∈ qs) → x.applies ≡ false
        go (inl v) = let a = ap (λ (r : Row). r.number) v in let b = same in absurd (omega arith)
        go (inr k) = let a = later x k in let b = same in absurd (omega arith)

    step : (b : Bool) → q.applies ≡ b → (r ≡ q) ⊎ (r ∈ qs) → cond b q.number (first_of qs) ≡ r.number
        → (r ∈ qs → first_of qs ≡ r.number → (r.applies ≡ true) × Below qs r) → (r.applies ≡ true) × Below (q ∷ qs) r
    step true p (inl w) z f = (ap (λ (r : Row). r.applies) w ∙ p, least p w)
    step true p (inr k) z f = let a = later r k in absurd (omega arith)
    step false p (inl w) z f = absurd (none (first_above q.number qs (rising-rest floor q qs e)))
      where
        none : (first_of qs ≡ 0) ⊎ (q.number < first_of qs) → ⊥
        none (inl y) = let a = ap (λ (r : Row). r.number) w in let b = rising-first floor q qs e in omega arith
        none (inr y) = let a = ap (λ (r : Row). r.number) w in omega arith
    step false p (inr k) z f = let g = f k z in (g.0, below p g.1)

gives : (floor : ℕ) (rs : List Row) → rising_above floor (row_numbers rs) ≡ true → (r : Row) → r ∈ rs → r.applies ≡ true → Below rs r → first_of rs ≡ r.number
unfolding first_of
gives floor [] e r i a f = absurd (Memᴰ.not-nil i)
gives floor (q ∷ qs) e r i a f = step q.applies refl (Memᴰ.cases_cons i) (λ k. gives q.number qs (rising-rest floor q qs e) r k a (λ x j. f x (Memᴰ.tail j)))
  where
    step : (b : Bool) → q.applies ≡ b → (r ≡ q) ⊎ (r ∈ qs) → (r ∈ qs → first_of qs ≡ r.number) → cond b q.number (first_of qs) ≡ r.number
    step true p (inl w) g = sym (ap (λ (r : Row). r.number) w)
    step true p (inr k) g = true-false q.applies p (f q (Memᴰ.head refl) (rising-later floor q qs e r k))
    step false p (inl w) g = true-false q.applies (sym (ap (λ (r : Row). r.applies) w) ∙ a) p
    step false p (inr k) g = g k

pub smallest : (rs : List Row) → rising_above 0 (row_numbers rs) ≡ true → Smallest rs (first_of rs)
smallest rs e = record {
  accepted = (λ z. clear_in rs (clear_of 0 rs e z), λ f. of_clear rs (in_clear rs f));
  refused = λ r i. (given 0 rs e r i, λ w. gives 0 rs e r i w.0 w.1);
}

-- where a row applies the number is not above that row's, and not 0
pub at_most : (floor : ℕ) (rs : List Row) → rising_above floor (row_numbers rs) ≡ true → (r : Row) → r ∈ rs → r.applies ≡ true → (0 < first_of rs) × (first_of rs ≤ r.number)
unfolding first_of
at_most floor [] e r i a = absurd (Memᴰ.not-nil i)
at_most floor (q ∷ qs) e r i a = step q.applies refl (Memᴰ.cases_cons i) (λ k. at_most q.number qs (rising-rest floor q qs e) r k a)
  where
    step : (b : Bool) → q.applies ≡ b → (r ≡ q) ⊎ (r ∈ qs) → (r ∈ qs → (0 < first_of qs) × (first_of qs ≤ r.number)) → (0 < cond b q.number (first_of qs)) × (cond b q.number (first_of qs) ≤ r.number)
    step true p (inl w) f = let h = rising-first floor q qs e in let same = ap (λ (r : Row). r.number) w in (omega arith, omega arith)
    step true p (inr k) f = let h = rising-first floor q qs e in let above = rising-later floor q qs e r k in (omega arith, omega arith)
    step false p (inl w) f = true-false q.applies (sym (ap (λ (r : Row). r.applies) w) ∙ a) p
    step false p (inr k) f = f k

-- each kind's rows are in rising order
pub rows-rising : (L : Limits) (s : State) (t : ℕ) (k : Kind) (l : List ℕ) → rising_above 1 (row_numbers (rows L s t k l)) ≡ true
unfolding rows rising_above
rows-rising L s t (FENCE r slot) l = refl
rows-rising L s t (PUT r e n c) l = refl
rows-rising L s t (COMMIT e slot) l = refl
rows-rising L s t (COMPACT e slot n) l = refl
rows-rising L s t (HOLD x m e) l = refl
rows-rising L s t (RENEW x e) l = refl
rows-rising L s t (RELEASE x) l = refl
rows-rising L s t (LIST x) l = refl
rows-rising L s t (LOOK c x) l = refl
rows-rising L s t COLLECT l = refl

module _ (L : Limits) (test : State → Bool) where
  rising : (s : State) (q : Request) → rising_above 0 (row_numbers (rows_of L test s q)) ≡ true
  unfolding rising_above
  rising s (Asked t k l) = rows-rising L s t k l
  rising s Unreadable = refl

  -- the verdict is the smallest number that applies
  pub verdict-smallest : VerdictSmallest L test
  unfolding verdict
  verdict-smallest s q = smallest (rows_of L test s q) (rising s q)

  -- where a row applies the verdict is not above it, and it is a refusal
  pub verdict-at-most : (s : State) (q : Request) (r : Row) → r ∈ rows_of L test s q → r.applies ≡ true → (0 < verdict L test s q) × (verdict L test s q ≤ r.number)
  unfolding verdict
  verdict-at-most s q r i a = at_most 0 (rows_of L test s q) (rising s q) r i a

  pub verdict-zero : (s : State) (a : Ask) → accepts L test s a ≡ true → verdict L test s a.request ≡ 0
  unfolding accepts
  verdict-zero s a e = eqb-true (verdict L test s a.request) 0 (and_left (eqb (verdict L test s a.request) 0) _ e)

  -- of an accepted step no row applies
  pub cleared : (s : State) (a : Ask) → accepts L test s a ≡ true → Clear (rows_of L test s a.request)
  unfolding verdict
  cleared s a e = clear_of 0 (rows_of L test s a.request) (rising s a.request) (verdict-zero s a e)

  -- a refusal changes nothing, and neither does a verdict that does not fit
  pub refusal_keeps : RefusalKeeps L test
  unfolding next
  refusal_keeps s a e = rw e

  -- an accepted step's reply
  pub granted-reply : (s : State) (a : Ask) → accepts L test s a ≡ true → reply L test s a.request ≡ granted a.request s
  unfolding reply accepts
  granted-reply s a e =
      ap (λ b. cond b (granted a.request s) (alone (Refused (verdict L test s a.request)))) (and_left (eqb (verdict L test s a.request) 0) _ e)

-- what an accepted request is answered has code 0
answers-code : (k : Kind) (s : State) → code (answers k s).answer ≡ 0
unfolding answers
answers-code (FENCE r slot) s = refl
answers-code (PUT r e n c) s = refl
answers-code (COMMIT e slot) s = refl
answers-code (COMPACT e slot n) s = refl
answers-code (HOLD x m e) s = refl
answers-code (RENEW x e) s = refl
answers-code (RELEASE x) s = refl
answers-code (LIST x) s = refl
answers-code (LOOK c x) s = refl
answers-code COLLECT s = refl

pub granted-code : (q : Request) (s : State) → code (granted q s).answer ≡ 0
granted-code (Asked t k l) s = answers-code k (settle t s)
granted-code Unreadable s = refl
