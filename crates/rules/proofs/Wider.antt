-- A ledger with free places behind its others: its words and its answers are the same, and an accepted step does the same to it.
-- Assumes nothing.
use mathlib.Core.Path.{◌≡◌, refl, ap, ap₂, ◌∙◌}
use mathlib.Core.Logic.{◌⊎◌, inl, inr}
use mathlib.Core.Bool.{Bool, true, false, cond}
use mathlib.Core.List.{List, [], ◌∷◌, ◌++◌, map}
use Prim.Native.Nat.{ℕ, zero, suc, ◌<◌}
use native.Mathlib.Omega.{arith}
use lib.ListN.{length, replicate}
use borrow.Author.Tests.{leb-false}
use Rattle.rules.specs.declared.Kind.{Kind}
use Rattle.rules.specs.declared.Kind.TheVariants.{Collect as COLLECT, Commit as COMMIT, Compact as COMPACT, Fence as FENCE, Hold as HOLD, List as LIST, Look as LOOK, Put as PUT, Release as RELEASE, Renew as RENEW}
use Rattle.rules.specs.declared.Object.{Object}
use Rattle.rules.specs.declared.Role.{Role}
use Rattle.rules.specs.declared.Role.TheVariants.{Compactor, Writer}
use Rattle.rules.specs.Limits.{Limits}
use Rattle.rules.specs.Lists.{has, keep, maximum, rising_above}
use Rattle.rules.specs.Request.{Asked, Request, Unreadable}
use Rattle.rules.specs.State.{State, free, objects, occupied}
use Rattle.rules.specs.Step.{act, answers, clear, collect, collected, commit, effect, fence, granted, mark, place, publish, rows_of, settle, tidy, with_places}
use Rattle.rules.specs.Table.{rows, well_formed}
use Rattle.rules.specs.Words.{compacted, currency_of, dead, listed, manifest_of, of_currency, pending, read_by}
use Rattle.rules.proofs.Accepted.{passed, positive}
use Rattle.rules.proofs.Demand3.{none-stored}
use Rattle.rules.proofs.Lists.{conj-true, decide}
use Rattle.rules.proofs.Numbers.{has_in, rising_above_lem}
use Rattle.rules.proofs.Shape.{Shape}
use Rattle.rules.proofs.SoundEnds.{current-kept}
use Rattle.rules.proofs.Soundness.{compacted-rising}
use Rattle.rules.proofs.Table.{Clear}

-- Free places behind the others

abbrev spare : ℕ → List Object → List Object
spare k ps = ps ++ replicate k free

abbrev pub widen : ℕ → State → State
widen k s = with_places s (spare k s.places)

spare-objects : (k : ℕ) (ps : List Object) → keep occupied (spare k ps) ≡ keep occupied ps
unfolding keep
spare-objects k [] = none-stored k
spare-objects k (o ∷ os) = rw (spare-objects k os)

-- what leaves a free place free leaves the spare ones as they are
spare-map : (f : Object → Object) → f free ≡ free → (k : ℕ) (ps : List Object) → map f (spare k ps) ≡ spare k (map f ps)
spare-map f e zero [] = refl
spare-map f e (suc k) [] = ap₂ ◌∷◌ e (spare-map f e k [])
spare-map f e k (o ∷ os) = ap (λ (ps : List Object). f o ∷ ps) (spare-map f e k os)

-- a put that has room before the spare places does not take one
spare-place : (o : Object) (k : ℕ) (ps : List Object) → length (keep occupied ps) < length ps → place o (spare k ps) ≡ spare k (place o ps)
unfolding place keep
spare-place o k [] h = absurd (omega arith)
spare-place o k (x ∷ xs) h = step (occupied x) h (spare-place o k xs)
  where
    step : (b : Bool) → length (cond b (x ∷ keep occupied xs) (keep occupied xs)) < length (x ∷ xs) → (length (keep occupied xs) < length xs → place o (spare k xs) ≡ spare k (place o xs))
        → cond b (x ∷ place o (spare k xs)) (o ∷ spare k xs) ≡ spare k (cond b (x ∷ place o xs) (o ∷ xs))
    step true h f = ap (λ (ps : List Object). x ∷ ps) (f (omega arith))
    step false h f = refl

-- a rising list does not name 0, the number of a free place
zero-absent : (l : List ℕ) → rising_above 0 l ≡ true → has 0 l ≡ false
zero-absent l e = step (decide (has 0 l))
  where
    step : (has 0 l ≡ true) ⊎ (has 0 l ≡ false) → has 0 l ≡ false
    step (inl t) = let h = rising_above_lem 0 0 l e (has_in 0 l t) in absurd (omega arith)
    step (inr t) = t

mark-free : (l : List ℕ) → rising_above 0 l ≡ true → mark l free ≡ free
mark-free l e = λ i. record { number = 0; role = Writer; epoch = 0; currency = 0; named = zero-absent l e i }

clear-free : (b : Bool) → cond b free free ≡ free
clear-free true = refl
clear-free false = refl

-- The words and the answers see the stored objects alone; each kind leaves the spare places as they are

module _ (k : ℕ) (s : State) where
  pub objects-same : objects (widen k s) ≡ objects s
  objects-same = spare-objects k s.places

  compacted-same : (n : ℕ) → compacted (widen k s) n ≡ compacted s n
  unfolding compacted currency_of
  compacted-same n = rw objects-same

  collected-same : (t : ℕ) → collected t (widen k s) ≡ collected t s
  unfolding collected dead pending listed manifest_of
  collected-same t = rw objects-same

  answers-same : (kind : Kind) → answers kind (widen k s) ≡ answers kind s
  unfolding answers read_by manifest_of of_currency currency_of
  answers-same (FENCE r slot) = refl
  answers-same (PUT r e n c) = refl
  answers-same (COMMIT e slot) = refl
  answers-same (COMPACT e slot n) = refl
  answers-same (HOLD x m e) = refl
  answers-same (RENEW x e) = refl
  answers-same (RELEASE x) = refl
  answers-same (LIST x) = refl
  answers-same (LOOK c x) = rw objects-same
  answers-same COLLECT = rw (collected-same s.clock)

  publish-wide : (w c : ℕ) (l : List ℕ) → rising_above 0 l ≡ true → publish w c l (widen k s) ≡ widen k (publish w c l s)
  publish-wide w c l e = ap (with_places (publish w c l s)) (spare-map (mark l) (mark-free l e) k s.places)

  fence-wide : (r : Role) → rising_above 0 s.current.names ≡ true → fence r (widen k s) ≡ widen k (fence r s)
  fence-wide Writer e = publish-wide _ _ s.current.names e
  fence-wide Compactor e = publish-wide _ _ s.current.names e

  collect-wide : collect (widen k s) ≡ widen k (collect s)
  unfolding dead pending listed manifest_of
  collect-wide = λ i. record {
    clock = s.clock;
    highest_collected = maximum (s.highest_collected ∷ collected-same s.clock i);
    places = spare-map (clear s.clock s) (clear-free (dead s.clock s free)) k s.places i;
    older = s.older;
    current = s.current;
    holds = s.holds;
  }

-- where no row applies: a put has room, and the lists rise
act-wide : {L : Limits} (k t : ℕ) (l : List ℕ) (s : State) → Shape L s → (kind : Kind) → Clear (rows L s t kind l) → act kind l (widen k (settle t s)) ≡ widen k (act kind l (settle t s))
unfolding act rows well_formed
act-wide k t l s r (FENCE role slot) f = fence-wide k (settle t s) role (r.rising _ (current-kept s))
act-wide {L} k t l s r (PUT role e n c) f =
    let room = leb-false L.places (length (objects s)) f.1.1.1.1.1.0 in
    let all = r.size in
    ap (with_places (settle t s)) (spare-place _ k s.places (omega arith))
act-wide k t l s r (COMMIT e slot) f = publish-wide k (settle t s) _ _ l (conj-true _ (passed _ f.0)).0
act-wide k t l s r (COMPACT e slot n) f =
    ap (λ (l : List ℕ). commit l (widen k (settle t s))) (compacted-same k (settle t s) n)
    ∙ publish-wide k (settle t s) _ _ _ (compacted-rising (settle t s) n (positive n (conj-true _ (passed _ f.0)).1.0) (r.rising _ (current-kept s)))
act-wide k t l s r (HOLD x m e) f = refl
act-wide k t l s r (RENEW x e) f = refl
act-wide k t l s r (RELEASE x) f = refl
act-wide k t l s r (LIST x) f = refl
act-wide k t l s r (LOOK c x) f = refl
act-wide k t l s r COLLECT f = collect-wide k (settle t s)

pub effect-wide : {L : Limits} (k : ℕ) (test : State → Bool) (s : State) → Shape L s → (q : Request) → Clear (rows_of L test s q) → effect q (widen k s) ≡ widen k (effect q s)
effect-wide k test s r (Asked t kind l) f = ap tidy (act-wide k t l s r kind f.1)
effect-wide k test s r Unreadable f = refl

pub granted-same : (k : ℕ) (s : State) (q : Request) → granted q (widen k s) ≡ granted q s
granted-same k s (Asked t kind l) = answers-same k (settle t s) kind
granted-same k s Unreadable = refl
