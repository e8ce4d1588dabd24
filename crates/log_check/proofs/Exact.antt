-- The check accepts exactly the log that our own run writes, and its index is that of the first disagreement.
-- Assumes nothing.
use mathlib.Core.Path.{◌≡◌, refl, sym, ap, ap₂, subst, ◌∙◌}
use mathlib.Core.Logic.{◌⊎◌, inl, inr, ◌↔◌}
use mathlib.Core.Bool.{Bool, true, false, cond, ◌&&◌, false≢true, true≢false}
use mathlib.Core.List.{List, [], ◌∷◌, ◌++◌, flatten, append-nil}
use Prim.Native.Nat.{ℕ, zero, suc, ◌+◌, ◌*◌, ◌≤◌, ◌<◌}
use native.Mathlib.Nat.{add-zero, zero-add}
use native.Mathlib.Omega.{arith}
use lib.Dec.{leb}
use lib.ListN.{length, take, length-append}
use borrow.Author.Tests.{leb-true, leb-false}
use Rattle.std.specs.Prelude.{None, Some}
use Rattle.rules.specs.Lists.{none}
use Rattle.objects.specs.Objects.{same}
use Rattle.rules.specs.Step.{longest_verdict}
use Rattle.rules.specs.Struck.{each}
use Rattle.rules.proofs.Lists.{and_left, and_right, decide}
use Rattle.objects.proofs.Places.{same_eq, same_refl}
use Rattle.ledger.specs.declared.Ledger.{Ledger}
use Rattle.replay.specs.declared.Ending.{Ending}
use Rattle.replay.specs.declared.Ending.TheVariants.{Whole, Torn, Full}
use Rattle.replay.specs.Front.{answer_bytes}
use Rattle.replay.specs.Replay.{Told, tell, Cut, cut, ending_of, replay_of}
use Rattle.replay.specs.Struck.{leaves}
use Rattle.replay.proofs.Answers.{answer-fits}
use Rattle.replay.proofs.Counts.{counted, ends_whole}
use Rattle.replay.proofs.Cutting.{cut-joined}
use Rattle.replay.proofs.Struck.{tell-all, room_for_all}
use Rattle.log_check.specs.Check.{due, logged, both_whole, compared, checked_of}
use Rattle.log_check.specs.Exact.{own_log, FirstAt, FirstInBytes, LogChecked}
use Rattle.log_check.proofs.InBytes.{first_in_bytes_lem, bytes-first}
use Rattle.log_check.proofs.Loop.{checked-found}

-- ---- how a run ends

abbrev is_torn : Ending → Bool
is_torn Whole = false
is_torn Torn = true
is_torn Full = false

abbrev is_full : Ending → Bool
is_full Whole = false
is_full Torn = false
is_full Full = true

ends_torn : (full : Bool) (rest : List ℕ) → ending_of full rest ≡ Torn → none rest ≡ false
unfolding none
ends_torn true rest e = absurd (false≢true (ap is_torn e))
ends_torn false [] e = absurd (false≢true (ap is_torn e))
ends_torn false (b ∷ rest) e = refl

ends_full : (full : Bool) (rest : List ℕ) → ending_of full rest ≡ Full → full ≡ true
unfolding none
ends_full true rest e = refl
ends_full false [] e = absurd (false≢true (ap is_full e))
ends_full false (b ∷ rest) e = absurd (false≢true (ap is_full e))

nothing : (l : List ℕ) → none l ≡ true → l ≡ []
unfolding none
nothing [] e = refl
nothing (n ∷ l) e = absurd (false≢true e)

-- the longest verdict for each record
due-short : (l : Ledger) (rs : List (List ℕ)) → length (flatten (each leaves answer_bytes l rs)) ≤ length rs * longest_verdict
unfolding each flatten
due-short l [] = omega arith
due-short l (r ∷ rs) = omega (arith, due-short (leaves l r) rs, answer-fits l r, length-append (answer_bytes l r) (flatten (each leaves answer_bytes (leaves l r) rs)))

-- ---- what is found of verdicts

agree_same : (i : ℕ) (vs ws : List (List ℕ)) (b : Bool) → compared i vs ws b ≡ None → (vs ≡ ws) × (b ≡ true)
unfolding compared
agree_same i [] [] true e = (refl, refl)
agree_same i [] [] false e = cc
agree_same i [] (w ∷ ws) b e = cc
agree_same i (v ∷ vs) [] b e = cc
agree_same i (v ∷ vs) (w ∷ ws) b e = step (same v w) refl e (agree_same (suc i) vs ws b)
  where
    step : (c : Bool) → same v w ≡ c → cond c (compared (suc i) vs ws b) (Some i) ≡ None → (compared (suc i) vs ws b ≡ None → (vs ≡ ws) × (b ≡ true))
        → (v ∷ vs ≡ w ∷ ws) × (b ≡ true)
    step true q e f = (ap₂ ◌∷◌ (same_eq v w q) (f e).0, (f e).1)
    step false q e f = cc

same_agree : (i : ℕ) (vs : List (List ℕ)) → compared i vs vs true ≡ None
unfolding compared
same_agree i [] = refl
same_agree i (v ∷ vs) = ap (λ (b : Bool). cond b (compared (suc i) vs vs true) (Some i)) (same_refl v) ∙ same_agree (suc i) vs

-- ---- the index

abbrev head : List (List ℕ) → List ℕ
head [] = []
head (x ∷ xs) = x

abbrev tail : List (List ℕ) → List (List ℕ)
tail [] = []
tail (x ∷ xs) = xs

-- what stands at n
abbrev At : List (List ℕ) → List (List ℕ) → Bool → ℕ → Type 0
At vs ws b n = (take (suc n) vs ≡ take (suc n) ws → ⊥) ⊎ ((length vs ≡ n) × (length ws ≡ n) × (b ≡ false))

-- the first disagreement, k behind index i
abbrev From : ℕ → ℕ → List (List ℕ) → List (List ℕ) → Bool → Type 0
From i n vs ws b = (k : ℕ) × (n ≡ i + k) × FirstAt vs ws b k

-- it is at once
here : (i n : ℕ) (vs ws : List (List ℕ)) (b : Bool) → Some i ≡ Some n → At vs ws b 0 → From i n vs ws b
here i n vs ws b e d = (0, (let z : i ≡ n = cc in omega arith), record { before = refl; in_due = omega arith; in_log = omega arith; differs = d })

-- behind a verdict that is the same
module _ (v : List ℕ) (vs ws : List (List ℕ)) (b : Bool) (k : ℕ) where
  first_cons : FirstAt vs ws b k → FirstAt (v ∷ vs) (v ∷ ws) b (suc k)
  first_cons f = record {
    before = ap (λ (us : List (List ℕ)). v ∷ us) f.before;
    in_due = let z = f.in_due in omega arith;
    in_log = let z = f.in_log in omega arith;
    differs = on f.differs;
  }
    where
      on : At vs ws b k → At (v ∷ vs) (v ∷ ws) b (suc k)
      on (inl d) = inl (λ q. d (ap tail q))
      on (inr d) = inr (ap suc d.0, ap suc d.1, d.2)

  first_tail : FirstAt (v ∷ vs) (v ∷ ws) b (suc k) → FirstAt vs ws b k
  first_tail f = record {
    before = ap tail f.before;
    in_due = let z = f.in_due in omega arith;
    in_log = let z = f.in_log in omega arith;
    differs = on f.differs;
  }
    where
      on : At (v ∷ vs) (v ∷ ws) b (suc k) → At vs ws b k
      on (inl d) = inl (λ q. d (ap (λ (us : List (List ℕ)). v ∷ us) q))
      on (inr d) = inr (omega (arith, d.0), omega (arith, d.1), d.2)

differs-first : (i n : ℕ) (vs ws : List (List ℕ)) (b : Bool) → compared i vs ws b ≡ Some n → From i n vs ws b
unfolding compared
differs-first i n [] [] true e = cc
differs-first i n [] [] false e = here i n [] [] false e (inr (refl, refl, refl))
differs-first i n [] (w ∷ ws) b e = here i n [] (w ∷ ws) b e (inl (λ q. let z = ap length q in omega arith))
differs-first i n (v ∷ vs) [] b e = here i n (v ∷ vs) [] b e (inl (λ q. let z = ap length q in omega arith))
differs-first i n (v ∷ vs) (w ∷ ws) b e = step (same v w) refl e (differs-first (suc i) n vs ws b)
  where
    step : (c : Bool) → same v w ≡ c → cond c (compared (suc i) vs ws b) (Some i) ≡ Some n → (compared (suc i) vs ws b ≡ Some n → From (suc i) n vs ws b) → From i n (v ∷ vs) (w ∷ ws) b
    step true q e f =
        let r = f e in
        (suc r.0, (let z = r.1 in omega arith), subst (λ (u : List ℕ). FirstAt (v ∷ vs) (u ∷ ws) b (suc r.0)) (same_eq v w q) (first_cons v vs ws b r.0 r.2))
    step false q e f = here i n (v ∷ vs) (w ∷ ws) b e (inl (λ p. true≢false (sym (same_refl v) ∙ ap (same v) (ap head p) ∙ q)))

first-differs : (i k : ℕ) (vs ws : List (List ℕ)) (b : Bool) → FirstAt vs ws b k → compared i vs ws b ≡ Some (i + k)
unfolding compared
first-differs i zero [] [] b f = by f.differs
  where
    by : At [] [] b 0 → cond b None (Some i) ≡ Some (i + 0)
    by (inl d) = absurd (d refl)
    by (inr d) = ap (λ (c : Bool). cond c None (Some i)) d.2 ∙ ap Some (sym (add-zero i))
first-differs i zero [] (w ∷ ws) b f = ap Some (sym (add-zero i))
first-differs i zero (v ∷ vs) [] b f = ap Some (sym (add-zero i))
first-differs i zero (v ∷ vs) (w ∷ ws) b f = step (same v w) refl
  where
    not_same : same v w ≡ true → At (v ∷ vs) (w ∷ ws) b 0 → ⊥
    not_same q (inl d) = d (ap (λ (u : List ℕ). u ∷ []) (same_eq v w q))
    not_same q (inr d) = omega (arith, d.0)

    step : (c : Bool) → same v w ≡ c → cond c (compared (suc i) vs ws b) (Some i) ≡ Some (i + 0)
    step true q = absurd (not_same q f.differs)
    step false q = ap Some (sym (add-zero i))
first-differs i (suc k) [] ws b f = absurd (omega (arith, f.in_due))
first-differs i (suc k) (v ∷ vs) [] b f = absurd (omega (arith, f.in_log))
first-differs i (suc k) (v ∷ vs) (w ∷ ws) b f =
    let q : v ≡ w = ap head f.before in
    ap (λ (c : Bool). cond c (compared (suc i) vs ws b) (Some i)) (ap (same v) (sym q) ∙ same_refl v)
    ∙ first-differs (suc i) k vs ws b (first_tail v vs ws b k (subst (λ (u : List ℕ). FirstAt (v ∷ vs) (u ∷ ws) b (suc k)) (sym q) f))
    ∙ ap Some (omega arith)

-- ---- of a trace and a log

module _ (l : Ledger) (trace log : List ℕ) where
  abbrev told : List ℕ → Told
  told out = tell l (length out) (cut trace).records

  -- a verdict lacks room exactly where they do not all fit
  full_long : (out : List ℕ) → (told out).full ≡ true → length out < length (flatten (due l trace))
  full_long out e = by (decide (leb (length (flatten (due l trace))) (length out)))
    where
      by : (leb (length (flatten (due l trace))) (length out) ≡ true) ⊎ (leb (length (flatten (due l trace))) (length out) ≡ false) → length out < length (flatten (due l trace))
      by (inl h) = absurd (true≢false (sym e ∙ ap (λ (t : Told). t.full) (tell-all (cut trace).records l (length out) (leb-true _ _ h))))
      by (inr h) = leb-false _ _ h

  long_full : (out : List ℕ) → length out < length (flatten (due l trace)) → (told out).full ≡ true
  long_full out h = by (told out).full refl
    where
      by : (b : Bool) → (told out).full ≡ b → b ≡ true
      by true e = refl
      by false e = absurd (omega (arith, h, room_for_all (cut trace).records l (length out) e))

  -- the log that is due is the only one
  module _ (out : List ℕ) (e : (replay_of l trace out).answer.ending ≡ Whole) where
    whole : ((told out).full ≡ false) × ((cut trace).rest ≡ [])
    unfolding replay_of
    whole = ends_whole (told out).full (cut trace).rest e

    all-due : (told out).verdicts ≡ due l trace
    all-due = ap (λ (t : Told). t.verdicts) (tell-all (cut trace).records l (length out) (room_for_all (cut trace).records l (length out) whole.0))

    accepted : checked_of l trace log ≡ None → log ≡ own_log l trace out
    unfolding checked_of
    accepted a =
        let s = agree_same 0 (due l trace) (logged log) (both_whole trace log) a in
        sym (cut-joined log)
        ∙ ap (λ (x : List ℕ). flatten (cut log).records ++ x) (nothing (cut log).rest (and_right (none (cut trace).rest) (none (cut log).rest) s.1))
        ∙ append-nil (flatten (cut log).records)
        ∙ ap flatten (sym s.0 ∙ sym all-due)
        ∙ sym (counted l trace out).written

    accepts : log ≡ own_log l trace out → checked_of l trace log ≡ None
    unfolding checked_of none
    accepts q =
        ap (λ (c : Cut). compared 0 (due l trace) c.records (none (cut trace).rest && none c.rest)) (ap cut (q ∙ (counted l trace out).written) ∙ (counted l trace out).readable)
        ∙ ap₂ (λ (vs : List (List ℕ)) (r : List ℕ). compared 0 (due l trace) vs (none r && true)) all-due whole.1
        ∙ same_agree 0 (due l trace)

  torn : (out : List ℕ) → (replay_of l trace out).answer.ending ≡ Torn → checked_of l trace log ≡ None → ⊥
  unfolding replay_of checked_of
  torn out e a = true≢false (
      sym (and_left (none (cut trace).rest) (none (cut log).rest) (agree_same 0 (due l trace) (logged log) (both_whole trace log) a).1)
      ∙ ends_torn (told out).full (cut trace).rest e)

  full : (out : List ℕ) → ((replay_of l trace out).answer.ending ≡ Full) ↔ (length out < length (flatten (due l trace)))
  unfolding replay_of
  full out = (
    (λ e. full_long out (ends_full (told out).full (cut trace).rest e)),
    (λ h. ap (λ (b : Bool). ending_of b (cut trace).rest) (long_full out h)),
  )

  first : (n : ℕ) → (checked_of l trace log ≡ Some n) ↔ FirstAt (due l trace) (logged log) (both_whole trace log) n
  unfolding checked_of
  first n = (
    (λ e. let r = differs-first 0 n (due l trace) (logged log) (both_whole trace log) e in subst (FirstAt (due l trace) (logged log) (both_whole trace log)) (let z = r.1 in omega arith) r.2),
    (λ f. first-differs 0 n (due l trace) (logged log) (both_whole trace log) f ∙ ap Some (zero-add n)),
  )

  bytes : (n : ℕ) → (checked_of l trace log ≡ Some n) ↔ FirstInBytes (due l trace) (none (cut trace).rest) log n
  bytes n = (
    (λ e. let r = first_in_bytes_lem 0 n (due l trace) (none (cut trace).rest) log (sym (checked-found l trace log) ∙ e) in subst (FirstInBytes (due l trace) (none (cut trace).rest) log) (let z = r.1 in omega arith) r.2),
    (λ f. checked-found l trace log ∙ bytes-first 0 n (due l trace) (none (cut trace).rest) log f ∙ ap Some (zero-add n)),
  )

  pub log_checked : LogChecked l trace log
  log_checked = record {
    whole = λ out e. (accepted out e, accepts out e);
    torn = torn;
    enough = full;
    most = due-short l (cut trace).records;
    first = first;
    first_in_bytes = bytes;
  }
