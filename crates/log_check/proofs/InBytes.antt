-- A log is checked without being cut into records: what is left of it starts with the verdict that is due, or differs there.
-- Assumes nothing.
use mathlib.Core.Path.{◌≡◌, refl, sym, ap, ◌∙◌}
use mathlib.Core.Logic.{◌⊎◌, inl, inr}
use mathlib.Core.Bool.{Bool, true, false, cond, ◌&&◌, true≢false}
use mathlib.Core.List.Memᴰ
use mathlib.Core.List.{List, [], ◌∷◌, ◌++◌, flatten, append-nil}
use Prim.Native.Nat.{ℕ, zero, suc, ◌+◌, ◌<◌}
use native.Mathlib.Nat.{add-zero}
use native.Mathlib.Omega.{arith}
use lib.ListN.{length, take, drop, take-append-drop}
use lib.Seq.{take-append_seam, drop-append_seam}
use borrow.Author.Tests.{ne_eqb}
use Rattle.std.specs.Prelude.{Option, None, Some}
use Rattle.fields.specs.declared.Next.{Next}
use Rattle.fields.specs.declared.Next.TheVariants.{End, Torn, Record}
use Rattle.fields.specs.Fields.{next_of}
use Rattle.rules.specs.Lists.{none}
use Rattle.objects.specs.Objects.{same}
use Rattle.rules.proofs.Lists.{and_both, and_left, and_right}
use Rattle.objects.proofs.Places.{same_eq, same_refl}
use Rattle.rules.proofs.Typed.{length_none}
use Rattle.replay.specs.Replay.{Cut, cut_at, cut}
use Rattle.replay.proofs.Counts.{Fields}
use Rattle.replay.proofs.Cutting.{Found, next-found, cut-next}
use Rattle.log_check.specs.Check.{compared, is_prefix}
use Rattle.log_check.specs.Exact.{FirstInBytes}
use Rattle.log_check.proofs.Prefix.{prefix_append, prefix_behind, prefix_split}

-- these verdicts are due from index i on; ends: the trace does not end in a torn record
unfoldable pub in_bytes : ℕ → List (List ℕ) → Bool → List ℕ → Option ℕ
in_bytes i [] ends log = cond (ends && none log) None (Some i)
in_bytes i (v ∷ vs) ends log = cond (is_prefix v log) (in_bytes (suc i) vs ends (drop (length v) log)) (Some i)

-- ---- it is what is found of the log's records

abbrev against : ℕ → List (List ℕ) → Bool → Cut → Option ℕ
against i vs ends c = compared i vs c.records (ends && none c.rest)

-- no verdict is due any more: a trace that ends whole agrees with an empty log, and a torn one with none
none-due : (i : ℕ) (log : List ℕ) → against i [] true (cut log) ≡ cond (none log) None (Some i)
unfolding compared
none-due i log = ap (against i [] true) (cut-next log) ∙ by (next_of log) (next-found log)
  where
    by : (x : Next) → Found log x → against i [] true (cut_at x log cut) ≡ cond (none log) None (Some i)
    by End f = refl
    by Torn f = refl
    by (Record n) f = rw (← length_none log, ne_eqb (length log) 0 (omega (arith, f.0, f.1)))

torn-due : (i : ℕ) (ws : List (List ℕ)) → compared i [] ws false ≡ Some i
unfolding compared
torn-due i [] = refl
torn-due i (w ∷ ws) = refl

-- a verdict is due: the log starts with it, or differs
module _ (i : ℕ) (v : List ℕ) (field : (rest : List ℕ) → next_of (v ++ rest) ≡ Record (length v)) (vs : List (List ℕ)) (ends : Bool) (log : List ℕ) where
  due_there : is_prefix v log ≡ true → against i (v ∷ vs) ends (cut log) ≡ against (suc i) vs ends (cut (drop (length v) log))
  unfolding compared
  due_there e =
      ap (λ (bs : List ℕ). against i (v ∷ vs) ends (cut bs)) (sym split)
      ∙ ap (against i (v ∷ vs) ends) (cut-next (v ++ rest) ∙ ap (λ (x : Next). cut_at x (v ++ rest) cut) (field rest))
      ∙ ap (λ (w : List ℕ). compared i (v ∷ vs) (w ∷ (cut (drop (length v) (v ++ rest))).records) (ends && none (cut (drop (length v) (v ++ rest))).rest)) (take-append_seam v rest)
      ∙ ap (λ (b : Bool). cond b (against (suc i) vs ends (cut (drop (length v) (v ++ rest)))) (Some i)) (same_refl v)
      ∙ ap (λ (bs : List ℕ). against (suc i) vs ends (cut bs)) (drop-append_seam v rest)
    where
      rest : List ℕ
      rest = drop (length v) log

      split : v ++ rest ≡ log
      split = prefix_split v log e

  due_missing : is_prefix v log ≡ false → against i (v ∷ vs) ends (cut log) ≡ Some i
  unfolding compared
  due_missing e = ap (against i (v ∷ vs) ends) (cut-next log) ∙ by (next_of log)
    where
      other : (n : ℕ) (b : Bool) → same v (take n log) ≡ b → cond b (against (suc i) vs ends (cut (drop n log))) (Some i) ≡ Some i
      other n true q = absurd (true≢false (sym (prefix_append v (drop n log)) ∙ ap (is_prefix v) (ap (λ (w : List ℕ). w ++ drop n log) (same_eq v (take n log) q) ∙ take-append-drop n log) ∙ e))
      other n false q = refl

      by : (x : Next) → against i (v ∷ vs) ends (cut_at x log cut) ≡ Some i
      by End = refl
      by Torn = refl
      by (Record n) = other n (same v (take n log)) refl

pub in_bytes_lem : (i : ℕ) (vs : List (List ℕ)) → Fields vs → (ends : Bool) (log : List ℕ) → compared i vs (cut log).records (ends && none (cut log).rest) ≡ in_bytes i vs ends log
unfolding in_bytes
in_bytes_lem i [] f true log = none-due i log
in_bytes_lem i [] f false log = torn-due i (cut log).records
in_bytes_lem i (v ∷ vs) f ends log = by (is_prefix v log) refl (in_bytes_lem (suc i) vs (λ w m. f w (Memᴰ.tail m)) ends (drop (length v) log))
  where
    field : (rest : List ℕ) → next_of (v ++ rest) ≡ Record (length v)
    field = f v (Memᴰ.head refl)

    by : (b : Bool) → is_prefix v log ≡ b → against (suc i) vs ends (cut (drop (length v) log)) ≡ in_bytes (suc i) vs ends (drop (length v) log)
        → against i (v ∷ vs) ends (cut log) ≡ cond b (in_bytes (suc i) vs ends (drop (length v) log)) (Some i)
    by true e more = due_there i v field vs ends log e ∙ more
    by false e more = due_missing i v field vs ends log e

-- ---- the index

-- what stands at n
abbrev At : List (List ℕ) → Bool → List ℕ → ℕ → Type 0
At vs ends log n = ((n < length vs) × (is_prefix (flatten (take (suc n) vs)) log ≡ false)) ⊎ ((length vs ≡ n) × ((flatten vs ≡ log → ⊥) ⊎ (ends ≡ false)))

-- the first disagreement, k behind index i
abbrev Bytes : ℕ → ℕ → List (List ℕ) → Bool → List ℕ → Type 0
Bytes i n vs ends log = (k : ℕ) × (n ≡ i + k) × FirstInBytes vs ends log k

-- bytes are left, or the trace is torn
left_over : (ends : Bool) (log : List ℕ) → (ends && none log) ≡ false → ([] ≡ log → ⊥) ⊎ (ends ≡ false)
unfolding none
left_over false log e = inr refl
left_over true [] e = absurd (true≢false e)
left_over true (b ∷ bs) e = inl (λ q. let z = ap length q in omega arith)

not-whole : (ends : Bool) (log : List ℕ) → ([] ≡ log → ⊥) ⊎ (ends ≡ false) → (ends && none log) ≡ false
unfolding none
not-whole true [] (inl f) = absurd (f refl)
not-whole true [] (inr e) = e
not-whole true (b ∷ bs) o = refl
not-whole false log o = refl

-- behind a verdict that is there
first_cons : (v : List ℕ) (vs : List (List ℕ)) (ends : Bool) (log : List ℕ) (k : ℕ) → is_prefix v log ≡ true → FirstInBytes vs ends (drop (length v) log) k → FirstInBytes (v ∷ vs) ends log (suc k)
unfolding flatten
first_cons v vs ends log k e f = record {
  before = prefix_behind v (flatten (take k vs)) log ∙ and_both _ _ e f.before;
  differs = on f.differs;
}
  where
    on : At vs ends (drop (length v) log) k → At (v ∷ vs) ends log (suc k)
    on (inl d) = inl (omega (arith, d.0), prefix_behind v (flatten (take (suc k) vs)) log ∙ ap (λ (b : Bool). b && is_prefix (flatten (take (suc k) vs)) (drop (length v) log)) e ∙ d.1)
    on (inr (q, inl d)) = inr (ap suc q, inl (λ z. d (sym (drop-append_seam v (flatten vs)) ∙ ap (drop (length v)) z)))
    on (inr (q, inr d)) = inr (ap suc q, inr d)

pub first_in_bytes_lem : (i n : ℕ) (vs : List (List ℕ)) (ends : Bool) (log : List ℕ) → in_bytes i vs ends log ≡ Some n → Bytes i n vs ends log
unfolding in_bytes is_prefix flatten
first_in_bytes_lem i n [] ends log e = by (ends && none log) refl e
  where
    by : (b : Bool) → (ends && none log) ≡ b → cond b None (Some i) ≡ Some n → Bytes i n [] ends log
    by true q e = cc
    by false q e = (0, (let z : i ≡ n = cc in omega arith), record { before = refl; differs = inr (refl, left_over ends log q) })
first_in_bytes_lem i n (v ∷ vs) ends log e = by (is_prefix v log) refl e (first_in_bytes_lem (suc i) n vs ends (drop (length v) log))
  where
    by : (b : Bool) → is_prefix v log ≡ b → cond b (in_bytes (suc i) vs ends (drop (length v) log)) (Some i) ≡ Some n
        → (in_bytes (suc i) vs ends (drop (length v) log) ≡ Some n → Bytes (suc i) n vs ends (drop (length v) log)) → Bytes i n (v ∷ vs) ends log
    by true q e f = let r = f e in (suc r.0, (let z = r.1 in omega arith), first_cons v vs ends log r.0 q r.2)
    by false q e f = (0, (let z : i ≡ n = cc in omega arith), record { before = refl; differs = inl (omega arith, prefix_behind v [] log ∙ ap (λ (b : Bool). b && true) q) })

first_tail : (v : List ℕ) (vs : List (List ℕ)) (ends : Bool) (log : List ℕ) (k : ℕ) → is_prefix v log ≡ true → FirstInBytes (v ∷ vs) ends log (suc k) → FirstInBytes vs ends (drop (length v) log) k
unfolding flatten
first_tail v vs ends log k e f = record {
  before = and_right (is_prefix v log) _ (sym (prefix_behind v (flatten (take k vs)) log) ∙ f.before);
  differs = on f.differs;
}
  where
    on : At (v ∷ vs) ends log (suc k) → At vs ends (drop (length v) log) k
    on (inl d) = inl (
      omega (arith, d.0),
      ap (λ (b : Bool). b && is_prefix (flatten (take (suc k) vs)) (drop (length v) log)) (sym e) ∙ sym (prefix_behind v (flatten (take (suc k) vs)) log) ∙ d.1,
    )
    on (inr (q, inl d)) = inr (omega (arith, q), inl (λ z. d (ap (λ (x : List ℕ). v ++ x) z ∙ prefix_split v log e)))
    on (inr (q, inr d)) = inr (omega (arith, q), inr d)

pub bytes-first : (i k : ℕ) (vs : List (List ℕ)) (ends : Bool) (log : List ℕ) → FirstInBytes vs ends log k → in_bytes i vs ends log ≡ Some (i + k)
unfolding in_bytes flatten
bytes-first i zero [] ends log f = by f.differs
  where
    by : At [] ends log 0 → cond (ends && none log) None (Some i) ≡ Some (i + 0)
    by (inl d) = absurd (omega (arith, d.0))
    by (inr d) = ap (λ (b : Bool). cond b None (Some i)) (not-whole ends log d.1) ∙ ap Some (sym (add-zero i))
bytes-first i (suc k) [] ends log f = by f.differs
  where
    by : At [] ends log (suc k) → cond (ends && none log) None (Some i) ≡ Some (i + suc k)
    by (inl d) = absurd (omega (arith, d.0))
    by (inr d) = absurd (omega (arith, d.0))
bytes-first i zero (v ∷ vs) ends log f = ap (λ (b : Bool). cond b (in_bytes (suc i) vs ends (drop (length v) log)) (Some i)) (not_there f.differs) ∙ ap Some (sym (add-zero i))
  where
    not_there : At (v ∷ vs) ends log 0 → is_prefix v log ≡ false
    not_there (inl d) = sym (ap (λ (x : List ℕ). is_prefix x log) (append-nil v)) ∙ d.1
    not_there (inr d) = absurd (omega (arith, d.0))
bytes-first i (suc k) (v ∷ vs) ends log f =
    let there : is_prefix v log ≡ true = and_left (is_prefix v log) _ (sym (prefix_behind v (flatten (take k vs)) log) ∙ f.before) in
    ap (λ (b : Bool). cond b (in_bytes (suc i) vs ends (drop (length v) log)) (Some i)) there
    ∙ bytes-first (suc i) k vs ends (drop (length v) log) (first_tail v vs ends log k there f)
    ∙ ap Some (omega arith)
