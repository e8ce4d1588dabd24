-- A LOOK is answered what the history says: its holds, lists and currencies are the ledger's, and what is listed is stored.
-- Assumes nothing.
use mathlib.Core.Path.{◌≡◌, refl, sym, ap, subst, ◌∙◌}
use mathlib.Core.Logic.{inr}
use mathlib.Core.Bool.{Bool, true, false, not, cond, ◌&&◌, true≢false}
use mathlib.Core.List.Memᴰ
use mathlib.Core.List.{List, [], ◌∷◌}
use Prim.Native.Nat.{ℕ, max, ◌≤◌}
use native.Mathlib.Omega.{arith}
use lib.Dec.{leb, ltb, eqb}
use borrow.Author.Tests.{ltb-false, leb-true, leb-false, eqb-true}
use Rattle.rules.specs.declared.Answer.{Answer}
use Rattle.rules.specs.declared.Answer.TheVariants.{Refused, Found}
use Rattle.rules.specs.declared.Hold.{Hold}
use Rattle.rules.specs.declared.Kind.TheVariants.{Look as LOOK}
use Rattle.rules.specs.Agreement.{Agrees}
use Rattle.rules.specs.Demand3.{ledger_of}
use Rattle.rules.specs.History.{History, at_first, at_time, currency_at, live_at}
use Rattle.rules.specs.Limits.{Limits, limits}
use Rattle.rules.specs.Lists.{◌∈◌, has, keep, none, maximum}
use Rattle.rules.specs.Rates.{LooksFrom, Looks, held_at, list_read_at, look_at, rates_at}
use Rattle.rules.specs.Request.{Ask}
use Rattle.rules.specs.Sound.{sound}
use Rattle.rules.specs.State.{State, fresh}
use Rattle.rules.specs.Step.{alone, answers, reply, settle, verdict}
use Rattle.rules.specs.Table.{◌if◌, first_of, nonzero, rows, row2, row15, row16}
use Rattle.rules.specs.Words.{is_live, listed, live, live_holds, manifest_of, of_currency, read_by, stored}
use Rattle.rules.proofs.Agreement.{currency-same, held-names, hold_from_lem, hold-to}
use Rattle.rules.proofs.Demand3.{agrees-fresh, exact, run-keeps}
use Rattle.rules.proofs.Lists.{any_in, bool_ext, in_any, keep_in, keep_same, lookup_in, or_left, or_right, true-false}
use Rattle.rules.proofs.Numbers.{in_has}
use Rattle.rules.proofs.Settle.{settle-keeps}
use Rattle.rules.proofs.Soundness.{ledger_from-sound, sound-fresh}

-- ---- the highest of some numbers is one of them

pub maximum_in : (l : List ℕ) → none l ≡ false → maximum l ∈ l
unfolding none maximum
maximum_in [] e = absurd (true≢false e)
maximum_in (n ∷ []) e = let same : max n 0 ≡ n = omega arith in Memᴰ.head same
maximum_in (n ∷ m ∷ ms) e = step (maximum_in (m ∷ ms) refl) (leb (maximum (m ∷ ms)) n) refl
  where
    step : maximum (m ∷ ms) ∈ m ∷ ms → (b : Bool) → leb (maximum (m ∷ ms)) n ≡ b → max n (maximum (m ∷ ms)) ∈ n ∷ m ∷ ms
    step i true q =
        let h = leb-true (maximum (m ∷ ms)) n q in
        let same : max n (maximum (m ∷ ms)) ≡ n = omega arith in
        Memᴰ.head same
    step i false q = let h = leb-false (maximum (m ∷ ms)) n q in Memᴰ.tail (subst (λ (k : ℕ). k ∈ m ∷ ms) (omega arith) i)

-- ---- the words of a LOOK, in the ledger and by the history

module _ {L : Limits} (s : State) (h : History) (r : Agrees L s h) (t : ℕ) (later : s.clock ≤ t) where
  live_same : (x : ℕ) → is_live t s x ≡ held_at t h x
  unfolding is_live held_at
  live_same x = bool_ext _ _
      (λ e. let k = any_in (λ (y : Hold). eqb x y.number) (live_holds t s) e in in_any (λ (y : Hold). eqb x y.number) (hold-to s h r t later k.0 k.1) k.2)
      (λ e. let k = any_in (λ (y : Hold). eqb x y.number) (keep (live_at t) h.holds) e in in_any (λ (y : Hold). eqb x y.number) (hold_from_lem s h r t later k.0 k.1) k.2)

  -- what a live hold or the current manifest names is stored
  kept : (n : ℕ) → listed t s n ≡ true → stored s n ≡ true
  kept n e = ((exact L (λ q. true) s h r).keeps t later n (inr e)).1

  -- a LOOK of hold 0 or of a live hold reads one list, and all that it names is stored
  record Read (x : ℕ) : Type 0 where
    same : (read_by t s x).names ≡ list_read_at t h x
    all_stored_lem : (n : ℕ) → n ∈ (read_by t s x).names → stored s n ≡ true

  current-read : (x : ℕ) → eqb x 0 ≡ true → Read x
  unfolding read_by list_read_at listed
  current-read x e = record { same = rw e r.names; all_stored_lem = λ n i. kept n (or_left (has n s.current.names) _ (in_has (rw e at i))) }

  held-read : (x : ℕ) → eqb x 0 ≡ false → is_live t s x ≡ true → Read x
  unfolding read_by list_read_at listed is_live
  held-read x e held =
      let k = any_in (λ (y : Hold). eqb x y.number) (live_holds t s) held in
      let same : k.0.number ≡ x = sym (eqb-true x k.0.number k.2) in
      let f = lookup_in (λ (y : Hold). y.number) (λ y. y.manifest) 0 x (live_holds t s) k.1 same in
      let g = lookup_in (λ (y : Hold). y.number) (λ y. y.manifest) 0 x (keep (live_at t) h.holds) (hold-to s h r t later k.0 k.1) same in
      let noted = keep_in (live_at t) h.holds (hold-to s h r t later f.0 f.1) in
      let one = r.holding.unique f.0 g.0 noted.0 (keep_in (live_at t) h.holds g.1).0 (f.2 ∙ sym g.2) in
      record {
        same = rw (e, f.3, g.3, sym one) (held-names s h r f.0 (keep_in (live t) s.holds f.1).0);
        all_stored_lem = λ n i. kept n (or_right (has n s.current.names) _ (in_any (λ (y : Hold). has n (manifest_of s y.manifest).names) f.1 (in_has (rw (e, f.3) at i))));
      }

  read : (x : ℕ) → (nonzero x && not (is_live t s x)) ≡ false → Read x
  read x e = step (eqb x 0) refl (is_live t s x) refl e
    where
      step : (a : Bool) → eqb x 0 ≡ a → (b : Bool) → is_live t s x ≡ b → (not a && not b) ≡ false → Read x
      step true p b q e = current-read x p
      step false p true q e = held-read x p q
      step false p false q e = absurd (true-false true refl e)

  pub rates-same : (c x : ℕ) → (nonzero x && not (is_live t s x)) ≡ false → of_currency s c (read_by t s x).names ≡ rates_at t h c x
  unfolding of_currency rates_at
  rates-same c x e =
      let k = read x e in
      keep_same _ _ (read_by t s x).names (λ n i. ap (λ m. eqb m c) (currency-same s h r n (k.all_stored_lem n i)))
      ∙ ap (keep (λ n. eqb (currency_at h n) c)) k.same

-- ---- the rows of a LOOK

-- the first of the rows, as the history writes it
pub chain : (a b d e : Bool) (n : ℕ) → let v = first_of ((1 if false) ∷ (2 if a) ∷ (3 if b) ∷ (15 if d) ∷ (16 if e) ∷ []) in
    cond (eqb v 0) (alone (Found n)) (alone (Refused v)) ≡ alone (cond a (Refused 2) (cond b (Refused 3) (cond d (Refused 15) (cond e (Refused 16) (Found n)))))
unfolding first_of
chain true b d e n = refl
chain false true d e n = refl
chain false false true e n = refl
chain false false false true n = refl
chain false false false false n = refl

-- the time that an accepted step sets is none of its rates
rates-time : (t : ℕ) (h : History) (c x : ℕ) → rates_at t (at_time t h) c x ≡ rates_at t h c x
unfolding rates_at list_read_at currency_at
rates-time t h c x = refl

held-time : (t : ℕ) (h : History) (x : ℕ) → held_at t (at_time t h) x ≡ held_at t h x
unfolding held_at
held-time t h x = refl

module _ {L : Limits} (s : State) (h : History) (r : Agrees L s h) (t c x : ℕ) where
  -- the highest of the rates that the accepted LOOK sees
  settled_rates : s.clock ≤ t → (nonzero x && not (held_at t h x)) ≡ false → of_currency (settle t s) c (read_by t (settle t s) x).names ≡ rates_at t h c x
  settled_rates later e =
      let q = settle-keeps t s h later r in
      let live = live_same (settle t s) (at_time t h) q t (omega arith) x ∙ held-time t h x in
      rates-same (settle t s) (at_time t h) q t (omega arith) c x (ap (λ b. nonzero x && not b) live ∙ e) ∙ rates-time t h c x

  -- rows 15 and 16 and the answer, once the LOOK is on time
  on_time_lem : s.clock ≤ t → cond (row15 s t x) (Refused 15) (cond (row16 s t c x) (Refused 16) (Found (maximum (of_currency (settle t s) c (read_by t (settle t s) x).names))))
      ≡ cond (nonzero x && not (held_at t h x)) (Refused 15) (cond (none (rates_at t h c x)) (Refused 16) (Found (maximum (rates_at t h c x))))
  on_time_lem later = rw (live_same s h r t later x) (step (nonzero x && not (held_at t h x)) refl)
    where
      step : (b : Bool) → (nonzero x && not (held_at t h x)) ≡ b → cond b (Refused 15) (cond (row16 s t c x) (Refused 16) (Found (maximum (of_currency (settle t s) c (read_by t (settle t s) x).names))))
          ≡ cond b (Refused 15) (cond (none (rates_at t h c x)) (Refused 16) (Found (maximum (rates_at t h c x))))
      step true e = refl
      step false e = rw (rates-same s h r t later c x (ap (λ b. nonzero x && not b) (live_same s h r t later x) ∙ e), settled_rates later e)

module _ (L : Limits) (test : State → Bool) where
  pub looks-from : LooksFrom L test
  unfolding reply verdict rows answers look_at
  looks-from s h r passes t c x =
      rw passes
      (chain (row2 L t (LOOK c x) []) (ltb t s.clock) (row15 s t x) (row16 s t c x) (maximum (of_currency (settle t s) c (read_by t (settle t s) x).names))
      ∙ ap (λ (a : Answer). alone (cond (row2 L t (LOOK c x) []) (Refused 2) a)) (step (ltb t s.clock) refl ∙ ap (λ (n : ℕ). cond (ltb t n) (Refused 3) said) r.clock))
    where
      -- on time, by the history
      said : Answer
      said = cond (nonzero x && not (held_at t h x)) (Refused 15) (cond (none (rates_at t h c x)) (Refused 16) (Found (maximum (rates_at t h c x))))

      step : (b : Bool) → ltb t s.clock ≡ b → cond b (Refused 3) (cond (row15 s t x) (Refused 15) (cond (row16 s t c x) (Refused 16) (Found (maximum (of_currency (settle t s) c (read_by t (settle t s) x).names))))) ≡ cond b (Refused 3) said
      step true e = refl
      step false e = on_time_lem s h r t c x (ltb-false t s.clock e)

pub looks : (asks : List Ask) → Looks asks
looks asks = looks-from limits (sound limits) (ledger_of asks) _ (run-keeps limits (sound limits) fresh at_first asks (agrees-fresh limits)) (ledger_from-sound limits (sound limits) fresh asks (sound-fresh limits))
