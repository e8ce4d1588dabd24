-- Looks just before and just after an accepted COMPACT: what goes out and what comes in has one currency, the marks tell no currency, and a live hold's
-- manifest is still found.
-- Assumes nothing.
use mathlib.Core.Path.{◌≡◌, refl, sym, ap, ap₂, subst, ◌∙◌}
use mathlib.Core.Logic.{◌⊎◌, inl, inr}
use mathlib.Core.Bool.{Bool, true, false, not, cond, ◌&&◌}
use mathlib.Core.List.Memᴰ
use mathlib.Core.List.{List, [], ◌∷◌, ◌++◌, map}
use Prim.Native.Nat.{ℕ, ◌≤◌}
use native.Mathlib.Omega.{arith}
use lib.Dec.{eqb, ltb}
use borrow.Author.Tests.{eqb-true, eqb-false, eq-eqb, ne_eqb, le-ltb, not-true}
use Rattle.rules.specs.declared.Answer.{Answer}
use Rattle.rules.specs.declared.Answer.TheVariants.{Refused, Found}
use Rattle.rules.specs.declared.Hold.{Hold}
use Rattle.rules.specs.declared.Kind.TheVariants.{Compact as COMPACT, Look as LOOK}
use Rattle.rules.specs.declared.Object.{Object}
use Rattle.rules.specs.Agreement.{Agrees}
use Rattle.rules.specs.Compaction.{Compactions, CompactionsFrom, CompactionsOf, accepted, compacting, in_current, in_force, looked}
use Rattle.rules.specs.Demand3.{events_from, history_of, ledger_from, ledger_of}
use Rattle.rules.specs.History.{History, at_first, currency_at, feed, history_from, noted}
use Rattle.rules.specs.Limits.{Limits, limits}
use Rattle.rules.specs.Lists.{◌∈◌, any, insert, keep, lookup, maximum, none}
use Rattle.rules.specs.Rates.{look_at, rates_at}
use Rattle.rules.specs.Request.{Ask}
use Rattle.rules.specs.Sound.{sound}
use Rattle.rules.specs.State.{Manifest, State, first_manifest, fresh, kept, occupied}
use Rattle.rules.specs.Step.{Reply, accepts, act, alone, answers, commit, held_by, mark, next, reply, settle, tidy, verdict}
use Rattle.rules.specs.Table.{nonzero, row2, row15, row16, row17, rows}
use Rattle.rules.specs.Words.{compacted, currency_of, is_live, live, live_holds, manifest_of, of_currency, read_by, stored}
use Rattle.rules.proofs.Accepted.{passed, row3-clear, row8-clear, there}
use Rattle.rules.proofs.Agreement.{currency-same}
use Rattle.rules.proofs.Demand3.{agrees_from, step_keeps}
use Rattle.rules.proofs.Laws.{lookup-keep}
use Rattle.rules.proofs.Lists.{any_in, decide, in_any, keep_in, keep_same, lookup_in, true-false}
use Rattle.rules.proofs.Rates.{chain, looks-from, rates-same}
use Rattle.rules.proofs.Shape.{shape_of}
use Rattle.rules.proofs.Soundness.{next-sound}
use Rattle.rules.proofs.Table.{cleared}

-- ---- lists

module _ {A : Type 0} where
  -- what one test lets through is not changed by another that lets all of it through
  pub keep-within : (p q : A → Bool) (l : List A) → ((x : A) → p x ≡ true → q x ≡ true) → keep p (keep q l) ≡ keep p l
  unfolding keep
  keep-within p q [] f = refl
  keep-within p q (x ∷ xs) f = step (q x) refl (p x) refl (keep-within p q xs f)
    where
      step : (b : Bool) → q x ≡ b → (c : Bool) → p x ≡ c → keep p (keep q xs) ≡ keep p xs → keep p (cond b (x ∷ keep q xs) (keep q xs)) ≡ cond (p x) (x ∷ keep p xs) (keep p xs)
      step true e c d r = ap (λ l. cond (p x) (x ∷ l) l) r
      step false e true d r = true-false (q x) (f x d) e
      step false e false d r = r ∙ ap (λ c. cond c (x ∷ keep p xs) (keep p xs)) (sym d)

  keep-none : (p : A → Bool) (l : List A) → ((x : A) → x ∈ l → p x ≡ false) → keep p l ≡ []
  unfolding keep
  keep-none p [] f = refl
  keep-none p (x ∷ xs) f = rw (f x (Memᴰ.head refl)) (keep-none p xs (λ y i. f y (Memᴰ.tail i)))

-- a number that does not pass comes in unseen
keep-insert : (p : ℕ → Bool) (n : ℕ) (l : List ℕ) → p n ≡ false → keep p (insert n l) ≡ keep p l
unfolding keep insert
keep-insert p n [] e = rw e
keep-insert p n (m ∷ ms) e = step (ltb n m) (eqb n m) (keep-insert p n ms e)
  where
    step : (b c : Bool) → keep p (insert n ms) ≡ keep p ms → keep p (cond b (n ∷ m ∷ ms) (cond c (m ∷ ms) (m ∷ insert n ms))) ≡ cond (p m) (m ∷ keep p ms) (keep p ms)
    step true c r = rw e
    step false true r = refl
    step false false r = ap (λ l. cond (p m) (m ∷ l) l) r

-- a number that alone passes comes in alone
keep-alone : (p : ℕ → Bool) (n : ℕ) (l : List ℕ) → p n ≡ true → ((m : ℕ) → m ∈ l → p m ≡ false) → keep p (insert n l) ≡ n ∷ []
unfolding keep insert
keep-alone p n [] e f = rw e
keep-alone p n (m ∷ ms) e f = step (ltb n m) (eqb n m) refl (keep-alone p n ms e (λ k i. f k (Memᴰ.tail i))) (keep-none p ms (λ k i. f k (Memᴰ.tail i)))
  where
    out : p m ≡ false
    out = f m (Memᴰ.head refl)

    step : (b c : Bool) → eqb n m ≡ c → keep p (insert n ms) ≡ n ∷ [] → keep p ms ≡ [] → keep p (cond b (n ∷ m ∷ ms) (cond c (m ∷ ms) (m ∷ insert n ms))) ≡ n ∷ []
    step true c d r z = rw (e, out, z)
    step false true d r z = true-false (p m) (ap p (sym (eqb-true n m d)) ∙ e) out
    step false false d r z = rw (out, r)

-- what is found in the front is found there
lookup_front : {A B : Type 0} (key : A → ℕ) (value : A → B) (default : B) (n : ℕ) {x : A} (l rest : List A) → x ∈ l → key x ≡ n → lookup key value default n (l ++ rest) ≡ lookup key value default n l
unfolding lookup
lookup_front key value default n [] rest i e = absurd (Memᴰ.not-nil i)
lookup_front {A} key value default n {x} (y ∷ ys) rest i e = step (eqb n (key y)) refl (Memᴰ.cases_cons i) (λ j. lookup_front key value default n ys rest j e)
  where
    step : (b : Bool) → eqb n (key y) ≡ b → (x ≡ y) ⊎ (x ∈ ys) → (x ∈ ys → lookup key value default n (ys ++ rest) ≡ lookup key value default n ys)
        → cond b (value y) (lookup key value default n (ys ++ rest)) ≡ cond b (value y) (lookup key value default n ys)
    step true q w f = refl
    step false q (inl w) f = absurd (eqb-false n (key y) q (sym e ∙ ap key w))
    step false q (inr j) f = f j

-- marks tell no currency
currency-marked : (l : List ℕ) (n : ℕ) (ps : List Object)
    → lookup (λ (o : Object). o.number) (λ o. o.currency) 0 n (keep occupied (map (mark l) ps)) ≡ lookup (λ (o : Object). o.number) (λ o. o.currency) 0 n (keep occupied ps)
unfolding keep lookup
currency-marked l n [] = refl
currency-marked l n (o ∷ os) = step (occupied o) (currency-marked l n os)
  where
    find : List Object → ℕ
    find ps = lookup (λ (o : Object). o.number) (λ o. o.currency) 0 n ps

    step : (b : Bool) → find (keep occupied (map (mark l) os)) ≡ find (keep occupied os)
        → find (cond b (mark l o ∷ keep occupied (map (mark l) os)) (keep occupied (map (mark l) os))) ≡ find (cond b (o ∷ keep occupied os) (keep occupied os))
    step true e = ap (λ (k : ℕ). cond (eqb n o.number) o.currency k) e
    step false e = e

-- ---- a LOOK that is on time

-- the objects among which it finds the highest
abbrev rates : State → ℕ → ℕ → ℕ → List ℕ
rates s t c x = of_currency s c (read_by t s x).names

settled_rates : (s : State) (t c x : ℕ) → rates (settle t s) t c x ≡ rates s t c x
unfolding of_currency currency_of read_by manifest_of
settled_rates s t c x =
    ap (λ (xs : List Hold). keep (λ n. eqb (currency_of s n) c) (cond (eqb x 0) s.current (manifest_of s (lookup (λ (y : Hold). y.number) (λ y. y.manifest) 0 x xs))).names)
    (keep-within (live t) (live t) s.holds (λ y e. e))

-- what is told once row 2 does not apply
abbrev told : State → ℕ → ℕ → ℕ → Answer
told s t c x = cond (row15 s t x) (Refused 15) (cond (row16 s t c x) (Refused 16) (Found (maximum (rates s t c x))))

look-told : (L : Limits) (s : State) (t c x : ℕ) → sound L s ≡ true → s.clock ≤ t → looked L s t c x ≡ alone (cond (row2 L t (LOOK c x) []) (Refused 2) (told s t c x))
unfolding reply verdict rows answers
look-told L s t c x e later =
    rw e
    (chain (row2 L t (LOOK c x) []) (ltb t s.clock) (row15 s t x) (row16 s t c x) (maximum (rates (settle t s) t c x))
    ∙ ap₂ (λ (b : Bool) (n : ℕ). alone (cond (row2 L t (LOOK c x) []) (Refused 2) (cond b (Refused 3) (cond (row15 s t x) (Refused 15) (cond (row16 s t c x) (Refused 16) (Found n))))))
    (le-ltb t s.clock later) (ap maximum (settled_rates s t c x)))

-- two ledgers that have the same holds, and the same rates where a hold is found, are told the same
told_same : (s q : State) (t c x : ℕ) → is_live t q x ≡ is_live t s x → (row15 s t x ≡ false → rates q t c x ≡ rates s t c x) → told q t c x ≡ told s t c x
told_same s q t c x e f =
    ap (λ (b : Bool). cond (nonzero x && not b) (Refused 15) (cond (row16 q t c x) (Refused 16) (Found (maximum (rates q t c x))))) e ∙ step (row15 s t x) refl
  where
    step : (b : Bool) → row15 s t x ≡ b → cond b (Refused 15) (cond (row16 q t c x) (Refused 16) (Found (maximum (rates q t c x))))
        ≡ cond b (Refused 15) (cond (row16 s t c x) (Refused 16) (Found (maximum (rates s t c x))))
    step true d = refl
    step false d = ap (λ (l : List ℕ). cond (none l) (Refused 16) (Found (maximum l))) (f d)

-- ---- the ledger after the compaction

module _ (t n : ℕ) (s : State) where
  -- the ledger that an accepted COMPACT of n at t leaves
  abbrev pub compact_at : State
  compact_at = tidy (commit (compacted (settle t s) n) (settle t s))

  same-currency : (m : ℕ) → currency_of compact_at m ≡ currency_of s m
  unfolding currency_of
  same-currency m = currency-marked (compacted (settle t s) n) m s.places

  of_same : (c : ℕ) (l : List ℕ) → of_currency compact_at c l ≡ of_currency s c l
  unfolding of_currency
  of_same c l = keep_same _ _ l (λ m i. ap (λ k. eqb k c) (same-currency m))

  -- of another currency the current manifest has the same objects
  current-others : (c : ℕ) → (c ≡ currency_of s n → ⊥) → of_currency compact_at c compact_at.current.names ≡ of_currency s c s.current.names
  unfolding of_currency compacted currency_of
  current-others c ne =
      of_same c compact_at.current.names
      ∙ keep-insert (λ m. eqb (currency_of s m) c) n _ (ne_eqb (currency_of s n) c (λ e. ne (sym e)))
      ∙ keep-within (λ m. eqb (currency_of s m) c) (λ m. not (eqb (currency_of s m) (currency_of s n))) s.current.names
      (λ m e. ap not (ne_eqb (currency_of s m) (currency_of s n) (λ d. ne (sym (eqb-true (currency_of s m) c e) ∙ d))))

  -- of the compacted one it has the object alone
  current-brought : of_currency compact_at (currency_of s n) compact_at.current.names ≡ n ∷ []
  unfolding of_currency compacted currency_of
  current-brought =
      of_same (currency_of s n) compact_at.current.names
      ∙ keep-alone (λ m. eqb (currency_of s m) (currency_of s n)) n _ (eq-eqb (currency_of s n) (currency_of s n) refl)
      (λ m i. not-true _ (keep_in (λ m. not (eqb (currency_of s m) (currency_of s n))) s.current.names i).1)

  currencies-same : row17 s n ≡ false → (c : ℕ) → in_force compact_at c ≡ in_force s c
  unfolding none
  currencies-same some c = step (decide (eqb c (currency_of s n)))
    where
      step : (eqb c (currency_of s n) ≡ true) ⊎ (eqb c (currency_of s n) ≡ false) → in_force compact_at c ≡ in_force s c
      step (inl e) =
          let q = eqb-true c (currency_of s n) e in
          ap not (ap (λ k. none (of_currency compact_at k compact_at.current.names)) q ∙ ap none current-brought ∙ sym some ∙ ap (λ k. none (of_currency s k s.current.names)) (sym q))
      step (inr e) = ap (λ l. not (none l)) (current-others c (eqb-false c (currency_of s n) e))

  same_live : (x : ℕ) → is_live t compact_at x ≡ is_live t s x
  unfolding is_live
  same_live x = ap (any (λ (y : Hold). eqb x y.number)) (keep-within (live t) (live t) s.holds (λ y e. e))

  module _ (held : (x : Hold) → x ∈ s.holds → (m : Manifest) × (m ∈ kept s) × (m.number ≡ x.manifest)) where
    -- a live hold's manifest is found as before
    manifest-same : (y : Hold) → y ∈ live_holds t s → manifest_of compact_at y.manifest ≡ manifest_of s y.manifest
    unfolding manifest_of
    manifest-same y i =
        let k = held y (keep_in (live t) s.holds i).0 in
        lookup-keep (λ (m : Manifest). m.number) (λ m. m) first_manifest (held_by (live_holds t s)) y.manifest (kept s) (compact_at.current ∷ [])
        (λ m j e. in_any (λ (x : Hold). eqb m.number x.manifest) i (eq-eqb _ _ e))
        ∙ lookup_front (λ (m : Manifest). m.number) (λ m. m) first_manifest y.manifest (kept s) (compact_at.current ∷ []) k.1 k.2

    read_same : (x : ℕ) → eqb x 0 ≡ false → is_live t s x ≡ true → read_by t compact_at x ≡ read_by t s x
    unfolding read_by is_live
    read_same x e there =
        let k = any_in (λ (y : Hold). eqb x y.number) (live_holds t s) there in
        let f = lookup_in (λ (y : Hold). y.number) (λ y. y.manifest) 0 x (live_holds t s) k.1 (sym (eqb-true x k.0.number k.2)) in
        rw (e, keep-within (live t) (live t) s.holds (λ y e. e), f.3) (manifest-same f.0 f.1)

    rates-held : (c x : ℕ) → eqb x 0 ≡ false → is_live t s x ≡ true → rates compact_at t c x ≡ rates s t c x
    rates-held c x e there = of_same c _ ∙ ap (λ (m : Manifest). of_currency s c m.names) (read_same x e there)

  rates-current : (c : ℕ) → (c ≡ currency_of s n → ⊥) → rates compact_at t c 0 ≡ rates s t c 0
  unfolding read_by
  rates-current c ne = current-others c ne

-- looks that are on time, on two sound ledgers that are told the same
looked-same : (L : Limits) (s q : State) (t c x : ℕ) → sound L s ≡ true → sound L q ≡ true → s.clock ≤ t → q.clock ≤ t → told q t c x ≡ told s t c x → looked L q t c x ≡ looked L s t c x
looked-same L s q t c x e d later on same =
    look-told L q t c x d on ∙ ap (λ (w : Answer). alone (cond (row2 L t (LOOK c x) []) (Refused 2) w)) same ∙ sym (look-told L s t c x e later)

pub compactions : (L : Limits) → Compactions L
unfolding next rows act
compactions L s t e slot n l room a =
    let f = cleared L (sound L) s (compacting t e slot n l room) a in
    let safe : sound L s ≡ true = passed _ f.0 in
    let later = row3-clear L s t (COMPACT e slot n) l f.1 in
    let after = compact_at t n s in
    let moved : next L (sound L) s (compacting t e slot n l room) ≡ after = rw a in
    let safe-after : sound L after ≡ true = ap (sound L) (sym moved) ∙ next-sound L (sound L) s (compacting t e slot n l room) safe in
    rw moved (record {
      currencies = currencies-same t n s f.1.1.1.1.1.1.1.1.0;
      objects = current-others t n s;
      brought = current-brought t n s;
      others = λ c ne. looked-same L s after t c 0 safe safe-after later (omega arith) (told_same s after t c 0 (same_live t n s 0) (λ d. rates-current t n s c ne));
      held = λ c x ne.
          let some = ne_eqb x 0 ne in
          looked-same L s after t c x safe safe-after later (omega arith)
          (told_same s after t c x (same_live t n s x) (λ d. rates-held t n s (shape_of L s safe).holds c x some (there (nonzero x) _ (ap not some) d)));
    })

-- ---- by the history

-- one ask more that is accepted: the history notes it
history_more : (L : Limits) (s : State) (h : History) (asks : List Ask) (a : Ask) → accepts L (sound L) (ledger_from L (sound L) s asks) a ≡ true
    → history_from h (events_from L (sound L) s (asks ++ a ∷ [])) ≡ feed (history_from h (events_from L (sound L) s asks)) (accepted a)
unfolding history_from events_from ledger_from
history_more L s h [] a e = ap (λ (b : Bool). feed h (record { request = a.request; accepted = b })) e
history_more L s h (b ∷ asks) a e = history_more L (next L (sound L) s b) _ asks a e

-- the current manifest's objects of a currency are the rates by the history
current-rates : {L : Limits} (s : State) (h : History) → Agrees L s h → (t c : ℕ) → s.clock ≤ t → in_current s c ≡ rates_at t h c 0
unfolding read_by
current-rates s h r t c later = rates-same s h r t later c 0 refl

pub compactions-from : (L : Limits) → CompactionsFrom L
unfolding rows feed noted stored
compactions-from L s h r t e slot n l room a =
    let ask = compacting t e slot n l room in
    let f = cleared L (sound L) s ask a in
    let safe : sound L s ≡ true = passed _ f.0 in
    let later = row3-clear L s t (COMPACT e slot n) l f.1 in
    let same = currency-same s h r n (row8-clear t s (n ∷ []) f.1.1.1.1.1.1.1.0 n (Memᴰ.head refl)) in
    let q = next L (sound L) s ask in
    let g = feed h (accepted ask) in
    let agree : Agrees L q g = subst (λ (b : Bool). Agrees L q (feed h (record { request = ask.request; accepted = b }))) a (step_keeps L (sound L) s h ask r) in
    let on : q.clock ≤ t = omega (arith, agree.clock) in
    let looks = looks-from L (sound L) s h r safe t in
    let looks-after = looks-from L (sound L) q g agree (next-sound L (sound L) s ask safe) t in
    let told : (c x : ℕ) → looked L q t c x ≡ looked L s t c x → look_at L t g c x ≡ look_at L t h c x = λ c x d. ap (λ (p : Reply). p.answer) (sym (looks-after c x) ∙ d ∙ looks c x) in
    let kept = compactions L s t e slot n l room a in
    record {
      currencies = λ c. ap (λ (l : List ℕ). not (none l)) (sym (current-rates q g agree t c on)) ∙ kept.currencies c ∙ ap (λ (l : List ℕ). not (none l)) (current-rates s h r t c later);
      others = λ c ne. told c 0 (kept.others c (λ d. ne (d ∙ same)));
      objects = λ c ne. sym (current-rates q g agree t c on) ∙ kept.objects c (λ d. ne (d ∙ same)) ∙ current-rates s h r t c later;
      brought = sym (current-rates q g agree t (currency_at h n) on) ∙ ap (in_current q) (sym same) ∙ kept.brought;
      held = λ c x ne. told c x (kept.held c x ne);
    }

pub compactions_of : (asks : List Ask) → CompactionsOf asks
compactions_of asks t e slot n l room a =
    rw (history_more limits fresh at_first asks (compacting t e slot n l room) a)
    (compactions-from limits (ledger_of asks) (history_of asks) (agrees_from limits (sound limits) asks) t e slot n l room a)
