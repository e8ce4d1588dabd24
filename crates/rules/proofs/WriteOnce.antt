-- Names are written once, and the highest number collected is what it is called: proved of one step and then of every sequence, by way of the history,
-- which alone says what each kind takes away.
-- Assumes nothing.
use mathlib.Core.Path.{◌≡◌, refl, sym, ap, ap₂, ◌∙◌, subst}
use mathlib.Core.Logic.{◌⊎◌, inl, inr, ⊎_elim}
use mathlib.Core.Bool.{Bool, true, false, not, cond, ◌&&◌, ◌||◌}
use mathlib.Core.List.Memᴰ
use mathlib.Core.List.{List, [], ◌∷◌, ◌++◌}
use Prim.Native.Nat.{ℕ, max, ◌≤◌}
use native.Mathlib.Omega.{arith}
use lib.Dec.{leb, eqb}
use borrow.Author.Tests.{le-leb, eq-eqb, ne_eqb}
use Rattle.rules.specs.declared.Answer.{Answer}
use Rattle.rules.specs.declared.Kind.{Kind}
use Rattle.rules.specs.declared.Kind.TheVariants.{Fence as FENCE, Put as PUT, Commit as COMMIT, Compact as COMPACT, Hold as HOLD, Renew as RENEW, Release as RELEASE, List as LIST, Look as LOOK, Collect as COLLECT}
use Rattle.rules.specs.declared.Role.{Role}
use Rattle.rules.specs.declared.Role.TheVariants.{Writer, Compactor}
use Rattle.rules.specs.Agreement.{Agrees}
use Rattle.rules.specs.Demand3.{events_from, ledger_from}
use Rattle.rules.specs.History.{History, Stored, Event, at_first, at_time, dead_at, dead_object, feed, noted, noted_of, stored_at}
use Rattle.rules.specs.Limits.{Limits}
use Rattle.rules.specs.Lists.{◌∈◌, any, distinct, has, maximum}
use Rattle.rules.specs.Request.{Ask, Asked, Request, Unreadable}
use Rattle.rules.specs.State.{State, fresh_in}
use Rattle.rules.specs.Step.{Reply, accepts, act, answers, effect, granted, next, reply, verdict}
use Rattle.rules.specs.Table.{◌if◌, row10, row9, rows}
use Rattle.rules.specs.Words.{stored}
use Rattle.rules.specs.Verdict.{Past}
use Rattle.rules.specs.WriteOnce.{LastCollected, WriteOnce, collected_from, gone_by, listed_by, put_of, puts}
use Rattle.rules.proofs.Agreement.{stored_same}
use Rattle.rules.proofs.Demand3.{agrees-fresh, dead-time, exact, request-keeps, step_keeps}
use Rattle.rules.proofs.Lists.{and_both, any_in, decide, in_any, in_keep, or_left, true-false}
use Rattle.rules.proofs.Numbers.{has_in}
use Rattle.rules.proofs.Table.{cleared, granted-reply, verdict-smallest}

-- Lists

maximum-append : (l k : List ℕ) → maximum (l ++ k) ≡ max (maximum l) (maximum k)
unfolding maximum
maximum-append [] k = omega arith
maximum-append (n ∷ ns) k = let e = maximum-append ns k in omega arith

pub maximum_above : (n : ℕ) (l : List ℕ) → n ∈ l → n ≤ maximum l
unfolding maximum
maximum_above n [] i = absurd (Memᴰ.not-nil i)
maximum_above n (m ∷ ms) i = step (Memᴰ.cases_cons i) (maximum_above n ms)
  where
    step : (n ≡ m) ⊎ (n ∈ ms) → (n ∈ ms → n ≤ maximum ms) → n ≤ max m (maximum ms)
    step (inl e) f = omega arith
    step (inr j) f = let h = f j in omega arith

-- What a kind takes away and puts, by the history

module _ (n : ℕ) where
  -- a stored number stays so, but for a collection
  stays : (k : Kind) (l : List ℕ) (h : History) → stored_at h n ≡ true → (stored_at (noted k l h) n ≡ true) ⊎ ((k ≡ COLLECT) × (dead_at h.time h n ≡ true))
  unfolding noted stored_at dead_at
  stays (FENCE Writer slot) l h e = inl e
  stays (FENCE Compactor slot) l h e = inl e
  stays (PUT r x m c) l h e = let k = any_in (λ (p : Stored). eqb n p.number) h.objects e in inl (in_any (λ (p : Stored). eqb n p.number) (Memᴰ.tail k.1) k.2)
  stays (COMMIT x slot) l h e = inl e
  stays (COMPACT x slot m) l h e = inl e
  stays (HOLD x m y) l h e = inl e
  stays (RENEW x y) l h e = inl e
  stays (RELEASE x) l h e = inl e
  stays (LIST x) l h e = inl e
  stays (LOOK c x) l h e = inl e
  stays COLLECT l h e =
      let k = any_in (λ (p : Stored). eqb n p.number) h.objects e in
      ⊎_elim (λ d. inr (refl, in_any (λ (p : Stored). eqb n p.number && dead_object h.time h p) k.1 (and_both _ _ k.2 d)))
      (λ d. inl (in_any (λ (p : Stored). eqb n p.number) (in_keep (λ p. not (dead_object h.time h p)) k.1 (ap not d)) k.2))
      (decide (dead_object h.time h k.0))

-- a request puts nothing, or is a PUT
pub record Put (q : Request) : Type 0 where
  pub time : ℕ
  pub role : Role
  pub epoch : ℕ
  pub number : ℕ
  pub currency : ℕ
  pub list : List ℕ
  pub is : q ≡ Asked time (PUT role epoch number currency) list

put_cases : (q : Request) → (put_of q ≡ []) ⊎ Put q
put_cases (Asked t (FENCE r slot) l) = inl refl
put_cases (Asked t (PUT r e n c) l) = inr (record { time = t; role = r; epoch = e; number = n; currency = c; list = l; is = refl })
put_cases (Asked t (COMMIT e slot) l) = inl refl
put_cases (Asked t (COMPACT e slot n) l) = inl refl
put_cases (Asked t (HOLD x m e) l) = inl refl
put_cases (Asked t (RENEW x e) l) = inl refl
put_cases (Asked t (RELEASE x) l) = inl refl
put_cases (Asked t (LIST x) l) = inl refl
put_cases (Asked t (LOOK c x) l) = inl refl
put_cases (Asked t COLLECT l) = inl refl
put_cases Unreadable = inl refl

-- What one step does

-- a PUT of such a number is refused with 9 or 10
abbrev pub Spent : State → ℕ → Type 0
Spent s n = (stored s n ≡ true) ⊎ (n ≤ s.highest_collected)

-- nothing was put, or one number, which was not spent and is stored now
abbrev Adds : State → State → List ℕ → Type 0
Adds s s' p = (p ≡ []) ⊎ ((n : ℕ) × (p ≡ n ∷ []) × (stored s' n ≡ true) × (Spent s n → ⊥))

-- from s to s': what a collection listed is gone, and what an accepted PUT stored is put
record Turn (s s' : State) (gone put : List ℕ) : Type 0 where
  pub raised : s'.highest_collected ≡ max s.highest_collected (maximum gone)
  pub goes : (n : ℕ) → stored s n ≡ true → (stored s' n ≡ true) ⊎ (n ∈ gone)
  pub adds : Adds s s' put

effect_raises : (s : State) (q : Request) → (effect q s).highest_collected ≡ max s.highest_collected (maximum (gone_by (granted q s)))
unfolding act answers maximum
effect_raises s (Asked t (FENCE Writer slot) l) = omega arith
effect_raises s (Asked t (FENCE Compactor slot) l) = omega arith
effect_raises s (Asked t (PUT r e n c) l) = omega arith
effect_raises s (Asked t (COMMIT e slot) l) = omega arith
effect_raises s (Asked t (COMPACT e slot n) l) = omega arith
effect_raises s (Asked t (HOLD x m e) l) = omega arith
effect_raises s (Asked t (RENEW x e) l) = omega arith
effect_raises s (Asked t (RELEASE x) l) = omega arith
effect_raises s (Asked t (LIST x) l) = omega arith
effect_raises s (Asked t (LOOK c x) l) = omega arith
effect_raises s (Asked t COLLECT l) = refl
effect_raises s Unreadable = omega arith

-- rows 9 and 10 of an accepted PUT
not-spent : (s : State) (n : ℕ) → row9 s n ≡ false → row10 s n ≡ false → Spent s n → ⊥
not-spent s n new low (inl e) = true-false _ e new
not-spent s n new low (inr h) = true-false _ (and_both (leb n s.highest_collected) _ (le-leb n s.highest_collected h) (ap not new)) low

module _ (L : Limits) (test : State → Bool) (s : State) (h : History) (r : Agrees L s h) where
  abbrev asks : Request → ℕ → Ask
  asks q room = record { request = q; room = room }

  -- what a collection takes away it lists
  listed_gone : (t : ℕ) (l : List ℕ) (room n : ℕ) → accepts L test s (asks (Asked t COLLECT l) room) ≡ true → dead_at t (at_time t h) n ≡ true
      → n ∈ gone_by (reply L test s (Asked t COLLECT l))
  listed_gone t l room n e d =
      let x = (exact L test s h r).collects t l room e in
      subst (λ (y : Answer). n ∈ listed_by y (reply L test s (Asked t COLLECT l)).list) (sym x.0) (has_in n _ (x.2 n ∙ sym (dead-time t h n) ∙ d))

  module _ (q : Request) (room : ℕ) (e : accepts L test s (asks q room) ≡ true) where
    agrees_after : Agrees L (effect q s) (noted_of q h)
    agrees_after = request-keeps L test s h q (cleared L test s (asks q room) e) r

  effect_goes : (q : Request) (room : ℕ) → accepts L test s (asks q room) ≡ true → (n : ℕ) → stored s n ≡ true → (stored (effect q s) n ≡ true) ⊎ (n ∈ gone_by (reply L test s q))
  unfolding stored_at
  effect_goes Unreadable room e n there = inl there
  effect_goes (Asked t k l) room e n there =
      ⊎_elim (λ x. inl (stored_same _ _ (agrees_after (Asked t k l) room e) n ∙ x))
      (λ d. inr (subst (λ (k : Kind). accepts L test s (asks (Asked t k l) room) ≡ true → n ∈ gone_by (reply L test s (Asked t k l))) (sym d.0) (λ e. listed_gone t l room n e d.1) e))
      (stays n k l (at_time t h) (sym (stored_same s h r n) ∙ there))

  -- an accepted PUT stores its number, which was not spent
  put_stores : (t : ℕ) (role : Role) (x n c : ℕ) (l : List ℕ) (room : ℕ) → accepts L test s (asks (Asked t (PUT role x n c) l) room) ≡ true
      → (stored (effect (Asked t (PUT role x n c) l) s) n ≡ true) × (Spent s n → ⊥)
  unfolding rows noted stored_at any
  put_stores t role x n c l room e =
      let f = (cleared L test s (asks (Asked t (PUT role x n c) l) room) e).1 in (
        stored_same _ _ (agrees_after (Asked t (PUT role x n c) l) room e) n ∙ or_left (eqb n n) _ (eq-eqb n n refl),
        not-spent s n f.1.1.1.0 f.1.1.1.1.0,
      )

  effect_adds : (q : Request) (room : ℕ) → accepts L test s (asks q room) ≡ true → Adds s (effect q s) (put_of q)
  effect_adds q room e = ⊎_elim inl (λ (p : Put q). subst Added (sym p.is) (λ e. let k = put_stores _ _ _ _ _ _ room e in inr (p.number, refl, k.0, k.1)) e) (put_cases q)
    where
      Added : Request → Type 0
      Added q = accepts L test s (asks q room) ≡ true → Adds s (effect q s) (put_of q)

  turn : (a : Ask) → Turn s (next L test s a) (cond (accepts L test s a) (gone_by (reply L test s a.request)) []) (cond (accepts L test s a) (put_of a.request) [])
  unfolding next maximum
  turn a = step (accepts L test s a) refl
    where
      step : (b : Bool) → accepts L test s a ≡ b → Turn s (cond b (effect a.request s) s) (cond b (gone_by (reply L test s a.request)) []) (cond b (put_of a.request) [])
      step true e = record {
        raised = effect_raises s a.request ∙ ap (λ (y : Reply). max s.highest_collected (maximum (gone_by y))) (sym (granted-reply L test s a e));
        goes = effect_goes a.request a.room e;
        adds = effect_adds a.request a.room e;
      }
      step false e = record { raised = omega arith; goes = λ n there. inl there; adds = inl refl }

-- Sequences

spent-stays : {s s' : State} {gone put : List ℕ} → Turn s s' gone put → (n : ℕ) → Spent s n → Spent s' n
spent-stays {s} {s'} {gone} w n (inl there) = ⊎_elim inl (λ i. inr (omega (arith, w.raised, maximum_above n gone i))) (w.goes n there)
spent-stays {s} {s'} {gone} w n (inr low) = inr (omega (arith, w.raised))

module _ (L : Limits) (test : State → Bool) where
  abbrev told : State → Ask → Event
  told s a = record { request = a.request; accepted = accepts L test s a }

  -- a number that is spent is never put again
  never_again : (s : State) (h : History) → Agrees L s h → (asks : List Ask) (n : ℕ) → Spent s n → has n (puts (events_from L test s asks)) ≡ false
  unfolding events_from puts has any
  never_again s h r [] n gone = refl
  never_again s h r (a ∷ asks) n gone =
      let w = turn L test s h r a in
      let rest = never_again (next L test s a) (feed h (told s a)) (step_keeps L test s h a r) asks n (spent-stays w n gone) in
      step (cond (accepts L test s a) (put_of a.request) []) (puts (events_from L test (next L test s a) asks)) w.adds rest
    where
      step : (p ps : List ℕ) → Adds s (next L test s a) p → has n ps ≡ false → has n (p ++ ps) ≡ false
      step p ps (inl e) f = ap (λ (l : List ℕ). has n (l ++ ps)) e ∙ f
      step p ps (inr k) f = ap (λ (l : List ℕ). has n (l ++ ps)) k.1 ∙ ap₂ ◌||◌ (ne_eqb n k.0 (λ q. k.3 (subst (Spent s) q gone))) f

  once-from : (s : State) (h : History) → Agrees L s h → (asks : List Ask) → distinct (puts (events_from L test s asks)) ≡ true
  unfolding events_from puts distinct
  once-from s h r [] = refl
  once-from s h r (a ∷ asks) =
      let w = turn L test s h r a in
      let r' = step_keeps L test s h a r in
      step (cond (accepts L test s a) (put_of a.request) []) (puts (events_from L test (next L test s a) asks)) w.adds
      (λ n there. never_again (next L test s a) (feed h (told s a)) r' asks n (inl there)) (once-from (next L test s a) (feed h (told s a)) r' asks)
    where
      step : (p ps : List ℕ) → Adds s (next L test s a) p
          → ((n : ℕ) → stored (next L test s a) n ≡ true → has n ps ≡ false) → distinct ps ≡ true → distinct (p ++ ps) ≡ true
      step p ps (inl e) f d = ap (λ (l : List ℕ). distinct (l ++ ps)) e ∙ d
      step p ps (inr k) f d = ap (λ (l : List ℕ). distinct (l ++ ps)) k.1 ∙ and_both _ _ (ap not (f k.0 k.2)) d

  kept_from : (s : State) (h : History) → Agrees L s h → (asks : List Ask) (n : ℕ) → (stored s n ≡ true) ⊎ (n ∈ puts (events_from L test s asks))
      → (stored (ledger_from L test s asks) n ≡ true) ⊎ (n ∈ collected_from L test s asks)
  unfolding ledger_from events_from puts collected_from
  kept_from s h r [] n (inl there) = inl there
  kept_from s h r [] n (inr i) = absurd (Memᴰ.not-nil i)
  kept_from s h r (a ∷ asks) n x =
      let w = turn L test s h r a in
      let more = kept_from (next L test s a) (feed h (told s a)) (step_keeps L test s h a r) asks n in
      go (cond (accepts L test s a) (gone_by (reply L test s a.request)) []) (cond (accepts L test s a) (put_of a.request) []) w more x
    where
      later : (gone : List ℕ) → (stored (ledger_from L test (next L test s a) asks) n ≡ true) ⊎ (n ∈ collected_from L test (next L test s a) asks)
          → (stored (ledger_from L test (next L test s a) asks) n ≡ true) ⊎ (n ∈ gone ++ collected_from L test (next L test s a) asks)
      later gone (inl there) = inl there
      later gone (inr i) = inr (Memᴰ.append_right gone i)

      first : (p : List ℕ) → Adds s (next L test s a) p → n ∈ p → stored (next L test s a) n ≡ true
      first p (inl e) i = absurd (Memᴰ.not-nil (subst (λ (l : List ℕ). n ∈ l) e i))
      first p (inr k) i = ap (stored (next L test s a)) (Memᴰ.eq_of_singleton (subst (λ (l : List ℕ). n ∈ l) k.1 i)) ∙ k.2

      go : (gone p : List ℕ) → Turn s (next L test s a) gone p
          → ((stored (next L test s a) n ≡ true) ⊎ (n ∈ puts (events_from L test (next L test s a) asks))
          → (stored (ledger_from L test (next L test s a) asks) n ≡ true) ⊎ (n ∈ collected_from L test (next L test s a) asks))
          → (stored s n ≡ true) ⊎ (n ∈ p ++ puts (events_from L test (next L test s a) asks))
          → (stored (ledger_from L test (next L test s a) asks) n ≡ true) ⊎ (n ∈ gone ++ collected_from L test (next L test s a) asks)
      go gone p w more (inl there) = ⊎_elim (λ y. later gone (more (inl y))) (λ i. inr (Memᴰ.append_left _ i)) (w.goes n there)
      go gone p w more (inr i) = ⊎_elim (λ j. later gone (more (inl (first p w.adds j)))) (λ j. later gone (more (inr j))) (Memᴰ.append_cases p i)

  highest-from : (s : State) (h : History) → Agrees L s h → (asks : List Ask)
      → (ledger_from L test s asks).highest_collected ≡ max s.highest_collected (maximum (collected_from L test s asks))
  unfolding ledger_from collected_from maximum
  highest-from s h r [] = omega arith
  highest-from s h r (a ∷ asks) =
      let gone = cond (accepts L test s a) (gone_by (reply L test s a.request)) [] in
      omega (
        arith,
        (turn L test s h r a).raised,
        highest-from (next L test s a) (feed h (told s a)) (step_keeps L test s h a r) asks,
        maximum-append gone (collected_from L test (next L test s a) asks),
      )

  -- a PUT of a number that is at most the highest collected, past 9, gives 10
  pub spent-put : (s : State) (t : ℕ) (r : Role) (e n c : ℕ) (l : List ℕ) → n ≤ s.highest_collected → Past L test s (Asked t (PUT r e n c) l) 10
      → verdict L test s (Asked t (PUT r e n c) l) ≡ 10
  unfolding rows
  spent-put s t r e n c l low past =
      let ninth : row9 s n ≡ false = past (9 if row9 s n) (Memᴰ.tail (Memᴰ.tail (Memᴰ.tail (Memᴰ.tail (Memᴰ.head refl))))) (omega arith) in
      let applies = and_both (leb n s.highest_collected) _ (le-leb n s.highest_collected low) (ap not ninth) in
      ((verdict-smallest L test s (Asked t (PUT r e n c) l)).refused (10 if row10 s n)
      (Memᴰ.tail (Memᴰ.tail (Memᴰ.tail (Memᴰ.tail (Memᴰ.tail (Memᴰ.head refl))))))).1 (applies, past)

  pub last_collected_lem : LastCollected L test
  last_collected_lem s last t r e n c l fits past = spent-put s t r e n c l (omega arith) past

  pub write_once_lem : (asks : List Ask) → WriteOnce L test asks
  write_once_lem asks = record {
    highest = highest;
    kept = λ n i. kept_from (fresh_in L) at_first (agrees-fresh L) asks n (inr i);
    once = once-from (fresh_in L) at_first (agrees-fresh L) asks;
    spent = λ m n i le t r e c l past. spent-put (ledger_from L test (fresh_in L) asks) t r e n c l (omega (arith, highest, maximum_above m _ i)) past;
  }
    where
      highest : (ledger_from L test (fresh_in L) asks).highest_collected ≡ maximum (collected_from L test (fresh_in L) asks)
      highest = omega (arith, highest-from (fresh_in L) at_first (agrees-fresh L) asks)
