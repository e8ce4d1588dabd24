-- Demand 3 holds of every sequence of steps: each step keeps the agreement of the ledger with the history.
-- Assumes nothing.
use mathlib.Core.Path.{◌≡◌, refl, sym, ap, ◌∙◌, subst}
use mathlib.Core.Logic.{◌⊎◌, inl, inr}
use mathlib.Core.Bool.{Bool, true, false, not, cond, ◌&&◌, false≢true}
use mathlib.Core.List.Memᴰ
use mathlib.Core.List.{List, [], ◌∷◌}
use Prim.Native.Nat.{ℕ, zero, suc, ◌≤◌}
use native.Mathlib.Omega.{arith}
use lib.Dec.{eqb}
use lib.ListN.{length, replicate, length-replicate}
use borrow.Author.Tests.{leb-false, not-true}
use Rattle.rules.specs.declared.Answer.TheVariants.{Collected}
use Rattle.rules.specs.declared.Kind.{Kind}
use Rattle.rules.specs.declared.Kind.TheVariants.{Collect as COLLECT, Commit as COMMIT, Compact as COMPACT, Fence as FENCE, Hold as HOLD, List as LIST, Look as LOOK, Put as PUT, Release as RELEASE, Renew as RENEW}
use Rattle.rules.specs.declared.Object.{Object}
use Rattle.rules.specs.declared.Role.{Role}
use Rattle.rules.specs.declared.Role.TheVariants.{Compactor, Writer}
use Rattle.rules.specs.Agreement.{Agrees}
use Rattle.rules.specs.Demand3.{Demand3, Demand3From, Exact, events_from, ledger_from}
use Rattle.rules.specs.History.{History, at_first, at_time, dead_at, dead_object, epoch_at, feed, history_from, list_at, listed_at, lists, named_above, noted_of, pending_at, stored_at, noted}
use Rattle.rules.specs.Limits.{Limits}
use Rattle.rules.specs.Lists.{◌∈◌, any, has, keep, rising_above}
use Rattle.rules.specs.Request.{Ask, Asked, Request, Unreadable}
use Rattle.rules.specs.State.{Manifest, State, free, fresh_in, objects, occupied}
use Rattle.rules.specs.Step.{Reply, accepts, act, answers, effect, next, reply, rows_of, settle}
use Rattle.rules.specs.Table.{nonzero, rows, well_formed}
use Rattle.rules.specs.Words.{is_live, listed, live, stored}
use Rattle.rules.proofs.Accepted.{passed, row13-clear, row3-clear, row8-clear, there}
use Rattle.rules.proofs.Agreement.{listed_same, stored_same}
use Rattle.rules.proofs.Collect.{collect-keeps, collected-exact, collected-rising}
use Rattle.rules.proofs.Holds.{hold-keeps, release_keeps, renew_keeps}
use Rattle.rules.proofs.Lists.{any_same, conj-true}
use Rattle.rules.proofs.Numbers.{has_in}
use Rattle.rules.proofs.Publish.{commit-keeps, compact_keeps, fence-keeps}
use Rattle.rules.proofs.Put.{put_keeps}
use Rattle.rules.proofs.Settle.{listed-before, settle-keeps, tidy-keeps}
use Rattle.rules.proofs.Table.{Clear, cleared, granted-reply}

-- each kind keeps the agreement, where no row applies
act-keeps : {L : Limits} (t : ℕ) (l : List ℕ) (s : State) (h : History) → Agrees L (settle t s) (at_time t h) → (k : Kind) → Clear (rows L s t k l)
    → Agrees L (act k l (settle t s)) (noted k l (at_time t h))
unfolding rows well_formed act noted is_live stored live
act-keeps t l s h r (FENCE role slot) f = fence-keeps role _ _ r
act-keeps {L} t l s h r (PUT role e n c) f =
    let w = conj-true _ (passed _ f.0) in
    put_keeps _ _ r role e n c (not-true _ w.1.0) f.1.1.1.0 (leb-false L.places (length (objects s)) f.1.1.1.1.1.0)
act-keeps t l s h r (COMMIT e slot) f = commit-keeps l _ _ r (λ n i. row8-clear t s l f.1.1.1.1.1.1.0 n (has_in n l i))
act-keeps t l s h r (COMPACT e slot n) f = compact_keeps n _ _ r (row8-clear t s (n ∷ []) f.1.1.1.1.1.1.0 n (Memᴰ.head refl))
act-keeps t l s h r (HOLD x m e) f =
    let w = conj-true _ (passed _ f.0) in
    hold-keeps _ _ r (record { number = x; manifest = m; expiry = e }) w.1.1.0 (row13-clear t s m f.1.1.1.0) f.1.1.0
act-keeps t l s h r (RENEW x e) f =
    let w = conj-true _ (passed _ f.0) in
    renew_keeps _ _ r x e w.1.1.0 (there (nonzero x) _ w.1.0 f.1.1.0)
act-keeps t l s h r (RELEASE x) f = release_keeps _ _ r x
act-keeps t l s h r (LIST x) f = r
act-keeps t l s h r (LOOK c x) f = r
act-keeps t l s h r COLLECT f = collect-keeps _ _ r

-- no place of the fresh ledger is taken
pub none-stored : (n : ℕ) → keep occupied (replicate n free) ≡ []
unfolding keep
none-stored zero = refl
none-stored (suc n) = none-stored n

pub agrees-fresh : (L : Limits) → Agrees L (fresh_in L) at_first
unfolding keep any has list_at listed_at
agrees-fresh L = record {
  clock = refl;
  number = refl;
  names = refl;
  writer = refl;
  compactor = refl;
  things = record {
    size = length-replicate L.places free;
    noted = λ o i. absurd (empty o i);
    found = λ p i. absurd (Memᴰ.not-nil i);
    unique = λ o q i j e. absurd (empty o i);
  };
  holding = record {
    alive = λ x i. absurd (Memᴰ.not-nil i);
    noted = λ x i. absurd (Memᴰ.not-nil i);
    found = λ y i e. absurd (Memᴰ.not-nil i);
    unique = λ x y i j e. absurd (Memᴰ.not-nil i);
  };
  manifests = record {
    noted = λ m i. subst (λ (m : Manifest). m.names ≡ list_at m.number ([] ∷ [])) (sym (Memᴰ.eq_of_singleton i)) refl;
    past = λ m i. let e = ap (λ (m : Manifest). m.number) (Memᴰ.eq_of_singleton i) in omega arith;
    held = λ x i. absurd (Memᴰ.not-nil i);
  };
  safe = λ n e. absurd (false≢true e);
}
  where
    empty : (o : Object) → o ∈ keep occupied (replicate L.places free) → ⊥
    empty o i = Memᴰ.not-nil (subst (λ (os : List Object). o ∈ os) (none-stored L.places) i)

-- the time that a history has come to does not tell what is dead at a time
epoch-time : (t : ℕ) (h : History) (role : Role) → epoch_at role (at_time t h) ≡ epoch_at role h
epoch-time t h Writer = refl
epoch-time t h Compactor = refl

pub dead-time : (t : ℕ) (h : History) (n : ℕ) → dead_at t (at_time t h) n ≡ dead_at t h n
unfolding dead_at dead_object pending_at listed_at
dead-time t h n = any_same _ _ h.objects (λ p i.
    ap (λ e. eqb n p.number && (not (eqb p.epoch e && not (named_above p.since p.number (lists h))) && not (listed_at t h p.number))) (epoch-time t h p.role))

module _ (L : Limits) (test : State → Bool) where
  -- a request that is accepted keeps the agreement
  pub request-keeps : (s : State) (h : History) (q : Request) → Clear (rows_of L test s q) → Agrees L s h → Agrees L (effect q s) (noted_of q h)
  request-keeps s h (Asked t k l) f r = tidy-keeps _ _ (act-keeps t l s h (settle-keeps t s h (row3-clear L s t k l f.1) r) k f.1)
  request-keeps s h Unreadable f r = r

  -- a step keeps the agreement, accepted or not
  pub step_keeps : (s : State) (h : History) (a : Ask) → Agrees L s h → Agrees L (next L test s a) (feed h (record { request = a.request; accepted = accepts L test s a }))
  unfolding next feed
  step_keeps s h a r = step (accepts L test s a) refl
    where
      step : (b : Bool) → accepts L test s a ≡ b → Agrees L (cond b (effect a.request s) s) (cond b (noted_of a.request h) h)
      step true e = request-keeps s h a.request (cleared L test s a e) r
      step false e = r

  pub run-keeps : (s : State) (h : History) (asks : List Ask) → Agrees L s h → Agrees L (ledger_from L test s asks) (history_from h (events_from L test s asks))
  unfolding ledger_from history_from events_from
  run-keeps s h [] r = r
  run-keeps s h (a ∷ asks) r = run-keeps (next L test s a) _ asks (step_keeps s h a r)

  module _ (s : State) (h : History) (r : Agrees L s h) where
    collect-exact : (t : ℕ) (l : List ℕ) (room : ℕ) → accepts L test s (record { request = Asked t COLLECT l; room = room }) ≡ true
        → ((reply L test s (Asked t COLLECT l)).answer ≡ Collected)
        × (rising_above 0 (reply L test s (Asked t COLLECT l)).list ≡ true)
        × ((n : ℕ) → has n (reply L test s (Asked t COLLECT l)).list ≡ dead_at t h n)
    unfolding answers
    collect-exact t l room e =
        let a : Ask = record { request = Asked t COLLECT l; room = room } in
        let q = settle-keeps t s h (row3-clear L s t COLLECT l (cleared L test s a e).1) r in
        let g = granted-reply L test s a e in (
          ap (λ (y : Reply). y.answer) g,
          ap (λ (y : Reply). rising_above 0 y.list) g ∙ collected-rising _ _ q t (omega arith),
          λ n. ap (λ (y : Reply). has n y.list) g ∙ collected-exact _ _ q t (omega arith) n ∙ dead-time t h n,
        )

    listed-stored : (t : ℕ) → s.clock ≤ t → (n : ℕ) → listed_at t h n ≡ true → (stored_at h n ≡ true) × (stored s n ≡ true)
    listed-stored t le n e =
        let c = r.clock in
        let k = r.safe n (listed-before h.time t h n (omega arith) e) in
        (k, stored_same s h r n ∙ k)

    pub exact : Exact L test s h
    exact = record { clock = r.clock; number = r.number; collects = collect-exact; keeps = λ t le n w. step t le n w }
      where
        step : (t : ℕ) → s.clock ≤ t → (n : ℕ) → (listed_at t h n ≡ true) ⊎ (listed t s n ≡ true) → (stored_at h n ≡ true) × (stored s n ≡ true)
        step t le n (inl e) = listed-stored t le n e
        step t le n (inr e) = listed-stored t le n (sym (listed_same s h r t le n) ∙ e)

  pub demand3-from : Demand3From L test
  demand3-from s h r asks = exact _ _ (run-keeps s h asks r)

  pub demand3 : Demand3 L test
  demand3 asks = demand3-from (fresh_in L) at_first (agrees-fresh L) asks

  pub agrees_from : (asks : List Ask) → Agrees L (ledger_from L test (fresh_in L) asks) (history_from at_first (events_from L test (fresh_in L) asks))
  agrees_from asks = run-keeps (fresh_in L) at_first asks (agrees-fresh L)
