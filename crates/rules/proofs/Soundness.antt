-- Every step leaves a sound ledger sound, and every ledger from the fresh one on is sound.
-- Assumes nothing.
use mathlib.Core.Path.{◌≡◌, refl, sym, ap, ◌∙◌, subst}
use mathlib.Core.Logic.{◌⊎◌, inl, inr}
use mathlib.Core.Bool.{Bool, true, false, not, cond, false≢true}
use mathlib.Core.List.Memᴰ
use mathlib.Core.List.{List, [], ◌∷◌, map-id}
use Prim.Native.Nat.{ℕ, zero, suc, ◌+◌, ◌≤◌, ◌<◌}
use native.Mathlib.Omega.{arith}
use lib.Dec.{eqb}
use lib.ListN.{length, replicate, length-replicate}
use borrow.Author.Tests.{leb-true, leb-false, ltb-false, eq-eqb}
use Rattle.rules.specs.declared.Kind.{Kind}
use Rattle.rules.specs.declared.Kind.TheVariants.{Collect as COLLECT, Commit as COMMIT, Compact as COMPACT, Fence as FENCE, Hold as HOLD, List as LIST, Look as LOOK, Put as PUT, Release as RELEASE, Renew as RENEW}
use Rattle.rules.specs.declared.Object.{Object}
use Rattle.rules.specs.declared.Role.{Role}
use Rattle.rules.specs.declared.Role.TheVariants.{Compactor, Writer}
use Rattle.rules.specs.Demand3.{ledger_from}
use Rattle.rules.specs.Limits.{Limits, currency_limit}
use Rattle.rules.specs.Lists.{◌∈◌, conj, distinct, keep, none, rising_above}
use Rattle.rules.specs.Request.{Ask, Asked, Request, Unreadable}
use Rattle.rules.specs.Sound.{ordered, sound}
use Rattle.rules.specs.State.{Manifest, State, epoch_of, free, fresh_in, kept, objects}
use Rattle.rules.specs.Step.{accepts, act, commit, effect, fence, next, rows_of, settle}
use Rattle.rules.specs.Table.{row17, rows, well_formed}
use Rattle.rules.specs.Words.{compacted, currency_of, is_live, live, of_currency, stored}
use Rattle.rules.proofs.Accepted.{passed, positive, row13-clear, row8-clear, there}
use Rattle.rules.proofs.Demand3.{none-stored}
use Rattle.rules.proofs.Lists.{conj-true, in_any, keep_in, or_false-left, or_false_right}
use Rattle.rules.proofs.Numbers.{insert_in, insert-length, keep-length, rising-insert, rising-keep}
use Rattle.rules.proofs.Ordered.{ordered_sum}
use Rattle.rules.proofs.Shape.{Shape, numbers, shape_of, sound_of}
use Rattle.rules.proofs.SoundCollect.{collect_shape}
use Rattle.rules.proofs.SoundEnds.{current-kept, settle_shape, tidy-held, tidy_shape}
use Rattle.rules.proofs.SoundHolds.{hold_shape, release_shape, renew_shape}
use Rattle.rules.proofs.SoundPublish.{publish_shape}
use Rattle.rules.proofs.SoundPut.{put_shape}
use Rattle.rules.proofs.Table.{Clear, cleared}

module _ {L : Limits} (s : State) (r : Shape L s) where
  sum_kept : s.current.writer_epoch + s.current.compactor_epoch ≤ s.current.number
  sum_kept = ordered_sum 0 0 0 (kept s) s.current r.ordered (current-kept s)

  names-stored : (n : ℕ) → n ∈ s.current.names → stored s n ≡ true
  unfolding stored
  names-stored n i = let k = r.current n i in in_any (λ (o : Object). eqb n o.number) k.1 (eq-eqb _ _ (sym k.2))

  fence_shape : (role : Role) → Shape L (fence role s)
  fence_shape Writer = publish_shape s r _ _ s.current.names (omega arith) (omega arith) (let h = sum_kept in omega arith) (r.rising _ (current-kept s)) (r.short _ (current-kept s)) names-stored
  fence_shape Compactor = publish_shape s r _ _ s.current.names (omega arith) (omega arith) (let h = sum_kept in omega arith) (r.rising _ (current-kept s)) (r.short _ (current-kept s)) names-stored

  commit_shape : (l : List ℕ) → rising_above 0 l ≡ true → length l ≤ L.names → ((n : ℕ) → n ∈ l → stored s n ≡ true) → Shape L (commit l s)
  commit_shape l rising short all_stored_lem = publish_shape s r _ _ l (omega arith) (omega arith) (let h = sum_kept in omega arith) rising short all_stored_lem

-- where one goes out and one comes in, the list is no longer than it was
out-length : (p : ℕ → Bool) (l : List ℕ) → none (keep p l) ≡ false → length (keep (λ n. not (p n)) l) < length l
unfolding keep none
out-length p [] e = absurd (false≢true (sym e))
out-length p (n ∷ ns) e = step (p n) e (out-length p ns)
  where
    step : (b : Bool) → none (cond b (n ∷ keep p ns) (keep p ns)) ≡ false → (none (keep p ns) ≡ false → length (keep (λ n. not (p n)) ns) < length ns)
        → length (cond (not b) (n ∷ keep (λ n. not (p n)) ns) (keep (λ n. not (p n)) ns)) < suc (length ns)
    step true e f = let h = keep-length (λ n. not (p n)) ns in omega arith
    step false e f = let h = f e in omega arith

-- a compaction's list is no longer than the one before
pub compacted-length : (s : State) (n : ℕ) → row17 s n ≡ false → length (compacted s n) ≤ length s.current.names
unfolding compacted of_currency
compacted-length s n some =
    let a = insert-length n (keep (λ m. not (eqb (currency_of s m) (currency_of s n))) s.current.names) in
    let b = out-length (λ m. eqb (currency_of s m) (currency_of s n)) s.current.names some in
    omega arith

pub compacted-rising : (s : State) (n : ℕ) → 0 < n → rising_above 0 s.current.names ≡ true → rising_above 0 (compacted s n) ≡ true
unfolding compacted
compacted-rising s n pos e = rising-insert 0 n (keep out names) pos (ap (rising_above 0) (sym (map-id (keep out names))) ∙ rising-keep (λ (m : ℕ). m) out 0 names (ap (rising_above 0) (map-id names) ∙ e))
  where
    names : List ℕ
    names = s.current.names

    out : ℕ → Bool
    out m = not (eqb (currency_of s m) (currency_of s n))

compact_shape : {L : Limits} (s : State) → Shape L s → (n : ℕ) → 0 < n → stored s n ≡ true → row17 s n ≡ false → Shape L (commit (compacted s n) s)
unfolding compacted
compact_shape s r n pos there some =
    commit_shape s r (compacted s n) (compacted-rising s n pos (r.rising _ (current-kept s)))
    (let a = compacted-length s n some in let b = r.short _ (current-kept s) in omega arith)
    (λ m i. step m (insert_in n (keep out s.current.names) i))
  where
    out : ℕ → Bool
    out m = not (eqb (currency_of s m) (currency_of s n))

    step : (m : ℕ) → (m ≡ n) ⊎ (m ∈ keep out s.current.names) → stored s m ≡ true
    step m (inl q) = ap (stored s) q ∙ there
    step m (inr j) = names-stored s r m (keep_in out s.current.names j).0

-- each kind keeps the shape, where no row applies
act_shape : {L : Limits} (t : ℕ) (l : List ℕ) (s : State) → Shape L (settle t s) → (k : Kind) → Clear (rows L s t k l) → Shape L (act k l (settle t s))
unfolding rows well_formed act is_live stored live currency_of of_currency
act_shape t l s r (FENCE role slot) f = fence_shape _ r role
act_shape t l s r (PUT role e n c) f =
    let w = conj-true _ (passed _ f.0) in
    put_shape _ r (record { number = n; role = role; epoch = e; currency = c; named = false }) w.1.0 f.1.1.1.0
    (record {
      given = positive e (ap not (or_false-left (eqb e 0) _ f.1.1.0));
      epoch = ltb-false (epoch_of role s.current) e (or_false_right (eqb e 0) _ f.1.1.0);
      currency = leb-true c currency_limit w.1.1.0;
    })
act_shape {L} t l s r (COMMIT e slot) f =
    let w = conj-true _ (passed _ f.0) in
    commit_shape _ r l w.0 (leb-true (length l) L.names w.1.0) (row8-clear t s l f.1.1.1.1.1.1.0)
act_shape t l s r (COMPACT e slot n) f =
    let w = conj-true _ (passed _ f.0) in
    compact_shape _ r n (positive n w.1.0) (row8-clear t s (n ∷ []) f.1.1.1.1.1.1.0 n (Memᴰ.head refl)) f.1.1.1.1.1.1.1.0
act_shape {L} t l s r (HOLD x m e) f =
    let w = conj-true _ (passed _ f.0) in
    hold_shape _ r (record { number = x; manifest = m; expiry = e }) (positive x w.1.0) w.1.1.0 (row13-clear t s m f.1.1.1.0) f.1.1.0 (leb-false L.holds _ f.1.1.1.1.0)
act_shape t l s r (RENEW x e) f = let w = conj-true _ (passed _ f.0) in renew_shape _ r x e w.1.1.0
act_shape t l s r (RELEASE x) f = release_shape _ r x
act_shape t l s r (LIST x) f = r
act_shape t l s r (LOOK c x) f = r
act_shape t l s r COLLECT f = collect_shape _ r

-- The fresh ledger is sound, whatever the limits

all-free : (n : ℕ) (o : Object) → o ∈ replicate n free → o ≡ free
all-free zero o i = absurd (Memᴰ.not-nil i)
all-free (suc n) o i = step (Memᴰ.cases_cons i) (all-free n o)
  where
    step : (o ≡ free) ⊎ (o ∈ replicate n free) → (o ∈ replicate n free → o ≡ free) → o ≡ free
    step (inl e) f = e
    step (inr j) f = f j

fresh_shape : (L : Limits) → Shape L (fresh_in L)
unfolding ordered conj rising_above distinct
fresh_shape L = record {
  size = length-replicate L.places free;
  unused = λ o i z. all-free L.places o i;
  stored = λ o i. absurd (empty o i);
  distinct = ap (λ os. distinct (numbers os)) (none-stored L.places);
  ordered = refl;
  rising = λ m i. ap (λ (m : Manifest). rising_above 0 m.names) (Memᴰ.eq_of_singleton i);
  short = λ m i. let e = ap (λ (m : Manifest). length m.names) (Memᴰ.eq_of_singleton i) in omega arith;
  current = λ n i. absurd (Memᴰ.not-nil i);
  held = λ x i. absurd (Memᴰ.not-nil i);
  holds_rising = refl;
  few = omega arith;
  holds = λ x i. absurd (Memᴰ.not-nil i);
  alive = λ x i. absurd (Memᴰ.not-nil i);
}
  where
    empty : (o : Object) → o ∈ objects (fresh_in L) → ⊥
    empty o i = Memᴰ.not-nil (subst (λ (os : List Object). o ∈ os) (none-stored L.places) i)

pub sound-fresh : (L : Limits) → sound L (fresh_in L) ≡ true
sound-fresh L = sound_of L (fresh_in L) (fresh_shape L) (λ m i. absurd (Memᴰ.not-nil i))

-- An accepted step leaves a sound ledger sound, whatever row 1's test is
pub effect-sound : (L : Limits) (test : State → Bool) (s : State) (q : Request) → Clear (rows_of L test s q) → sound L s ≡ true → sound L (effect q s) ≡ true
effect-sound L test s (Asked t k l) f e =
    let r = act_shape t l s (settle_shape t s (shape_of L s e)) k f.1 in
    sound_of L _ (tidy_shape _ r) (tidy-held (act k l (settle t s)))
effect-sound L test s Unreadable f e = e

pub next-sound : (L : Limits) (test : State → Bool) (s : State) (a : Ask) → sound L s ≡ true → sound L (next L test s a) ≡ true
unfolding next
next-sound L test s a e = step (accepts L test s a) refl
  where
    step : (b : Bool) → accepts L test s a ≡ b → sound L (cond b (effect a.request s) s) ≡ true
    step true q = effect-sound L test s a.request (cleared L test s a q) e
    step false q = e

pub ledger_from-sound : (L : Limits) (test : State → Bool) (s : State) (asks : List Ask) → sound L s ≡ true → sound L (ledger_from L test s asks) ≡ true
unfolding ledger_from
ledger_from-sound L test s [] e = e
ledger_from-sound L test s (a ∷ asks) e = ledger_from-sound L test (next L test s a) asks (next-sound L test s a e)
