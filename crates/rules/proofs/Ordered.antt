-- The kept manifests' order: laws of `ordered`.
-- Assumes nothing.
use mathlib.Core.Path.{◌≡◌, refl, sym, ap, ◌∙◌}
use mathlib.Core.Logic.{◌⊎◌, inl, inr}
use mathlib.Core.Bool.{Bool, true, false, cond}
use mathlib.Core.List.Memᴰ
use mathlib.Core.List.{List, [], ◌∷◌, ◌++◌}
use Prim.Native.Nat.{ℕ, suc, ◌+◌, ◌≤◌}
use native.Mathlib.Omega.{arith}
use borrow.Author.Tests.{leb-true, le-leb}
use Rattle.rules.specs.Lists.{◌∈◌, keep}
use Rattle.rules.specs.Sound.{ordered}
use Rattle.rules.specs.State.{Manifest}
use Rattle.rules.proofs.Lists.{conj-true, true-conj}

-- the head of an ordered list, and its tail
pub record Head (n w c : ℕ) (m : Manifest) (ms : List Manifest) : Type 0 where
  pub number : n ≤ m.number
  pub writer : w ≤ m.writer_epoch
  pub compactor : c ≤ m.compactor_epoch
  pub sum : m.writer_epoch + m.compactor_epoch ≤ m.number
  pub tail : ordered (suc m.number) m.writer_epoch m.compactor_epoch ms ≡ true

pub ordered-head : (n w c : ℕ) (m : Manifest) (ms : List Manifest) → ordered n w c (m ∷ ms) ≡ true → Head n w c m ms
unfolding ordered
ordered-head n w c m ms e =
    let f = conj-true _ e in
    record {
      number = leb-true _ _ f.0;
      writer = leb-true _ _ f.1.0;
      compactor = leb-true _ _ f.1.1.0;
      sum = leb-true _ _ f.1.1.1.0;
      tail = f.1.1.1.1.0;
    }

pub head-ordered : (n w c : ℕ) (m : Manifest) (ms : List Manifest) → Head n w c m ms → ordered n w c (m ∷ ms) ≡ true
unfolding ordered
head-ordered n w c m ms k = true-conj _ (le-leb _ _ k.number, (le-leb _ _ k.writer, (le-leb _ _ k.compactor, (le-leb _ _ k.sum, (k.tail, tt)))))

pub ordered_lower : (n w c n' w' c' : ℕ) (ms : List Manifest) → n' ≤ n → w' ≤ w → c' ≤ c → ordered n w c ms ≡ true → ordered n' w' c' ms ≡ true
unfolding ordered
ordered_lower n w c n' w' c' [] hn hw hc e = refl
ordered_lower n w c n' w' c' (m ∷ ms) hn hw hc e =
    let k = ordered-head n w c m ms e in
    head-ordered n' w' c' m ms (record {
      number = let x = k.number in omega arith;
      writer = let x = k.writer in omega arith;
      compactor = let x = k.compactor in omega arith;
      sum = k.sum;
      tail = k.tail;
    })

-- fewer of the first manifests
pub ordered-keep : (p : Manifest → Bool) (n w c : ℕ) (ms rest : List Manifest) → ordered n w c (ms ++ rest) ≡ true → ordered n w c (keep p ms ++ rest) ≡ true
unfolding keep
ordered-keep p n w c [] rest e = e
ordered-keep p n w c (m ∷ ms) rest e = step (p m) (ordered-keep p (suc m.number) m.writer_epoch m.compactor_epoch ms rest k.tail)
  where
    k : Head n w c m (ms ++ rest)
    k = ordered-head n w c m (ms ++ rest) e

    step : (b : Bool) → ordered (suc m.number) m.writer_epoch m.compactor_epoch (keep p ms ++ rest) ≡ true → ordered n w c (cond b (m ∷ keep p ms) (keep p ms) ++ rest) ≡ true
    step true r = head-ordered n w c m (keep p ms ++ rest) (record { number = k.number; writer = k.writer; compactor = k.compactor; sum = k.sum; tail = r })
    step false r = let x = k.number in
        ordered_lower (suc m.number) m.writer_epoch m.compactor_epoch n w c (keep p ms ++ rest) (omega arith) k.writer k.compactor r

-- the first manifests alone
pub ordered_front : (n w c : ℕ) (ms rest : List Manifest) → ordered n w c (ms ++ rest) ≡ true → ordered n w c ms ≡ true
unfolding ordered
ordered_front n w c [] rest e = refl
ordered_front n w c (m ∷ ms) rest e =
    let k = ordered-head n w c m (ms ++ rest) e in
    head-ordered n w c m ms (record {
      number = k.number;
      writer = k.writer;
      compactor = k.compactor;
      sum = k.sum;
      tail = ordered_front (suc m.number) m.writer_epoch m.compactor_epoch ms rest k.tail;
    })

-- one manifest more
pub ordered_add : (n w c : ℕ) (ms : List Manifest) (cur new : Manifest) → ordered n w c (ms ++ (cur ∷ [])) ≡ true
    → suc cur.number ≤ new.number → cur.writer_epoch ≤ new.writer_epoch → cur.compactor_epoch ≤ new.compactor_epoch
    → new.writer_epoch + new.compactor_epoch ≤ new.number → ordered n w c ((ms ++ (cur ∷ [])) ++ (new ∷ [])) ≡ true
unfolding ordered
ordered_add n w c [] cur new e a b d f =
    let k = ordered-head n w c cur [] e in
    head-ordered n w c cur (new ∷ []) (record {
      number = k.number;
      writer = k.writer;
      compactor = k.compactor;
      sum = k.sum;
      tail = head-ordered _ _ _ new [] (record { number = a; writer = b; compactor = d; sum = f; tail = refl });
    })
ordered_add n w c (m ∷ ms) cur new e a b d f =
    let k = ordered-head n w c m (ms ++ (cur ∷ [])) e in
    head-ordered n w c m ((ms ++ (cur ∷ [])) ++ (new ∷ [])) (record {
      number = k.number;
      writer = k.writer;
      compactor = k.compactor;
      sum = k.sum;
      tail = ordered_add (suc m.number) m.writer_epoch m.compactor_epoch ms cur new k.tail a b d f;
    })

pub ordered_above : (n w c : ℕ) (ms : List Manifest) (m : Manifest) → ordered n w c ms ≡ true → m ∈ ms → n ≤ m.number
ordered_above n w c [] m e i = absurd (Memᴰ.not-nil i)
ordered_above n w c (q ∷ qs) m e i = step (Memᴰ.cases_cons i) (ordered_above (suc q.number) q.writer_epoch q.compactor_epoch qs m k.tail)
  where
    k : Head n w c q qs
    k = ordered-head n w c q qs e

    step : (m ≡ q) ⊎ (m ∈ qs) → (m ∈ qs → suc q.number ≤ m.number) → n ≤ m.number
    step (inl p) f = let x = k.number in let y = ap (λ (m : Manifest). m.number) p in omega arith
    step (inr j) f = let x = k.number in let y = f j in omega arith

pub ordered_sum : (n w c : ℕ) (ms : List Manifest) (m : Manifest) → ordered n w c ms ≡ true → m ∈ ms → m.writer_epoch + m.compactor_epoch ≤ m.number
ordered_sum n w c [] m e i = absurd (Memᴰ.not-nil i)
ordered_sum n w c (q ∷ qs) m e i = step (Memᴰ.cases_cons i) (ordered_sum (suc q.number) q.writer_epoch q.compactor_epoch qs m k.tail)
  where
    k : Head n w c q qs
    k = ordered-head n w c q qs e

    step : (m ≡ q) ⊎ (m ∈ qs) → (m ∈ qs → m.writer_epoch + m.compactor_epoch ≤ m.number) → m.writer_epoch + m.compactor_epoch ≤ m.number
    step (inl p) f = let x = k.sum in let y = ap (λ (m : Manifest). m.number) p in let z = ap (λ (m : Manifest). m.writer_epoch + m.compactor_epoch) p in omega arith
    step (inr j) f = f j

-- no number twice
pub ordered-unique : (n w c : ℕ) (ms : List Manifest) (m q : Manifest) → ordered n w c ms ≡ true → m ∈ ms → q ∈ ms → m.number ≡ q.number → m ≡ q
ordered-unique n w c [] m q e i j s = absurd (Memᴰ.not-nil i)
ordered-unique n w c (x ∷ xs) m q e i j s = step (Memᴰ.cases_cons i) (Memᴰ.cases_cons j) (λ a b. ordered-unique (suc x.number) x.writer_epoch x.compactor_epoch xs m q k.tail a b s)
  where
    k : Head n w c x xs
    k = ordered-head n w c x xs e

    above : (y : Manifest) → y ∈ xs → suc x.number ≤ y.number
    above y l = ordered_above (suc x.number) x.writer_epoch x.compactor_epoch xs y k.tail l

    step : (m ≡ x) ⊎ (m ∈ xs) → (q ≡ x) ⊎ (q ∈ xs) → (m ∈ xs → q ∈ xs → m ≡ q) → m ≡ q
    step (inl a) (inl b) f = a ∙ sym b
    step (inl a) (inr b) f = let y = ap (λ (m : Manifest). m.number) a in let z = above q b in absurd (omega arith)
    step (inr a) (inl b) f = let y = ap (λ (m : Manifest). m.number) b in let z = above m a in absurd (omega arith)
    step (inr a) (inr b) f = f a b
