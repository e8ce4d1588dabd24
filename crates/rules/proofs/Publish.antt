-- A new manifest (FENCE, COMMIT, COMPACT) keeps the relation, where every object that it names is stored.
-- Assumes nothing.
use mathlib.Core.Path.{◌≡◌, refl, sym, ap, ap₂, ◌∙◌, subst}
use mathlib.Core.Logic.{◌⊎◌, inl, inr}
use mathlib.Core.Bool.{Bool, true, not, ◌&&◌, ◌||◌, or_comm}
use mathlib.Core.List.Memᴰ
use mathlib.Core.List.{List, [], ◌∷◌, map}
use Prim.Native.Nat.{ℕ, suc, ◌<◌}
use native.Mathlib.Omega.{arith}
use lib.Dec.{eqb}
use lib.ListN.{length, length-map}
use borrow.Author.Tests.{eq-eqb, ne_eqb, lt-ltb}
use Rattle.rules.specs.declared.Hold.{Hold}
use Rattle.rules.specs.declared.Object.{Object}
use Rattle.rules.specs.declared.Role.{Role}
use Rattle.rules.specs.declared.Role.TheVariants.{Compactor, Writer}
use Rattle.rules.specs.Agreement.{Agrees, Match, Objects, Safe}
use Rattle.rules.specs.History.{History, Stored, compacted_at, currency_at, fence_noted, list_at, listed_at, lists, live_at, named_above, next_manifest, stored_at}
use Rattle.rules.specs.Limits.{Limits}
use Rattle.rules.specs.Lists.{◌∈◌, all, any, has, insert, keep}
use Rattle.rules.specs.State.{Manifest, State, kept, occupied}
use Rattle.rules.specs.Step.{commit, fence, mark, publish}
use Rattle.rules.specs.Words.{compacted, currency_of, live, stored}
use Rattle.rules.proofs.Agreement.{currency-same, stored_same}
use Rattle.rules.proofs.Lists.{any_in, in_any, in_keep, keep_in, keep_same, or_cases, or_left, or_right}
use Rattle.rules.proofs.Numbers.{has_in, in_has, insert_in}

-- the lists before the new one keep their numbers
pub list_at-past : (k : ℕ) (l : List ℕ) (ls : List (List ℕ)) → k < length ls → list_at k (l ∷ ls) ≡ list_at k ls
unfolding list_at
list_at-past k l ls h = rw (ne_eqb k (length ls) (λ e. omega arith))

pub list_at_new : (k : ℕ) (l : List ℕ) (ls : List (List ℕ)) → k ≡ length ls → list_at k (l ∷ ls) ≡ l
unfolding list_at
list_at_new k l ls e = rw (eq-eqb k (length ls) e)

match_more : (l : List ℕ) (ls : List (List ℕ)) (o : Object) (p : Stored) → Match ls o p → Match (l ∷ ls) (mark l o) p
unfolding named_above
match_more l ls o p m = record {
  number = m.number;
  role = m.role;
  epoch = m.epoch;
  currency = m.currency;
  named = ap₂ ◌||◌ m.named (ap (λ n. has n l) m.number) ∙ or_comm (named_above p.since p.number ls) (has p.number l)
      ∙ ap (λ b. b && has p.number l || named_above p.since p.number ls) (sym (lt-ltb p.since (length ls) m.since));
  since = let h = m.since in omega arith;
}

module _ (l : List ℕ) (ps : List Object) where
  pub mark-from : (o : Object) → o ∈ keep occupied (map (mark l) ps) → (q : Object) × (q ∈ keep occupied ps) × (mark l q ≡ o)
  mark-from o i =
      let k = keep_in occupied (map (mark l) ps) i in
      let m = Memᴰ.of_map (mark l) ps k.0 in
      (m.0, in_keep occupied m.1 (ap occupied m.2 ∙ k.1), m.2)

  pub mark-to : (o : Object) → o ∈ keep occupied ps → mark l o ∈ keep occupied (map (mark l) ps)
  mark-to o i = let k = keep_in occupied ps i in in_keep occupied (Memᴰ.map (mark l) k.0) k.1

objects-marked : {L : Limits} (l : List ℕ) (ps : List Object) (puts : List Stored) (ls : List (List ℕ)) → Objects L ps puts ls → Objects L (map (mark l) ps) puts (l ∷ ls)
objects-marked l ps puts ls r = record {
  size = length-map ps (mark l) ∙ r.size;
  noted = λ o i. let m = mark-from l ps o i in let f = r.noted m.0 m.1 in
      (f.0, f.1, subst (λ o. Match (l ∷ ls) o f.0) m.2 (match_more l ls m.0 f.0 f.2));
  found = λ p i. let f = r.found p i in (mark l f.0, mark-to l ps f.0 f.1, match_more l ls f.0 p f.2);
  unique = λ o q i j e. let m = mark-from l ps o i in let n = mark-from l ps q j in
      sym m.2 ∙ ap (mark l) (r.unique m.0 n.0 m.1 n.1 (ap (λ (o : Object). o.number) m.2 ∙ e ∙ sym (ap (λ (o : Object). o.number) n.2))) ∙ n.2;
}

-- a live hold's manifest is one of the history's
pub held-past : {L : Limits} (s : State) (h : History) → Agrees L s h → (x : Hold) → x ∈ s.holds → x.manifest < length (lists h)
held-past s h r x i = let f = r.manifests.held x i in subst (λ k. k < length (lists h)) f.2 (r.manifests.past f.0 f.1)

publish-safe : {L : Limits} (s : State) (h : History) → Agrees L s h → (w c : ℕ) (l : List ℕ) → ((n : ℕ) → has n l ≡ true → stored_at h n ≡ true) → Safe (next_manifest w c l h)
unfolding listed_at stored_at live
publish-safe s h r w c l all n e = step (or_cases (has n l) _ e)
  where
    named : List (List ℕ) → Hold → Bool
    named ls x = has n (list_at x.manifest ls)

    step : (has n l ≡ true) ⊎ (any (named (l ∷ lists h)) (keep (live_at h.time) h.holds) ≡ true) → stored_at h n ≡ true
    step (inl p) = all n p
    step (inr p) =
        let k = any_in (named (l ∷ lists h)) (keep (live_at h.time) h.holds) p in
        let i = keep_in (live_at h.time) h.holds k.1 in
        let x = r.holding.found k.0 i.0 (ap (λ t. live t k.0) r.clock ∙ i.1) in
        let same = list_at-past k.0.manifest l (lists h) (held-past s h r k.0 x) in
        r.safe n (or_right (has n h.current) _ (in_any (named (lists h)) k.1 (ap (has n) (sym same) ∙ k.2)))

publish-keeps : {L : Limits} (s : State) (h : History) → Agrees L s h → (w c w' c' : ℕ) → w ≡ w' → c ≡ c' → (l : List ℕ)
    → ((n : ℕ) → has n l ≡ true → stored_at h n ≡ true) → Agrees L (publish w c l s) (next_manifest w' c' l h)
publish-keeps s h r w c w' c' ew ec l all = record {
  clock = r.clock;
  number = ap suc r.number;
  names = refl;
  writer = ew;
  compactor = ec;
  things = objects-marked l s.places h.objects (lists h) r.things;
  holding = r.holding;
  manifests = record {
    noted = λ m i. noted m (Memᴰ.append_cases (kept s) i);
    past = λ m i. past m (Memᴰ.append_cases (kept s) i);
    held = λ x i. let f = r.manifests.held x i in (f.0, Memᴰ.append_left (new ∷ []) f.1, f.2);
  };
  safe = publish-safe s h r w' c' l all;
}
  where
    new : Manifest
    new = (publish w c l s).current

    noted : (m : Manifest) → (m ∈ kept s) ⊎ (m ∈ (new ∷ [])) → m.names ≡ list_at m.number (l ∷ lists h)
    noted m (inl i) = r.manifests.noted m i ∙ sym (list_at-past m.number l (lists h) (r.manifests.past m i))
    noted m (inr i) = let e = Memᴰ.eq_of_singleton i in ap (λ (m : Manifest). m.names) e ∙ sym (list_at_new m.number l (lists h) (ap (λ (m : Manifest). m.number) e ∙ ap suc r.number))

    past : (m : Manifest) → (m ∈ kept s) ⊎ (m ∈ (new ∷ [])) → m.number < length (l ∷ lists h)
    past m (inl i) = let b = r.manifests.past m i in omega arith
    past m (inr i) = let e = ap (λ (m : Manifest). m.number) (Memᴰ.eq_of_singleton i) in let n = r.number in omega arith

-- what the current list names is stored
pub current-stored : {L : Limits} (s : State) (h : History) → Agrees L s h → (n : ℕ) → has n s.current.names ≡ true → stored_at h n ≡ true
unfolding listed_at
current-stored s h r n e = r.safe n (or_left (has n h.current) _ (ap (has n) (sym r.names) ∙ e))

pub fence-keeps : {L : Limits} (role : Role) (s : State) (h : History) → Agrees L s h → Agrees L (fence role s) (fence_noted role h)
fence-keeps {L} Writer s h r =
    subst (λ l. Agrees L (fence Writer s) (next_manifest (suc h.writer_epoch) h.compactor_epoch l h)) r.names
    (publish-keeps s h r _ _ _ _ (ap suc r.writer) r.compactor s.current.names (current-stored s h r))
fence-keeps {L} Compactor s h r =
    subst (λ l. Agrees L (fence Compactor s) (next_manifest h.writer_epoch (suc h.compactor_epoch) l h)) r.names
    (publish-keeps s h r _ _ _ _ r.writer (ap suc r.compactor) s.current.names (current-stored s h r))

pub commit-keeps : {L : Limits} (l : List ℕ) (s : State) (h : History) → Agrees L s h → ((n : ℕ) → has n l ≡ true → stored s n ≡ true)
    → Agrees L (commit l s) (next_manifest h.writer_epoch h.compactor_epoch l h)
commit-keeps l s h r all = publish-keeps s h r _ _ _ _ r.writer r.compactor l (λ n e. sym (stored_same s h r n) ∙ all n e)

pub compact_keeps : {L : Limits} (n : ℕ) (s : State) (h : History) → Agrees L s h → stored s n ≡ true
    → Agrees L (commit (compacted s n) s)
    (next_manifest h.writer_epoch h.compactor_epoch (compacted_at h n) h)
unfolding compacted
compact_keeps {L} n s h r e =
    subst (λ l. Agrees L (commit (compacted s n) s) (next_manifest h.writer_epoch h.compactor_epoch l h))
    same (commit-keeps (compacted s n) s h r all)
  where
    out : ℕ → Bool
    out m = not (eqb (currency_of s m) (currency_of s n))

    in_current_lem : (m : ℕ) → m ∈ s.current.names → stored s m ≡ true
    in_current_lem m i = stored_same s h r m ∙ current-stored s h r m (in_has i)

    same : compacted s n ≡ compacted_at h n
    same = ap (insert n)
        (keep_same out (λ m. not (eqb (currency_at h m) (currency_at h n))) s.current.names
        (λ m i. ap₂ (λ a b. not (eqb a b)) (currency-same s h r m (in_current_lem m i)) (currency-same s h r n e))
        ∙ ap (keep (λ m. not (eqb (currency_at h m) (currency_at h n)))) r.names)

    all : (m : ℕ) → has m (compacted s n) ≡ true → stored s m ≡ true
    all m i = step (insert_in n (keep out s.current.names) (has_in m _ i))
      where
        step : (m ≡ n) ⊎ (m ∈ keep out s.current.names) → stored s m ≡ true
        step (inl q) = ap (stored s) q ∙ e
        step (inr j) = in_current_lem m (keep_in out s.current.names j).0
