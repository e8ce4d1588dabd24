-- The start and the end of an accepted step keep the relation: the clock is set and expired holds go; manifests that are no longer active go.
-- Assumes nothing.
use mathlib.Core.Path.{◌≡◌, refl, subst}
use mathlib.Core.Logic.{◌⊎◌, inl, inr}
use mathlib.Core.Bool.{Bool, true, ◌||◌}
use mathlib.Core.List.Memᴰ
use mathlib.Core.List.{[], ◌∷◌}
use Prim.Native.Nat.{ℕ, ◌≤◌}
use lib.Dec.{eqb}
use borrow.Author.Tests.{eq-eqb}
use Rattle.rules.specs.declared.Hold.{Hold}
use Rattle.rules.specs.Agreement.{Agrees}
use Rattle.rules.specs.History.{History, at_time, list_at, listed_at, lists, live_at, stored_at}
use Rattle.rules.specs.Limits.{Limits}
use Rattle.rules.specs.Lists.{◌∈◌, any, has, keep}
use Rattle.rules.specs.State.{Manifest, State, kept}
use Rattle.rules.specs.Step.{held_by, settle, tidy}
use Rattle.rules.specs.Words.{live}
use Rattle.rules.proofs.Agreement.{live-before}
use Rattle.rules.proofs.Lists.{any_in, in_any, in_keep, keep_in, or_cases, or_left, or_right}

-- what is listed at a time was listed before
pub listed-before : (c t : ℕ) (h : History) (n : ℕ) → c ≤ t → listed_at t h n ≡ true → listed_at c h n ≡ true
unfolding listed_at live
listed-before c t h n le e = step (or_cases (has n h.current) _ e)
  where
    by : Hold → Bool
    by x = has n (list_at x.manifest (lists h))

    step : (has n h.current ≡ true) ⊎ (any by (keep (live_at t) h.holds) ≡ true) → (has n h.current || any by (keep (live_at c) h.holds)) ≡ true
    step (inl p) = or_left (has n h.current) _ p
    step (inr p) =
        let k = any_in by (keep (live_at t) h.holds) p in
        let i = keep_in (live_at t) h.holds k.1 in
        or_right (has n h.current) _ (in_any by (in_keep (live c) i.0 (live-before c t k.0 le i.1)) k.2)

pub settle-keeps : {L : Limits} (t : ℕ) (s : State) (h : History) → s.clock ≤ t → Agrees L s h → Agrees L (settle t s) (at_time t h)
unfolding listed_at stored_at
settle-keeps t s h le r = record {
  clock = refl;
  number = r.number;
  names = r.names;
  writer = r.writer;
  compactor = r.compactor;
  things = r.things;
  holding = record {
    alive = λ x i. (keep_in (live t) s.holds i).1;
    noted = λ x i. r.holding.noted x (keep_in (live t) s.holds i).0;
    found = λ y i e. in_keep (live t) (r.holding.found y i (live-before s.clock t y le e)) e;
    unique = r.holding.unique;
  };
  manifests = record {
    noted = r.manifests.noted;
    past = r.manifests.past;
    held = λ x i. r.manifests.held x (keep_in (live t) s.holds i).0;
  };
  safe = λ n e. r.safe n (listed-before h.time t h n (subst (λ k. k ≤ t) r.clock le) e);
}

pub tidy-back : (s : State) (m : Manifest) → m ∈ kept (tidy s) → m ∈ kept s
tidy-back s m i = step (Memᴰ.append_cases (keep (held_by s.holds) s.older) i)
  where
    step : (m ∈ keep (held_by s.holds) s.older) ⊎ (m ∈ (s.current ∷ [])) → m ∈ kept s
    step (inl j) = Memᴰ.append_left (s.current ∷ []) (keep_in (held_by s.holds) s.older j).0
    step (inr j) = Memᴰ.append_right s.older j

pub tidy-stays : (s : State) (x : Hold) → x ∈ s.holds → (m : Manifest) → m ∈ kept s → m.number ≡ x.manifest → m ∈ kept (tidy s)
tidy-stays s x i m j e = step (Memᴰ.append_cases s.older j)
  where
    step : (m ∈ s.older) ⊎ (m ∈ (s.current ∷ [])) → m ∈ kept (tidy s)
    step (inl k) = Memᴰ.append_left (s.current ∷ []) (in_keep (held_by s.holds) k (in_any (λ (x : Hold). eqb m.number x.manifest) i (eq-eqb _ _ e)))
    step (inr k) = Memᴰ.append_right (keep (held_by s.holds) s.older) k

pub tidy-keeps : {L : Limits} (s : State) (h : History) → Agrees L s h → Agrees L (tidy s) h
tidy-keeps s h r = record {
  clock = r.clock;
  number = r.number;
  names = r.names;
  writer = r.writer;
  compactor = r.compactor;
  things = r.things;
  holding = r.holding;
  manifests = record {
    noted = λ m i. r.manifests.noted m (tidy-back s m i);
    past = λ m i. r.manifests.past m (tidy-back s m i);
    held = λ x i. let f = r.manifests.held x i in (f.0, tidy-stays s x i f.0 f.1 f.2, f.2);
  };
  safe = r.safe;
}
