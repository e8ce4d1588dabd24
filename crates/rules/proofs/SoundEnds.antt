-- The start and the end of an accepted step keep the shape of a sound ledger; its end makes every older manifest held.
-- Assumes nothing.
use mathlib.Core.Path.{refl}
use mathlib.Core.List.Memᴰ
use mathlib.Core.List.{[], ◌∷◌}
use Prim.Native.Nat.{ℕ}
use native.Mathlib.Omega.{arith}
use lib.Dec.{eqb}
use borrow.Author.Tests.{eqb-true}
use Rattle.rules.specs.declared.Hold.{Hold}
use Rattle.rules.specs.Limits.{Limits}
use Rattle.rules.specs.Lists.{◌∈◌, any}
use Rattle.rules.specs.State.{Manifest, State, kept}
use Rattle.rules.specs.Step.{settle, tidy}
use Rattle.rules.specs.Words.{live}
use Rattle.rules.proofs.Lists.{any_in, keep_in}
use Rattle.rules.proofs.Numbers.{keep-length, rising-keep}
use Rattle.rules.proofs.Ordered.{ordered-keep}
use Rattle.rules.proofs.Settle.{tidy-back, tidy-stays}
use Rattle.rules.proofs.Shape.{Held, Shape}

pub current-kept : (s : State) → s.current ∈ kept s
current-kept s = Memᴰ.append_right s.older (Memᴰ.head refl)

pub settle_shape : {L : Limits} (t : ℕ) (s : State) → Shape L s → Shape L (settle t s)
settle_shape t s r = record {
  size = r.size;
  unused = r.unused;
  stored = r.stored;
  distinct = r.distinct;
  ordered = r.ordered;
  rising = r.rising;
  short = r.short;
  current = r.current;
  held = λ x i. r.held x (keep_in (live t) s.holds i).0;
  holds_rising = rising-keep (λ (x : Hold). x.number) (live t) 0 s.holds r.holds_rising;
  few = let a = keep-length (live t) s.holds in let b = r.few in omega arith;
  holds = λ x i. r.holds x (keep_in (live t) s.holds i).0;
  alive = λ x i. (keep_in (live t) s.holds i).1;
}

pub tidy_shape : {L : Limits} (s : State) → Shape L s → Shape L (tidy s)
tidy_shape s r = record {
  size = r.size;
  unused = r.unused;
  stored = r.stored;
  distinct = r.distinct;
  ordered = ordered-keep _ 0 0 0 s.older (s.current ∷ []) r.ordered;
  rising = λ m i. r.rising m (tidy-back s m i);
  short = λ m i. r.short m (tidy-back s m i);
  current = r.current;
  held = λ x i m j. r.held x i m (tidy-back s m j);
  holds_rising = r.holds_rising;
  few = r.few;
  holds = λ x i. let f = r.holds x i in (f.0, tidy-stays s x i f.0 f.1 f.2, f.2);
  alive = r.alive;
}

pub tidy-held : (s : State) → Held (tidy s)
tidy-held s m i =
    let k = any_in (λ (x : Hold). eqb m.number x.manifest) s.holds (keep_in (λ (m : Manifest). any (λ (x : Hold). eqb m.number x.manifest) s.holds) s.older i).1 in
    (k.0, k.1, eqb-true m.number k.0.manifest k.2)
