-- The nth accepted FENCE, COMMIT or COMPACT makes manifest n.
-- Assumes nothing.
use mathlib.Core.Path.{◌≡◌, refl, ap, ◌∙◌}
use mathlib.Core.Bool.{Bool, true, false, cond, ◌&&◌}
use mathlib.Core.List.{List, [], ◌∷◌}
use Prim.Native.Nat.{ℕ, suc, ◌+◌}
use native.Mathlib.Omega.{arith}
use lib.ListN.{length}
use Rattle.rules.specs.declared.Kind.{Kind}
use Rattle.rules.specs.declared.Kind.TheVariants.{Collect as COLLECT, Commit as COMMIT, Compact as COMPACT, Fence as FENCE, Hold as HOLD, List as LIST, Look as LOOK, Put as PUT, Release as RELEASE, Renew as RENEW}
use Rattle.rules.specs.declared.Role.TheVariants.{Compactor, Writer}
use Rattle.rules.specs.History.{Event, History, at_time, current_number, feed, history_from, is_maker, makers, makes_manifest, noted, noted_of}
use Rattle.rules.specs.Lists.{keep}
use Rattle.rules.specs.Request.{Asked, Request, Unreadable}

-- a kind that makes a manifest adds one list, and no other does
noted-count : (t : ℕ) (k : Kind) (l : List ℕ) (h : History) → current_number (noted k l (at_time t h)) ≡ cond (makes_manifest k) (suc (current_number h)) (current_number h)
unfolding noted
noted-count t (FENCE Writer slot) l h = refl
noted-count t (FENCE Compactor slot) l h = refl
noted-count t (PUT r e n c) l h = refl
noted-count t (COMMIT e slot) l h = refl
noted-count t (COMPACT e slot n) l h = refl
noted-count t (HOLD x m e) l h = refl
noted-count t (RENEW x e) l h = refl
noted-count t (RELEASE x) l h = refl
noted-count t (LIST x) l h = refl
noted-count t (LOOK c x) l h = refl
noted-count t COLLECT l h = refl

request-count : (q : Request) (h : History) → current_number (noted_of q h) ≡ cond (is_maker q) (suc (current_number h)) (current_number h)
request-count (Asked t k l) h = noted-count t k l h
request-count Unreadable h = refl

pub history_count : (h : History) (es : List Event) → current_number (history_from h es) ≡ current_number h + length (makers es)
unfolding history_from feed keep
history_count h [] = omega arith
history_count h (e ∷ es) = step e.accepted (is_maker e.request) refl (request-count e.request h) (history_count (feed h e) es)
  where
    step : (b c : Bool) → is_maker e.request ≡ c → current_number (noted_of e.request h) ≡ cond (is_maker e.request) (suc (current_number h)) (current_number h)
        → current_number (history_from (cond b (noted_of e.request h) h) es) ≡ current_number (cond b (noted_of e.request h) h) + length (makers es)
        → current_number (history_from (cond b (noted_of e.request h) h) es) ≡ current_number h + length (cond (b && is_maker e.request) (e ∷ makers es) (makers es))
    step false c m n f = f
    step true true m n f =
        let a = n ∙ ap (λ c. cond c (suc (current_number h)) (current_number h)) m in
        let z = ap (λ c. length (cond c (e ∷ makers es) (makers es))) m in
        omega (arith, f, z)
    step true false m n f =
        let a = n ∙ ap (λ c. cond c (suc (current_number h)) (current_number h)) m in
        let z = ap (λ c. length (cond c (e ∷ makers es) (makers es))) m in
        omega (arith, f, z)
