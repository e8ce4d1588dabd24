-- A list in its places, the rest 0, and the step and the reply that have it there.
-- Assumes nothing.
use mathlib.Core.Path.{◌≡◌, refl, sym, ap, ◌∙◌}
use mathlib.Core.Bool.{Bool, true, false, cond, and-false, false≢true}
use mathlib.Core.List.{List, ◌++◌}
use Prim.Native.Nat.{ℕ, ◌≤◌, ◌<◌}
use native.Mathlib.Omega.{arith}
use lib.ListN.{length, drop, replicate}
use borrow.Author.Tests.{lt-leb}
use Rattle.fields.specs.Bytes.{words_of}
use Rattle.fields.proofs.Bytes.{length-words_of}
use Rattle.rules.specs.declared.Kind.{Kind}
use Rattle.rules.specs.declared.Kind.TheVariants.{Fence as FENCE, Put as PUT, Commit as COMMIT, Compact as COMPACT, Hold as HOLD, Renew as RENEW, Release as RELEASE, List as LIST, Look as LOOK, Collect as COLLECT}
use Rattle.rules.specs.declared.NameList.{NameList}
use Rattle.rules.specs.declared.Step.{Step}
use Rattle.rules.specs.declared.ObjectList.{ObjectList}
use Rattle.rules.specs.Lists.{conj, rising_above}
use Rattle.rules.specs.Limits.{limits}
use Rattle.rules.specs.Table.{well_formed}
use Rattle.rules.specs.Request.{Asked, Unreadable}
use Rattle.rules.specs.Typed.{padded, is_padded, name_list, names_of, object_list, request_of, can_say}
use Rattle.rules.proofs.Typed.{padded-room, padded-over, list-asks}
use Rattle.records.proofs.Places.{some-list}

-- words read over zeros
module _ (count : ℕ) (w s : List ℕ) (e : w ≡ words_of count s) where
  words-over : (n : ℕ) → count ≤ n → w ++ drop count (replicate n 0) ≡ padded n (words_of count s)
  words-over n h =
      let long = length-words_of count s in
      rw e (ap (λ (k : ℕ). words_of count s ++ drop k (replicate n 0)) (sym long) ∙ padded-over n (words_of count s) (omega arith))

  pub names-read : count ≤ limits.names → ◌≡◌ {A = NameList} (record { count = count; names = w ++ drop count (replicate limits.names 0) }) (name_list (words_of count s))
  names-read h = λ i. record { count = sym (length-words_of count s) i; names = words-over limits.names h i }

  pub objects_read_lem : count ≤ limits.places → ◌≡◌ {A = ObjectList} (record { count = count; objects = w ++ drop count (replicate limits.places 0) }) (object_list (words_of count s))
  objects_read_lem h = λ i. record { count = sym (length-words_of count s) i; objects = words-over limits.places h i }

-- ---- a step with its list

-- a typed step whose list stands in its places says what it asks
pub step-said : (t : ℕ) (k : Kind) (l : List ℕ) → length l ≤ limits.names → can_say (request_of (record { time = t; kind = k; list = name_list l })) ≡ well_formed limits t k l
step-said t k l h = ap can_say (list-asks t k l h)

-- more names than a step has
pub step_long : (t : ℕ) (k : Kind) (l : List ℕ) → limits.names < length l → well_formed limits t k l ≡ false
unfolding well_formed conj
step_long t (FENCE r n) l h = some-list l (omega arith)
step_long t (PUT r e n c) l h = rw (some-list l (omega arith))
step_long t (COMMIT e n) l h = rw (lt-leb (length l) limits.names h, and-false (rising_above 0 l))
step_long t (COMPACT e n o) l h = rw (some-list l (omega arith))
step_long t (HOLD x m e) l h = rw (some-list l (omega arith))
step_long t (RENEW x e) l h = rw (some-list l (omega arith))
step_long t (RELEASE x) l h = rw (some-list l (omega arith))
step_long t (LIST x) l h = some-list l (omega arith)
step_long t (LOOK c x) l h = rw (some-list l (omega arith))
step_long t COLLECT l h = some-list l (omega arith)

-- a step that a record can say has no more names than places
pub said-room : (p : Step) → can_say (request_of p) ≡ true → p.list.count ≤ length p.list.names
said-room p = by (is_padded p.list.count p.list.names) refl
  where
    by : (b : Bool) → is_padded p.list.count p.list.names ≡ b → can_say (cond b (Asked p.time p.kind (names_of p.list)) Unreadable) ≡ true → p.list.count ≤ length p.list.names
    by true e h = padded-room p.list.count p.list.names e
    by false e h = absurd (false≢true h)
