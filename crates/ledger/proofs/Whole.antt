-- A step whole: where rows 1 to 3 turn it away, and what is known where they do not.
-- Assumes nothing.
use mathlib.Core.Path.{◌≡◌, refl, sym, ap, subst, ◌∙◌}
use mathlib.Core.Logic.{⊎_elim}
use mathlib.Core.Bool.{Bool, true, false, cond, false≢true}
use mathlib.Core.List.{List, [], ◌∷◌}
use Prim.Native.Nat.{ℕ}
use native.Mathlib.Omega.{arith}
use lib.Dec.{ltb}
use Rattle.rules.specs.declared.Kind.{Kind}
use Rattle.rules.specs.declared.Kind.TheVariants.{Fence as FENCE, Put as PUT, Commit as COMMIT, Compact as COMPACT, Hold as HOLD, Renew as RENEW, Release as RELEASE, List as LIST, Look as LOOK, Collect as COLLECT}
use Rattle.rules.specs.declared.Step.{Step}
use Rattle.rules.specs.Limits.{limits}
use Rattle.rules.specs.Lists.{none}
use Rattle.rules.specs.Table.{well_formed, first_of}
use Rattle.rules.specs.Sound.{sound}
use Rattle.rules.specs.Request.{Request, Asked, Unreadable}
use Rattle.rules.specs.Step.{verdict}
use Rattle.rules.specs.Typed.{is_padded, names_of, request_of, can_say}
use Rattle.rules.proofs.Lists.{decide, conj-true}
use Rattle.ledger.specs.declared.Ledger.{Ledger}
use Rattle.ledger.specs.Ledger.{view, is_sound}
use Rattle.ledger.specs.Step.{Admitted, refused_with, ruled, judged, step_of, door_of}
use Rattle.ledger.proofs.Door.{rows_door}
use Rattle.ledger.proofs.View.{sound-view}

-- row 1
pub unsound-refused : (l : Ledger) → is_sound l ≡ false → (q : Request) → refused_with 1 l ≡ judged l q
unfolding judged
unsound-refused l e q = rw e

-- rows 2 and 3 of a sound ledger
module _ (l : Ledger) (e : is_sound l ≡ true) where
  verdict_2 : (q : Request) → can_say q ≡ false → verdict limits (sound limits) (view l) q ≡ 2
  unfolding verdict first_of
  verdict_2 (Asked t k names) f = rw (sound-view l e) (ap first_of (rows_door limits (view l) t k names) ∙ rw f)
  verdict_2 Unreadable f = rw (sound-view l e)

  verdict_3 : (t : ℕ) (k : Kind) (names : List ℕ) → well_formed limits t k names ≡ true → ltb t l.clock ≡ true
      → verdict limits (sound limits) (view l) (Asked t k names) ≡ 3
  unfolding verdict first_of
  verdict_3 t k names f g = rw (sound-view l e) (ap first_of (rows_door limits (view l) t k names) ∙ rw (f, g))

  -- bytes that are no step
  pub unreadable_refused : refused_with 2 l ≡ judged l Unreadable
  unfolding judged ruled
  unreadable_refused = rw (e, verdict_2 Unreadable refl)

-- a request that a record can say has its list in its places, and is well formed
module _ (p : Step) where
  said_by_lem : (b : Bool) (q : Request) → can_say (cond b q Unreadable) ≡ true → (b ≡ true) × (can_say q ≡ true)
  said_by_lem true q e = (refl, e)
  said_by_lem false q e = absurd (false≢true e)

  pub said : can_say (request_of p) ≡ true
      → (is_padded p.list.count p.list.names ≡ true) × (well_formed limits p.time p.kind (names_of p.list) ≡ true)
  said e = said_by_lem (is_padded p.list.count p.list.names) (Asked p.time p.kind (names_of p.list)) e

-- of three tests in their order none fails
all_pass : (a b c : Bool) → a ≡ true → b ≡ true → c ≡ false → ◌≡◌ {A = ℕ} (cond a (cond b (cond c 3 0) 2) 1) 0
all_pass true true false e f g = refl
all_pass true true true e f g = absurd (false≢true (sym g))
all_pass true false c e f g = absurd (false≢true f)
all_pass false b c e f g = absurd (false≢true e)

passed_all : (a b c : Bool) → ◌≡◌ {A = ℕ} (cond a (cond b (cond c 3 0) 2) 1) 0 → (a ≡ true) × (b ≡ true) × (c ≡ false)
passed_all true true true e = absurd (omega (arith, e))
passed_all true true false e = (refl, refl, refl)
passed_all true false c e = absurd (omega (arith, e))
passed_all false b c e = absurd (omega (arith, e))

module _ (l : Ledger) (p : Step) where
  -- turned away by one of them
  pub door_refused : (door_of l p ≡ 0 → ⊥) → refused_with (door_of l p) l ≡ step_of l p
  unfolding judged ruled
  door_refused shut = ⊎_elim in_order unsound (decide (is_sound l))
    where
      unsound : is_sound l ≡ false → refused_with (door_of l p) l ≡ step_of l p
      unsound e = rw e

      unformed : is_sound l ≡ true → can_say (request_of p) ≡ false → refused_with (door_of l p) l ≡ step_of l p
      unformed e f = rw (e, f, verdict_2 l e (request_of p) f)

      late : is_sound l ≡ true → can_say (request_of p) ≡ true → ltb p.time l.clock ≡ true → refused_with (door_of l p) l ≡ step_of l p
      late e f g = let h = said p f in rw (e, f, g, h.0, verdict_3 l e p.time p.kind (names_of p.list) h.1 g)

      formed : is_sound l ≡ true → can_say (request_of p) ≡ true → refused_with (door_of l p) l ≡ step_of l p
      formed e f = ⊎_elim (late e f) (λ g. absurd (shut (all_pass (is_sound l) (can_say (request_of p)) (ltb p.time l.clock) e f g))) (decide (ltb p.time l.clock))

      in_order : is_sound l ≡ true → refused_with (door_of l p) l ≡ step_of l p
      in_order e = ⊎_elim (formed e) (unformed e) (decide (can_say (request_of p)))

  -- let in
  module _ (clear : door_of l p ≡ 0) where
    passed : (is_sound l ≡ true) × (can_say (request_of p) ≡ true) × (ltb p.time l.clock ≡ false)
    passed = passed_all (is_sound l) (can_say (request_of p)) (ltb p.time l.clock) clear

    door_sound : is_sound l ≡ true
    door_sound = passed.0

    door_said : can_say (request_of p) ≡ true
    door_said = passed.1

    pub door_padded : is_padded p.list.count p.list.names ≡ true
    door_padded = (said p door_said).0

    pub door_rules : ruled (Asked p.time p.kind (names_of p.list)) l ≡ step_of l p
    unfolding judged
    door_rules = rw (door_sound, door_padded)

-- beside a kind that has none there is no list
no_names : (names : List ℕ) → none names ≡ true → names ≡ []
unfolding none
no_names [] e = refl
no_names (n ∷ names) e = absurd (false≢true e)

abbrev pub takes_list : Kind → Bool
takes_list (FENCE r slot) = false
takes_list (PUT r e n c) = false
takes_list (COMMIT e slot) = true
takes_list (COMPACT e slot n) = false
takes_list (HOLD x m e) = false
takes_list (RENEW x e) = false
takes_list (RELEASE x) = false
takes_list (LIST x) = false
takes_list (LOOK c x) = false
takes_list COLLECT = false

unlisted : (t : ℕ) (k : Kind) (names : List ℕ) → well_formed limits t k names ≡ true → takes_list k ≡ false → none names ≡ true
unfolding well_formed
unlisted t (FENCE r slot) names e f = e
unlisted t (PUT r x n c) names e f = (conj-true _ e).0
unlisted t (COMMIT x slot) names e f = absurd (false≢true (sym f))
unlisted t (COMPACT x slot n) names e f = (conj-true _ e).0
unlisted t (HOLD x m y) names e f = (conj-true _ e).0
unlisted t (RENEW x y) names e f = (conj-true _ e).0
unlisted t (RELEASE x) names e f = (conj-true _ e).0
unlisted t (LIST x) names e f = e
unlisted t (LOOK c x) names e f = (conj-true _ e).0
unlisted t COLLECT names e f = e

-- a step let in, of a kind that has no list
module _ (l : Ledger) (t : ℕ) (names : List ℕ) {j k : Kind} (a : Admitted l t j names) (e : j ≡ k) (f : takes_list k ≡ false) where
  admitted : Admitted l t k names
  admitted = subst (λ (k : Kind). Admitted l t k names) e a

  empty : names ≡ []
  empty = no_names names (unlisted t k names admitted.formed f)

  pub admits_alone : Admitted l t k []
  admits_alone = subst (Admitted l t k) empty admitted

  pub rules-alone : ruled (Asked t k []) l ≡ ruled (Asked t j names) l
  rules-alone = ap (λ (ns : List ℕ). ruled (Asked t k ns) l) (sym empty) ∙ ap (λ (k : Kind). ruled (Asked t k names) l) (sym e)
