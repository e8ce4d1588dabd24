-- A commit takes effect exactly under demand 2's conditions.
-- Assumes nothing.
use mathlib.Core.Path.{◌≡◌, refl, ap, ap₂, ◌∙◌}
use mathlib.Core.Logic.{◌⊎◌, inl, inr}
use mathlib.Core.Bool.{true, false, not, cond, ◌||◌}
use mathlib.Core.List.{List}
use Prim.Native.Nat.{ℕ, suc}
use native.Mathlib.Omega.{arith}
use lib.Dec.{leb, eqb}
use borrow.Author.Tests.{ltb-false, leb-true, leb-false, le-leb, lt-leb, le-ltb, eq-eqb, ne_eqb}
use Rattle.rules.specs.declared.Answer.TheVariants.{Done, Refused}
use Rattle.rules.specs.declared.Kind.TheVariants.{Commit as COMMIT}
use Rattle.rules.specs.Limits.{Limits}
use Rattle.rules.specs.Lists.{◌∈◌}
use Rattle.rules.specs.Request.{Ask, Asked}
use Rattle.rules.specs.Sound.{sound}
use Rattle.rules.specs.State.{State}
use Rattle.rules.specs.Step.{accepts, act, alone, answers, effect, next, reply, rows_of, size, verdict}
use Rattle.rules.specs.Table.{row8, rows}
use Rattle.rules.specs.Verdict.{CommitExact, MayCommit}
use Rattle.rules.specs.Words.{stored}
use Rattle.rules.proofs.Accepted.{passed, positive, row8-clear}
use Rattle.rules.proofs.Lists.{and_both, and_right, any_in, decide, or_false-left, or_false_right, true-false}
use Rattle.rules.proofs.Table.{cleared, granted-reply, of_clear}

module _ (L : Limits) (s : State) (t e slot : ℕ) (l : List ℕ) (room : ℕ) where
  asked : Ask
  asked = record { request = Asked t (COMMIT e slot) l; room = room }

  -- accepted: no row applies, and the seven bytes fit
  conditions : accepts L (sound L) s asked ≡ true → MayCommit L s t e slot l room
  unfolding asked rows accepts reply answers stored
  conditions a =
      let f = cleared L (sound L) s asked a in
      let k = f.1.1.1.0 in
      let six = leb-false slot s.current.number f.1.1.1.1.1.0 in
      let seven = ltb-false (suc s.current.number) slot f.1.1.1.1.1.1.0 in
      let long = leb-true _ room (and_right (eqb (verdict L (sound L) s asked.request) 0) _ a) in
      let g = ap size (granted-reply L (sound L) s asked a) in
      record {
        is_sound = passed (sound L s) f.0;
        formed = passed _ f.1.0;
        on_time = ltb-false t s.clock f.1.1.0;
        known = (positive e (ap not (or_false-left (eqb e 0) _ k)), ltb-false s.current.writer_epoch e (or_false_right (eqb e 0) _ k));
        unfenced = ltb-false e s.current.writer_epoch f.1.1.1.1.0;
        next_slot = omega arith;
        all_stored = λ n i. row8-clear t s l f.1.1.1.1.1.1.1.0 n i;
        fits = omega arith;
      }

  none_unstored : ((n : ℕ) → n ∈ l → stored s n ≡ true) → row8 s l ≡ false
  none_unstored f = step (decide (row8 s l))
    where
      step : (row8 s l ≡ true) ⊎ (row8 s l ≡ false) → row8 s l ≡ false
      step (inl q) = let k = any_in (λ n. not (stored s n)) l q in true-false (not (stored s k.0)) k.2 (ap not (f k.0 k.1))
      step (inr q) = q

  accepted : MayCommit L s t e slot l room → accepts L (sound L) s asked ≡ true
  unfolding asked rows accepts verdict reply answers
  accepted m =
      let n = m.known in
      let z = m.next_slot in
      let none = of_clear (rows_of L (sound L) s asked.request) (
        ap not m.is_sound,
        (
          ap not m.formed,
          (
            le-ltb _ _ m.on_time,
            (ap₂ ◌||◌ (ne_eqb e 0 (λ q. omega arith)) (le-ltb _ _ m.known.1), (le-ltb _ _ m.unfenced, (lt-leb slot s.current.number (omega arith), (le-ltb (suc s.current.number) slot (omega arith), (none_unstored m.all_stored, tt))))),
          ),
        ),
      ) in
      and_both (eqb (verdict L (sound L) s asked.request) 0) _ (eq-eqb _ 0 none)
      (ap (λ b. leb (size (cond b (alone Done) (alone (Refused (verdict L (sound L) s asked.request))))) room) (eq-eqb (verdict L (sound L) s asked.request) 0 none) ∙ le-leb _ _ m.fits)

  pub commit-exact : CommitExact L s t e slot l room
  unfolding asked next act
  commit-exact = record {
    exactly = (conditions, accepted);
    takes = λ m. ap (λ b. cond b (effect asked.request s) s) (accepted m);
    names = refl;
    number = refl;
    otherwise = λ f. ap (λ b. cond b (effect asked.request s) s) (step f (decide (accepts L (sound L) s asked)));
  }
    where
      step : (MayCommit L s t e slot l room → ⊥) → (accepts L (sound L) s asked ≡ true) ⊎ (accepts L (sound L) s asked ≡ false) → accepts L (sound L) s asked ≡ false
      step f (inl q) = absurd (f (conditions q))
      step f (inr q) = q
