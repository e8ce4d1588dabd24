-- What the rules reply to a request on a sound ledger is well formed as a verdict: a row's number, or what the kind answers.
-- Assumes nothing.
use mathlib.Core.Path.{◌≡◌, refl, ap, ◌∙◌}
use mathlib.Core.Bool.{Bool, true, false, not, cond}
use mathlib.Core.List.{List, [], ◌∷◌}
use Prim.Native.Nat.{ℕ, suc, ◌≤◌, ◌<◌}
use native.Mathlib.Omega.{arith}
use lib.Dec.{leb, eqb}
use lib.ListN.{length}
use borrow.Author.Tests.{eqb-true, eqb-false, leb-true, le-leb, ne_eqb}
use Rattle.rules.specs.declared.Kind.{Kind}
use Rattle.rules.specs.declared.Kind.TheVariants.{Fence as FENCE, Put as PUT, Commit as COMMIT, Compact as COMPACT, Hold as HOLD, Renew as RENEW, Release as RELEASE, List as LIST, Look as LOOK, Collect as COLLECT}
use Rattle.rules.specs.declared.Answer.TheVariants.{Refused}
use Rattle.rules.specs.Lists.{◌∈◌, all, conj, none, maximum, rising_above}
use Rattle.rules.specs.Limits.{limits}
use Rattle.rules.specs.State.{Manifest, State, epoch_of}
use Rattle.rules.specs.Words.{currency_of, dead, of_currency, read_by}
use Rattle.rules.specs.Table.{Row, nonzero, row16, rows, first_of}
use Rattle.rules.specs.Sound.{sound}
use Rattle.rules.specs.Request.{Request, Asked, Unreadable}
use Rattle.rules.specs.Step.{Reply, alone, answers, collected, granted, reply, rows_of, settle, verdict}
use Rattle.rules.proofs.Lists.{and_both, and_left, and_right, keep_in, true-conj}
use Rattle.rules.proofs.Numbers.{rising_above_lem}
use Rattle.rules.proofs.Table.{Clear, clear_of, row_numbers, rows-rising}
use Rattle.verdicts.specs.Verdicts.{last_row, rising_list, verdict_formed}
use Rattle.ledger.specs.declared.Ledger.{Ledger}
use Rattle.ledger.specs.Ledger.{view, is_sound}
use Rattle.ledger.proofs.View.{sound_shape}
use Rattle.ledger.proofs.StoreSteps.{highest-none}
use Rattle.ledger.proofs.HoldSteps.{read_short, read-rising, read_settled}
use Rattle.ledger.proofs.Collecting.{lost-few, lost-rising}

abbrev pub Formed : Reply → Type 0
Formed r = verdict_formed r.answer r.list ≡ true

-- The number of a refusal is in the table

in_table : List Row → Bool
in_table rs = all (λ n. leb n last_row) (row_numbers rs)

first_in : (rs : List Row) → in_table rs ≡ true → first_of rs ≤ last_row
unfolding in_table all first_of
first_in [] e = omega arith
first_in (r ∷ rs) e = step r.applies (first_in rs (and_right (leb r.number last_row) (in_table rs) e))
  where
    step : (b : Bool) → first_of rs ≤ last_row → cond b r.number (first_of rs) ≤ last_row
    step true h = leb-true r.number last_row (and_left (leb r.number last_row) (in_table rs) e)
    step false h = h

rows_in : (s : State) (t : ℕ) (k : Kind) (l : List ℕ) → in_table (rows limits s t k l) ≡ true
unfolding in_table all rows
rows_in s t (FENCE r slot) l = refl
rows_in s t (PUT r e n c) l = refl
rows_in s t (COMMIT e slot) l = refl
rows_in s t (COMPACT e slot n) l = refl
rows_in s t (HOLD x m e) l = refl
rows_in s t (RENEW x e) l = refl
rows_in s t (RELEASE x) l = refl
rows_in s t (LIST x) l = refl
rows_in s t (LOOK c x) l = refl
rows_in s t COLLECT l = refl

module _ (test : State → Bool) (s : State) where
  asked_in : (q : Request) → in_table (rows_of limits test s q) ≡ true
  unfolding in_table all
  asked_in (Asked t k l) = rows_in s t k l
  asked_in Unreadable = refl

  verdict_in_lem : (q : Request) → verdict limits test s q ≤ last_row
  unfolding verdict
  verdict_in_lem q = first_in (rows_of limits test s q) (asked_in q)

-- a refusal has a number, and no list
pub refused-formed : (n : ℕ) → (n ≡ 0 → ⊥) → n ≤ last_row → Formed (alone (Refused n))
unfolding verdict_formed none
refused-formed n f h = true-conj (true ∷ nonzero n ∷ leb n last_row ∷ []) (refl, (ap not (ne_eqb n 0 f), (le-leb n last_row h, tt)))

-- What an accepted request is answered

rising-formed : (most : ℕ) (l : List ℕ) → rising_above 0 l ≡ true → length l ≤ most → rising_list most l ≡ true
rising-formed most l r h = true-conj (rising_above 0 l ∷ leb (length l) most ∷ []) (r, (le-leb (length l) most h, tt))

module _ (l : Ledger) (e : is_sound l ≡ true) (t : ℕ) where
  list-formed : (x : ℕ) → rising_list limits.names (read_by t (settle t (view l)) x).names ≡ true
  list-formed x =
      ap (λ (m : Manifest). rising_list limits.names m.names) (read_settled t (view l) x)
      ∙ rising-formed limits.names (read_by t (view l) x).names (read-rising l e t x) (read_short l e t x)

  -- row 16 does not apply, so some name has the currency, and no name is 0
  look-formed : (c x : ℕ) → row16 (view l) t c x ≡ false → nonzero (maximum (of_currency (settle t (view l)) c (read_by t (settle t (view l)) x).names)) ≡ true
  unfolding of_currency currency_of
  look-formed c x f =
      ap (λ (m : Manifest). nonzero (maximum (of_currency (view l) c m.names))) (read_settled t (view l) x)
      ∙ ap not (highest-none (of_currency (view l) c names) positive ∙ f)
    where
      names : List ℕ
      names = (read_by t (view l) x).names

      positive : (n : ℕ) → n ∈ of_currency (view l) c names → 0 < n
      positive n i = rising_above_lem 0 n names (read-rising l e t x) (keep_in (λ n. eqb (currency_of (view l) n) c) names i).0

  collect-formed : rising_list limits.places (collected t (settle t (view l))) ≡ true
  unfolding collected
  collect-formed =
      let s = settle t (view l) in
      rising-formed limits.places (collected t s) (lost-rising (dead t s) s.places) (omega (arith, lost-few (dead t s) s.places, (sound_shape l e).size))

  accepted-formed : (k : Kind) (names : List ℕ) → Clear (rows limits (view l) t k names) → Formed (answers k (settle t (view l)))
  unfolding answers verdict_formed rows conj none
  accepted-formed (FENCE r slot) names f = and_both _ true (ap not (ne_eqb (suc (epoch_of r (view l).current)) 0 (omega arith))) refl
  accepted-formed (PUT r e n c) names f = refl
  accepted-formed (COMMIT e slot) names f = refl
  accepted-formed (COMPACT e slot n) names f = refl
  accepted-formed (HOLD x m e) names f = refl
  accepted-formed (RENEW x e) names f = refl
  accepted-formed (RELEASE x) names f = refl
  accepted-formed (LIST x) names f = list-formed x
  accepted-formed (LOOK c x) names f = and_both _ true (look-formed c x f.1.1.1.0) refl
  accepted-formed COLLECT names f = collect-formed

module _ (l : Ledger) (e : is_sound l ≡ true) where
  granted-formed : (q : Request) → verdict limits (sound limits) (view l) q ≡ 0 → Formed (granted q (view l))
  unfolding verdict rising_above verdict_formed none
  granted-formed (Asked t k names) z =
      accepted-formed l e t k names (clear_of 0 (rows_of limits (sound limits) (view l) (Asked t k names)) (rows-rising limits (view l) t k names) z).1
  granted-formed Unreadable z = refl

  pub reply-formed : (q : Request) → Formed (reply limits (sound limits) (view l) q)
  unfolding reply
  reply-formed q = step (eqb n 0) refl
    where
      n : ℕ
      n = verdict limits (sound limits) (view l) q

      step : (b : Bool) → eqb n 0 ≡ b → Formed (cond b (granted q (view l)) (alone (Refused n)))
      step true z = granted-formed q (eqb-true n 0 z)
      step false z = refused-formed n (eqb-false n 0 z) (verdict_in_lem (sound limits) (view l) q)
