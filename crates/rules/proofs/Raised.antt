-- A trace that never met an old limit keeps its verdicts: the ledger with more places is the old one with free places behind it (Wider.antt), and no row sees those.
-- Assumes nothing.
use mathlib.Core.Path.{◌≡◌, refl, sym, ap, ap₂, ◌∙◌, subst}
use mathlib.Core.Bool.{Bool, true, false, not, cond, ◌&&◌}
use mathlib.Core.List.{List, [], ◌∷◌, ◌++◌}
use Prim.Native.Nat.{ℕ, ◌+◌, ◌-◌}
use native.Mathlib.Omega.{arith}
use lib.Dec.{leb, ltb, eqb}
use lib.ListN.{length, replicate, replicate-append-replicate}
use borrow.Author.Tests.{leb-false, ltb-false, le-leb, lt-leb, eq-eqb, not-true}
use Rattle.rules.specs.declared.Answer.TheVariants.{Refused}
use Rattle.rules.specs.declared.Kind.{Kind}
use Rattle.rules.specs.declared.Kind.TheVariants.{Collect as COLLECT, Commit as COMMIT, Compact as COMPACT, Fence as FENCE, Hold as HOLD, List as LIST, Look as LOOK, Put as PUT, Release as RELEASE, Renew as RENEW}
use Rattle.rules.specs.Demand3.{events_from}
use Rattle.rules.specs.Limits.{Limits, first_limits, limits}
use Rattle.rules.specs.Raised.{KeepsVerdicts, OldVerdictsKept, Raised, meets, never_met, replies_from}
use Rattle.rules.specs.Request.{Ask, Asked, Request, Unreadable}
use Rattle.rules.specs.Sound.{sound}
use Rattle.rules.specs.State.{State, epoch_of, free, fresh_in, objects}
use Rattle.rules.specs.Step.{accepts, alone, effect, next, reply, size, verdict, with_places}
use Rattle.rules.specs.Table.{Row, ◌if◌, first_of, row10, row11, row2, row3, row4, row9, rows, well_formed}
use Rattle.rules.specs.Words.{active, currency_of, is_live, manifest_of, of_currency, read_by, stored}
use Rattle.rules.proofs.Depot.{week_unmet}
use Rattle.rules.proofs.Lists.{and_left, and_right, or_false-left, or_false_right, true-false}
use Rattle.rules.proofs.Shape.{shape_of}
use Rattle.rules.proofs.Soundness.{next-sound, sound-fresh}
use Rattle.rules.proofs.Table.{cleared}
use Rattle.rules.proofs.Wider.{effect-wide, granted-same, objects-same, widen}

-- The rows

-- the verdict of some rows and one behind them
abbrev ended_by : ℕ → List Row → Bool → ℕ
ended_by n rs b = first_of (rs ++ ((n if b) ∷ []))

-- where the last row is not the verdict, it may apply less
last_row_lem : (n : ℕ) (rs : List Row) (b c : Bool) → (b ≡ false → c ≡ false) → eqb (ended_by n rs b) n ≡ false → ended_by n rs c ≡ ended_by n rs b
unfolding first_of
last_row_lem n [] true c f e = true-false (eqb n n) (eq-eqb n n refl) e
last_row_lem n [] false c f e = ap (λ (b : Bool). cond b n 0) (f refl)
last_row_lem n (r ∷ rs) b c f e = step r.applies e (last_row_lem n rs b c f)
  where
    step : (d : Bool) → eqb (cond d r.number (ended_by n rs b)) n ≡ false → (eqb (ended_by n rs b) n ≡ false → ended_by n rs c ≡ ended_by n rs b)
        → cond d r.number (ended_by n rs c) ≡ cond d r.number (ended_by n rs b)
    step true e g = refl
    step false e g = g e

module _ (L M : Limits) (raised : Raised L M) (k : ℕ) (s : State) (t : ℕ) (l : List ℕ) where
  -- both limits let the list pass
  short-same : ltb L.names (length l) ≡ false → leb (length l) M.names ≡ leb (length l) L.names
  short-same e =
      let h = ltb-false L.names (length l) e in
      let m = raised.names in
      le-leb (length l) M.names (omega arith) ∙ sym (le-leb (length l) L.names h)

  -- where there was room there is
  room-stays : row11 L s ≡ false → row11 M s ≡ false
  room-stays e =
      let h = leb-false L.places (length (objects s)) e in
      let m = raised.places in
      lt-leb M.places (length (objects s)) (omega arith)

  -- no verdict of 11 and no list over the limit: the first row that applies is the same
  rows_same : (kind : Kind) → ltb L.names (length l) ≡ false → eqb (first_of (rows L s t kind l)) 11 ≡ false → first_of (rows M (widen k s) t kind l) ≡ first_of (rows L s t kind l)
  unfolding rows well_formed stored of_currency currency_of read_by manifest_of is_live active
  rows_same (FENCE r slot) short f = refl
  rows_same (PUT r e n c) short f =
      let first = (2 if row2 L t (PUT r e n c) l) ∷ (3 if row3 s t) ∷ (4 if row4 (epoch_of r s.current) e) ∷ (9 if row9 s n) ∷ (10 if row10 s n) ∷ [] in
      rw (objects-same k s) (last_row_lem 11 first (row11 L s) (row11 M s) room-stays f)
  rows_same (COMMIT e slot) short f = rw (short-same short, objects-same k s)
  rows_same (COMPACT e slot n) short f = rw (objects-same k s)
  rows_same (HOLD x m e) short f = rw raised.holds
  rows_same (RENEW x e) short f = refl
  rows_same (RELEASE x) short f = refl
  rows_same (LIST x) short f = refl
  rows_same (LOOK c x) short f = rw (objects-same k s)
  rows_same COLLECT short f = refl

-- One step

-- the two ledgers are sound, each within its limits
record Both (L M : Limits) (k : ℕ) (s : State) : Type 0 where
  old : sound L s ≡ true
  new : sound M (widen k s) ≡ true

module _ (L M : Limits) (raised : Raised L M) (k : ℕ) (s : State) (both : Both L M k s) where
  verdict-same : (q : Request) → meets L s q ≡ false → verdict M (sound M) (widen k s) q ≡ verdict L (sound L) s q
  unfolding verdict first_of
  verdict-same (Asked t kind l) e =
      ap₂ (λ (b : Bool) (n : ℕ). cond (not b) 1 n) (both.new ∙ sym both.old)
      (rows_same L M raised k s t l kind (or_false_right (eqb (verdict L (sound L) s (Asked t kind l)) 11) _ e)
      (ap (λ (b : Bool). eqb (cond (not b) 1 (first_of (rows L s t kind l))) 11) (sym both.old) ∙ or_false-left (eqb (verdict L (sound L) s (Asked t kind l)) 11) _ e))
  verdict-same Unreadable e = ap (λ (b : Bool). cond (not b) 1 2) (both.new ∙ sym both.old)

  reply-same : (q : Request) → meets L s q ≡ false → reply M (sound M) (widen k s) q ≡ reply L (sound L) s q
  unfolding reply
  reply-same q e = λ i. cond (eqb (verdict-same q e i) 0) (granted-same k s q i) (alone (Refused (verdict-same q e i)))

  accepts-same : (a : Ask) → meets L s a.request ≡ false → accepts M (sound M) (widen k s) a ≡ accepts L (sound L) s a
  unfolding accepts
  accepts-same a e = λ i. eqb (verdict-same a.request e i) 0 && leb (size (reply-same a.request e i)) a.room

  next-wide : (a : Ask) → meets L s a.request ≡ false → next M (sound M) (widen k s) a ≡ widen k (next L (sound L) s a)
  unfolding next
  next-wide a e = ap (λ (b : Bool). cond b (effect a.request (widen k s)) (widen k s)) (accepts-same a e) ∙ step (accepts L (sound L) s a) refl
    where
      step : (b : Bool) → accepts L (sound L) s a ≡ b → cond b (effect a.request (widen k s)) (widen k s) ≡ widen k (cond b (effect a.request s) s)
      step true q = effect-wide k (sound L) s (shape_of L s both.old) a.request (cleared L (sound L) s a q)
      step false q = refl

  next_both : (a : Ask) → meets L s a.request ≡ false → Both L M k (next L (sound L) s a)
  next_both a e = record {
    old = next-sound L (sound L) s a both.old;
    new = subst (λ (z : State). sound M z ≡ true) (next-wide a e) (next-sound M (sound M) (widen k s) a both.new);
  }

-- Every sequence

module _ (L : Limits) (s : State) (a : Ask) (asks : List Ask) (e : never_met L s (a ∷ asks) ≡ true) where
  unmet : meets L s a.request ≡ false
  unfolding never_met
  unmet = not-true (meets L s a.request) (and_left (not (meets L s a.request)) _ e)

  unmet_rest : never_met L (next L (sound L) s a) asks ≡ true
  unfolding never_met
  unmet_rest = and_right (not (meets L s a.request)) _ e

module _ (L M : Limits) (raised : Raised L M) (k : ℕ) where
  replies-same : (s : State) → Both L M k s → (asks : List Ask) → never_met L s asks ≡ true → replies_from M (widen k s) asks ≡ replies_from L s asks
  unfolding replies_from
  replies-same s both [] e = refl
  replies-same s both (a ∷ asks) e =
      let u = unmet L s a asks e in
      ap₂ ◌∷◌ (reply-same L M raised k s both a.request u)
      (ap (λ (z : State). replies_from M z asks) (next-wide L M raised k s both a u) ∙ replies-same (next L (sound L) s a) (next_both L M raised k s both a u) asks (unmet_rest L s a asks e))

  events-same : (s : State) → Both L M k s → (asks : List Ask) → never_met L s asks ≡ true → events_from M (sound M) (widen k s) asks ≡ events_from L (sound L) s asks
  unfolding events_from
  events-same s both [] e = refl
  events-same s both (a ∷ asks) e =
      let u = unmet L s a asks e in
      ap₂ ◌∷◌ (ap (λ (b : Bool). record { request = a.request; accepted = b }) (accepts-same L M raised k s both a u))
      (ap (λ (z : State). events_from M (sound M) z asks) (next-wide L M raised k s both a u) ∙ events-same (next L (sound L) s a) (next_both L M raised k s both a u) asks (unmet_rest L s a asks e))

module _ (L M : Limits) (raised : Raised L M) where
  -- the places that are added
  more : ℕ
  more = M.places - L.places

  fresh-wide : widen more (fresh_in L) ≡ fresh_in M
  unfolding more
  fresh-wide = ap (with_places (fresh_in L)) (replicate-append-replicate L.places more free ∙ ap (λ (n : ℕ). replicate n free) sum)
    where
      sum : L.places + more ≡ M.places
      sum = let h = raised.places in omega arith

  fresh_both : Both L M more (fresh_in L)
  fresh_both = record { old = sound-fresh L; new = subst (λ (z : State). sound M z ≡ true) (sym fresh-wide) (sound-fresh M) }

  kept-verdicts : KeepsVerdicts L M
  kept-verdicts = record {
    replies = λ asks e. ap (λ (z : State). replies_from M z asks) (sym fresh-wide) ∙ replies-same L M raised more (fresh_in L) fresh_both asks e;
    events = λ asks e. ap (λ (z : State). events_from M (sound M) z asks) (sym fresh-wide) ∙ events-same L M raised more (fresh_in L) fresh_both asks e;
  }

pub old_verdicts-kept : OldVerdictsKept
old_verdicts-kept = record {
  always = kept-verdicts;
  here = kept-verdicts first_limits limits (record { places = omega arith; names = omega arith; holds = refl });
  week = week_unmet;
}
