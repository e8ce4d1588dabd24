-- A trace without some refused records: it is cut into the others, and each of them finds the ledger that it found.
-- Assumes nothing.
use mathlib.Core.Path.{◌≡◌, refl, sym, ap, ◌∙◌}
use mathlib.Core.Logic.{⊎_elim}
use mathlib.Core.Bool.{Bool, true, false, not, cond, ◌||◌, true≢false}
use mathlib.Core.List.Memᴰ
use mathlib.Core.List.{List, [], ◌∷◌, ◌++◌, flatten, append-nil}
use Prim.Native.Nat.{ℕ, zero, suc, ◌-◌, ◌≤◌}
use native.Mathlib.Omega.{arith}
use lib.Dec.{eqb, ltb}
use lib.ListN.{length, take, drop, length-append, length-drop, take-append-drop}
use lib.Seq.{length-take-le, take-length, take-append-le, drop-append-le}
use borrow.Author.Tests.{eqb-false, ltb-false, le-ltb, ne_eqb, not-true}
use Rattle.fields.specs.declared.Next.{Next}
use Rattle.fields.specs.declared.Next.TheVariants.{End, Torn, Record}
use Rattle.fields.specs.Fields.{claimed, next_of, over}
use Rattle.fields.proofs.Fields.{next-whole}
use Rattle.rules.specs.Lists.{◌∈◌, all, none}
use Rattle.rules.specs.Request.{Unreadable}
use Rattle.rules.specs.Step.{code}
use Rattle.rules.specs.Struck.{Strikable, each, others, refusals, within}
use Rattle.rules.proofs.Lists.{and_both, or_right}
use Rattle.rules.proofs.Struck.{after, after-others, each-others, length-each, strikable}
use Rattle.records.specs.Steps.{decode_step}
use Rattle.ledger.specs.declared.Ledger.{Ledger}
use Rattle.ledger.specs.declared.StepAnswer.{StepAnswer}
use Rattle.ledger.specs.Ledger.{is_sound}
use Rattle.ledger.proofs.AnyLedger.{judged-unsound, no_step-refused, number-refused, number_on}
use Rattle.replay.specs.declared.Ending.TheVariants.{Whole}
use Rattle.replay.specs.Front.{answer_bytes}
use Rattle.replay.specs.Replay.{Cut, Told, cut, cut_at, cut_for, replay_of, replayed, tell}
use Rattle.replay.specs.Struck.{StrikesOnBytes, Unstruck, is_refused, leaves, others_verdicts, refused_in, run_left, struck}
use Rattle.replay.proofs.Counts.{Fields, cut-fields, ends_whole, tells}
use Rattle.replay.proofs.Cutting.{Found, cut-joined, next-found}

-- ---- what is left of a list

module _ {A : Type 0} where
  others_in_lem : (marks : List Bool) {x : A} (l : List A) → x ∈ others marks l → x ∈ l
  unfolding others
  others_in_lem [] l i = i
  others_in_lem (b ∷ bs) [] i = i
  others_in_lem (true ∷ bs) (y ∷ ys) i = Memᴰ.tail (others_in_lem bs ys i)
  others_in_lem (false ∷ bs) {x} (y ∷ ys) i = ⊎_elim (λ e. Memᴰ.head e) (λ j. Memᴰ.tail (others_in_lem bs ys j)) (Memᴰ.cases_cons i)

others-short : (marks : List Bool) (l : List (List ℕ)) → length (flatten (others marks l)) ≤ length (flatten l)
unfolding others flatten
others-short [] l = omega arith
others-short (b ∷ bs) [] = omega arith
others-short (true ∷ bs) (x ∷ xs) = omega (arith, others-short bs xs, length-append x (flatten xs))
others-short (false ∷ bs) (x ∷ xs) = omega (arith, others-short bs xs, length-append x (flatten xs), length-append x (flatten (others bs xs)))

-- ---- the records of a trace are fields

-- what the front claims does not depend on what is behind it
claimed_front : (p q : List ℕ) → 3 ≤ length p → claimed (p ++ q) ≡ claimed p
claimed_front p q h = rw (drop-append-le 1 p q (omega arith), take-append-le 2 (drop 1 p) q (omega (arith, length-drop 1 p)))

front_field : (bs rest : List ℕ) (n : ℕ) → Found bs (Record n) → next_of (take n bs ++ rest) ≡ Record (length (take n bs))
front_field bs rest n c =
    let long = length-take-le n bs c.1 in
    let three : 3 ≤ length (take n bs) = omega (arith, long, c.2) in
    let same : claimed (take n bs ++ rest) ≡ claimed bs = claimed_front (take n bs) rest three ∙ sym (claimed_front (take n bs) (drop n bs) three) ∙ ap claimed (take-append-drop n bs) in
    next-whole (take n bs ++ rest) (omega (arith, same, long, c.2, length-append (take n bs) rest)) ∙ ap Record (omega (arith, same, long, c.2))

cut_are_fields : (k : ℕ) (bs : List ℕ) → Fields (cut_for k bs).records
unfolding cut_for
cut_are_fields zero bs = λ v i. absurd (Memᴰ.not-nil i)
cut_are_fields (suc k) bs = by (cut_are_fields k) (next_of bs) (next-found bs)
  where
    by : ((r : List ℕ) → Fields (cut_for k r).records) → (x : Next) → Found bs x → Fields (cut_at x bs (cut_for k)).records
    by more End c = λ v i. absurd (Memᴰ.not-nil i)
    by more Torn c = λ v i. absurd (Memᴰ.not-nil i)
    by more (Record n) c = λ v i rest. ⊎_elim
        (λ e. ap (λ (w : List ℕ). next_of (w ++ rest)) e ∙ front_field bs rest n c ∙ ap (λ (w : List ℕ). Record (length w)) (sym e))
        (λ j. more (drop n bs) v j rest) (Memᴰ.cases_cons i)

-- ---- a refused record

not-zero : (n : ℕ) → not (eqb n 0) ≡ true → n ≡ 0 → ⊥
not-zero n e = eqb-false n 0 (not-true _ e)

refused-stays : (l : Ledger) (r : List ℕ) → is_refused l r ≡ true → leaves l r ≡ l
refused-stays l r e = ap (λ (a : StepAnswer). a.ledger) (number-refused l (decode_step r) (not-zero _ e))

no_step_lem : (l : Ledger) (r : List ℕ) → decode_step r ≡ Unreadable → is_refused l r ≡ true
no_step_lem l r e = ap not (ne_eqb _ 0 (λ z. no_step-refused l (sym (ap (number_on l) e) ∙ z)))

-- on a ledger that is not sound every record is refused, and leaves it
all-refused : (l : Ledger) → is_sound l ≡ false → (rs : List (List ℕ)) (marks : List Bool) → within marks (refusals leaves is_refused l rs) ≡ true
unfolding each within
all-refused l e rs [] = refl
all-refused l e [] (b ∷ bs) = refl
all-refused l e (r ∷ rs) (b ∷ bs) =
    let no : is_refused l r ≡ true = ap (λ (a : StepAnswer). not (eqb (code a.verdict.answer) 0)) (judged-unsound l (decode_step r) e) in
    and_both (not b || is_refused l r) (within bs (refusals leaves is_refused (leaves l r) rs)) (or_right (not b) (is_refused l r) no)
    (ap (λ (k : Ledger). within bs (refusals leaves is_refused k rs)) (refused-stays l r no) ∙ all-refused l e rs bs)

-- ---- records told one after another, with room

-- what all are told, with room for every verdict
abbrev pub told_all : Ledger → List (List ℕ) → Told
told_all l rs = record { ledger = after leaves l rs; verdicts = each leaves answer_bytes l rs; full = false }

pub tell-all : (rs : List (List ℕ)) (l : Ledger) (room : ℕ) → length (flatten (each leaves answer_bytes l rs)) ≤ room → tell l room rs ≡ told_all l rs
unfolding tell each after flatten
tell-all [] l room h = refl
tell-all (r ∷ rs) l room h =
    let v = answer_bytes l r in
    let long = length-append v (flatten (each leaves answer_bytes (leaves l r) rs)) in
    let more = tell-all rs (leaves l r) (room - length v) (omega (arith, long, h)) in
    rw (le-ltb room (length v) (omega (arith, long, h))) (λ i. record { ledger = (more i).ledger; verdicts = v ∷ (more i).verdicts; full = (more i).full })

-- where no verdict lacked room there was room for every one
pub room_for_all : (rs : List (List ℕ)) (l : Ledger) (room : ℕ) → (tell l room rs).full ≡ false → length (flatten (each leaves answer_bytes l rs)) ≤ room
unfolding tell each flatten
room_for_all [] l room f = omega arith
room_for_all (r ∷ rs) l room f = by (ltb room (length v)) refl (room_for_all rs (leaves l r) (room - length v)) f
  where
    v : List ℕ
    v = answer_bytes l r

    more : Told
    more = tell (leaves l r) (room - length v) rs

    rest : List ℕ
    rest = flatten (each leaves answer_bytes (leaves l r) rs)

    by : (b : Bool) → ltb room (length v) ≡ b → (more.full ≡ false → length rest ≤ room - length v)
        → (cond {A = Told} b (record { ledger = l; verdicts = []; full = true }) (record { ledger = more.ledger; verdicts = v ∷ more.verdicts; full = more.full })).full ≡ false
        → length (v ++ rest) ≤ room
    by true e g f = absurd (true≢false f)
    by false e g f = omega (arith, ltb-false room (length v) e, g f, length-append v rest)

-- ---- a trace without some of its records

module _ (l : Ledger) (trace out : List ℕ) (whole : (replay_of l trace out).answer.ending ≡ Whole) where
  abbrev records : List (List ℕ)
  records = (cut trace).records

  abbrev told : Told
  told = tell l (length out) records

  ends : (told.full ≡ false) × ((cut trace).rest ≡ [])
  unfolding replay_of
  ends = ends_whole told.full (cut trace).rest whole

  all_told : told ≡ told_all l records
  all_told = tell-all records l (length out) (room_for_all records l (length out) ends.0)

  -- it is cut into the others
  cut-struck : (marks : List Bool) → cut (struck marks trace) ≡ record { records = others marks records; rest = [] }
  cut-struck marks = cut-fields (others marks records) (λ v i. cut_are_fields (length trace) trace v (others_in_lem marks records i))

  module _ (marks : List Bool) (only : within marks (refused_in l trace) ≡ true) where
    -- the others are told what they were told
    others-told : told_all l (others marks records) ≡ record { ledger = told.ledger; verdicts = others marks told.verdicts; full = false }
    others-told =
        let verdicts = each-others leaves is_refused refused-stays answer_bytes l marks records only in
        let ledger = after-others leaves is_refused refused-stays l marks records only in
        (λ i. record { ledger = ledger i; verdicts = verdicts i; full = false })
        ∙ ap (λ (t : Told). record { ledger = t.ledger; verdicts = others marks t.verdicts; full = false }) (sym all_told)

    same : (room : List ℕ) → length (others_verdicts l trace out marks) ≤ length room → replay_of l (struck marks trace) room ≡ run_left l trace out marks room
    unfolding replay_of none
    same room h =
        let rs = others marks records in
        let vs = others marks told.verdicts in
        let written = ap (λ (t : Told). length (flatten t.verdicts)) others-told in
        let long = ap (λ (t : Told). length t.verdicts) (sym others-told) ∙ length-each leaves answer_bytes l rs in
        let read : take (length vs) rs ≡ rs = ap (λ (k : ℕ). take k rs) long ∙ take-length rs in
        ap (λ (c : Cut). replayed (tell l (length room) c.records) c room) (cut-struck marks)
        ∙ ap (λ (t : Told). replayed t (record { records = rs; rest = [] }) room) (tell-all rs l (length room) (omega (arith, written, h)) ∙ others-told)
        ∙ ap (λ (us : List (List ℕ)). record {
          answer = record { ending = Whole; ledger = told.ledger; read = length (flatten us); written = length (flatten vs) };
          buffer = over (flatten vs) room;
        }) read

  struck_marks : Strikable leaves is_refused l records
  struck_marks = strikable leaves is_refused refused-stays l records

  -- records that are all there are the trace
  joined : flatten records ≡ trace
  joined = sym (append-nil (flatten records)) ∙ ap (λ (x : List ℕ). flatten records ++ x) (sym ends.1) ∙ cut-joined trace

  unstruck : Unstruck l trace out
  unstruck = record {
    same = λ marks only room h. same marks only room (omega (arith, h));
    fits = λ marks. omega (arith, others-short marks told.verdicts, (tells l (length out) records).fits);
    nothing = λ e marks only. ap flatten (struck_marks.nothing e marks only) ∙ joined;
    every = struck_marks.every;
    none_left = ap (λ (c : Cut). all not (refusals leaves is_refused l c.records)) (cut-struck (refused_in l trace)) ∙ struck_marks.none_left;
  }

pub strikes_on_bytes_lem : StrikesOnBytes
strikes_on_bytes_lem = record { unstruck = unstruck; no_step = no_step_lem; unsound = λ l trace e marks. all-refused l e (cut trace).records marks }
