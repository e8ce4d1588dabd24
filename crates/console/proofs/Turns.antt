-- What is known of the bytes unread by what became of the front of a trace, with room for the longest verdict.
-- Assumes nothing.
use mathlib.Core.Path.{◌≡◌, refl, sym, ap, subst, ◌∙◌}
use mathlib.Core.Bool.{Bool, true, false, cond}
use mathlib.Core.List.{List}
use Prim.Native.Nat.{ℕ, ◌+◌, ◌-◌, ◌≤◌}
use native.Mathlib.Omega.{arith}
use lib.Dec.{ltb}
use lib.ListN.{length, take, drop, length-drop}
use lib.Seq.{length-take-le, take_all, drop-drop}
use borrow.Author.Tests.{ltb-true}
use Rattle.rules.specs.Step.{longest_verdict}
use Rattle.fields.specs.declared.Next.{Next}
use Rattle.fields.specs.declared.Next.TheVariants.{End, Torn, Record}
use Rattle.fields.specs.Fields.{next_of}
use Rattle.ledger.specs.declared.Ledger.{Ledger}
use Rattle.replay.specs.declared.Front.{Front}
use Rattle.replay.specs.declared.Front.TheVariants.{End as AtEnd, Torn as IsTorn, Full, Judged}
use Rattle.replay.specs.declared.Stepped.{Stepped}
use Rattle.replay.specs.Front.{Judgement, answer_bytes, unchanged, judged_with, record_step, step_at, front_step}
use Rattle.replay.specs.Replay.{Cut, cut_at, cut}
use Rattle.replay.proofs.Answers.{answer-fits}
use Rattle.replay.proofs.Cutting.{Found, next-found, cut-next}

-- it stops with all of the bytes unread, or goes on behind a record; never for want of room
abbrev pub Left : List ℕ → Front → Type 0
Left bs AtEnd = (cut bs).rest ≡ bs
Left bs IsTorn = (cut bs).rest ≡ bs
Left bs Full = ⊥
Left bs (Judged n k) = (3 ≤ n) × (n ≤ length bs) × ((cut bs).rest ≡ (cut (drop n bs)).rest)

module _ (l : Ledger) (bs out : List ℕ) (room : longest_verdict ≤ length out) where
  left_record : (n : ℕ) → Found bs (Record n) → (cut bs).rest ≡ (cut (drop n bs)).rest → (b : Bool) → ltb (length out) (length (answer_bytes l (take n bs))) ≡ b
      → Left bs (cond b (unchanged Full l out) (judged_with l (take n bs) out)).answer.front
  left_record n f e true long = let more = ltb-true (length out) (length (answer_bytes l (take n bs))) long in absurd (omega (arith, more, answer-fits l (take n bs), room))
  left_record n f e false short =
      let few = length-take-le n bs f.1 in
      (omega (arith, few, f.0), omega (arith, few, f.1), e ∙ ap (λ (m : ℕ). (cut (drop m bs)).rest) (sym few))

  left_at : (x : Next) → Found bs x → (cut bs).rest ≡ (cut_at x bs cut).rest → Left bs (step_at x l bs out).answer.front
  unfolding record_step
  left_at End f e = e
  left_at Torn f e = e
  left_at (Record n) f e = left_record n f e (ltb (length out) (length (answer_bytes l (take n bs)))) refl

  pub front_left : Left bs (front_step l bs out).answer.front
  unfolding front_step
  front_left = left_at (next_of bs) (next-found bs) (ap (λ (c : Cut). c.rest) (cut-next bs))

-- Between two records: the bytes unread are those of what is left, and there is room for the next verdict
pub record Going (trace verdict : List ℕ) (read : ℕ) : Type 0 where
  pub within : read ≤ length trace
  pub same : (cut trace).rest ≡ (cut (drop read trace)).rest
  pub room : longest_verdict ≡ length verdict

-- One turn: the front of what is left was judged
pub record Turn (trace verdict : List ℕ) (read : ℕ) (l : Ledger) (r : Stepped) (b : List ℕ) : Type 0 where
  pub going : Going trace verdict read
  pub stepped : front_step l (take (length trace - read) (drop read trace)) verdict ≡ record { answer = r; buffer = b }

module _ {trace verdict : List ℕ} {read : ℕ} {l : Ledger} {r : Stepped} {b : List ℕ} (t : Turn trace verdict read l r b) where
  as_many_lem : length (drop read trace) ≡ length trace - read
  as_many_lem = length-drop read trace

  left : Left (drop read trace) r.front
  left =
      subst (λ (j : Judgement). Left (drop read trace) j.answer.front)
      (ap (λ (bs : List ℕ). front_step l bs verdict) (sym (take_all (length trace - read) (drop read trace) (omega (arith, as_many_lem)))) ∙ t.stepped)
      (front_left l (drop read trace) verdict (omega (arith, t.going.room)))

  -- it stops
  unread : (f : Front) → Left (drop read trace) f → ((n k : ℕ) → f ≡ Judged n k → ⊥) → (cut (drop read trace)).rest ≡ drop read trace
  unread AtEnd e o = e
  unread IsTorn e o = e
  unread Full e o = absurd e
  unread (Judged n k) e o = absurd (o n k refl)

  pub stops : ((n k : ℕ) → r.front ≡ Judged n k → ⊥) → length trace - read ≡ length (cut trace).rest
  stops o = sym (ap length (t.going.same ∙ unread r.front left o) ∙ as_many_lem)

  -- it goes on
  module _ (n k : ℕ) (at : r.front ≡ Judged n k) where
    known : (3 ≤ n) × (n ≤ length (drop read trace)) × ((cut (drop read trace)).rest ≡ (cut (drop n (drop read trace))).rest)
    known = subst (Left (drop read trace)) at left

    pub some_read : 3 ≤ n
    some_read = known.0

    pub read_within_lem : read + n ≤ length trace
    read_within_lem = omega (arith, known.1, as_many_lem, t.going.within)

    pub goes_again : longest_verdict ≡ length b → Going trace b (read + n)
    goes_again room = record {
      within = read_within_lem;
      same = t.going.same ∙ known.2 ∙ ap (λ (bs : List ℕ). (cut bs).rest) (drop-drop n read trace);
      room = room;
    }
