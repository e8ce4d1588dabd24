-- The loop of `check_log`: one record more of the trace, beside what is left of the log.
-- Assumes nothing.
use mathlib.Core.Path.{◌≡◌, refl, sym, ap, subst, ◌∙◌}
use mathlib.Core.Bool.{Bool, true, false, cond, ◌&&◌}
use mathlib.Core.List.{List, flatten}
use Prim.Native.Nat.{ℕ, suc, ◌+◌, ◌-◌, ◌≤◌}
use native.Mathlib.Numerals.{add-one}
use native.Mathlib.Omega.{arith}
use lib.Dec.{ltb, eqb}
use lib.ListN.{length, take, drop, length-append, length-drop}
use lib.Seq.{length-take-le, take_all, take-append_seam, drop-drop}
use borrow.Author.Tests.{ltb-true, eq-eqb, ne_eqb}
use Rattle.std.specs.Prelude.{Option, None, Some}
use Rattle.fields.specs.declared.Next.{Next}
use Rattle.fields.specs.declared.Next.TheVariants.{End, Torn, Record}
use Rattle.fields.specs.Fields.{next_of, over}
use Rattle.rules.specs.Lists.{none}
use Rattle.rules.specs.Step.{longest_verdict}
use Rattle.rules.specs.Struck.{each}
use Rattle.rules.proofs.Typed.{length_none}
use Rattle.ledger.specs.declared.Ledger.{Ledger}
use Rattle.replay.specs.declared.Front.{Front}
use Rattle.replay.specs.declared.Front.TheVariants.{End as AtEnd, Torn as IsTorn, Full, Judged}
use Rattle.replay.specs.declared.Stepped.{Stepped}
use Rattle.replay.specs.Front.{Judgement, answer_bytes, unchanged, judged_with, record_step, step_at, front_step}
use Rattle.replay.specs.Replay.{Told, Cut, cut_at, cut}
use Rattle.replay.specs.Struck.{leaves}
use Rattle.replay.proofs.Answers.{answer-fits}
use Rattle.replay.proofs.Counts.{Fields, tell-fields}
use Rattle.replay.proofs.Cutting.{Found, next-found, cut-next}
use Rattle.replay.proofs.Struck.{tell-all}
use Rattle.log_check.specs.Check.{due, checked_of, is_prefix, ended_at}
use Rattle.log_check.proofs.InBytes.{in_bytes, in_bytes_lem}
use Rattle.log_check.proofs.Prefix.{prefix_split}

-- what is found from index i on, by the bytes of the log
abbrev pub found : ℕ → Ledger → List ℕ → List ℕ → Option ℕ
found i l trace log = in_bytes i (due l trace) (none (cut trace).rest) log

-- the verdicts due are fields: those of a run with room for all
due-fields : (l : Ledger) (trace : List ℕ) → Fields (due l trace)
due-fields l trace =
    let rs = (cut trace).records in
    let room = length (flatten (due l trace)) in
    subst (λ (t : Told). Fields t.verdicts) (tell-all rs l room (omega arith)) (tell-fields l room rs)

pub checked-found : (l : Ledger) (trace log : List ℕ) → checked_of l trace log ≡ found 0 l trace log
unfolding checked_of
checked-found l trace log = in_bytes_lem 0 (due l trace) (due-fields l trace) (none (cut trace).rest) log

-- What is found, by what became of the front of the trace with room for the longest verdict
abbrev Outcome : ℕ → Ledger → List ℕ → List ℕ → Judgement → Front → Type 0
Outcome i l bs log j AtEnd = found i l bs log ≡ cond (none log) None (Some i)
Outcome i l bs log j IsTorn = found i l bs log ≡ Some i
Outcome i l bs log j Full = ⊥
Outcome i l bs log j (Judged n k) =
    (3 ≤ n) × (n ≤ length bs) × (k ≤ length j.buffer)
    × (found i l bs log ≡ cond (is_prefix (take k j.buffer) log) (found (suc i) j.answer.ledger (drop n bs) (drop k log)) (Some i))

module _ (i : ℕ) (l : Ledger) (bs log out : List ℕ) (room : longest_verdict ≤ length out) where
  -- by how the trace is cut
  abbrev found_by : Cut → Option ℕ
  found_by c = in_bytes i (each leaves answer_bytes l c.records) (none c.rest) log

  -- a record of n bytes at the front
  outcome_record : (n : ℕ) → Found bs (Record n) → found i l bs log ≡ found_by (cut_at (Record n) bs cut) → (b : Bool) → ltb (length out) (length (answer_bytes l (take n bs))) ≡ b
      → (let j : Judgement = cond b (unchanged Full l out) (judged_with l (take n bs) out) in Outcome i l bs log j j.answer.front)
  unfolding each in_bytes
  outcome_record n f at true long = let more = ltb-true (length out) (length (answer_bytes l (take n bs))) long in absurd (omega (arith, more, answer-fits l (take n bs), room))
  outcome_record n f at false short =
      let v = answer_bytes l (take n bs) in
      let next = leaves l (take n bs) in
      let few = length-take-le n bs f.1 in (
        omega (arith, few, f.0),
        omega (arith, few, f.1),
        omega (arith, length-append v (drop (length v) out)),
        at ∙ ap (λ (w : List ℕ). cond (is_prefix w log) (found (suc i) next (drop n bs) (drop (length v) log)) (Some i)) (sym (take-append_seam v (drop (length v) out)))
            ∙ ap (λ (m : ℕ). cond (is_prefix (take (length v) (over v out)) log) (found (suc i) next (drop m bs) (drop (length v) log)) (Some i)) (sym few),
      )

  outcome_at : (x : Next) → Found bs x → found i l bs log ≡ found_by (cut_at x bs cut) → Outcome i l bs log (step_at x l bs out) (step_at x l bs out).answer.front
  unfolding record_step each in_bytes
  outcome_at End f e = e ∙ ap (λ (b : Bool). cond (b && none log) None (Some i)) (sym (length_none bs) ∙ eq-eqb (length bs) 0 f)
  outcome_at Torn f e = e ∙ ap (λ (b : Bool). cond (b && none log) None (Some i)) (sym (length_none bs) ∙ ne_eqb (length bs) 0 (omega (arith, f)))
  outcome_at (Record n) f e = outcome_record n f e (ltb (length out) (length (answer_bytes l (take n bs)))) refl

  front_outcome : Outcome i l bs log (front_step l bs out) (front_step l bs out).answer.front
  unfolding front_step
  front_outcome = outcome_at (next_of bs) (next-found bs) (ap found_by (cut-next bs))

-- The loop's invariant: what is left says what all says
pub record Invariant (l₀ : Ledger) (trace log verdict : List ℕ) (l : Ledger) (read agreed index : ℕ) : Type 0 where
  pub within : read ≤ length trace
  pub logged : agreed ≤ length log
  pub few : index ≤ read
  pub same : checked_of l₀ trace log ≡ found index l (drop read trace) (drop agreed log)
  pub room : longest_verdict ≡ length verdict

pub initially : (l : Ledger) (trace log verdict : List ℕ) → longest_verdict ≡ length verdict → Invariant l trace log verdict l 0 0 0
initially l trace log verdict e = record { within = omega arith; logged = omega arith; few = omega arith; same = checked-found l trace log; room = e }

-- One iteration: the front of what is left was judged
pub record Iteration (l₀ : Ledger) (trace log verdict : List ℕ) (l : Ledger) (read agreed index : ℕ) (r : Stepped) (b : List ℕ) : Type 0 where
  pub before : Invariant l₀ trace log verdict l read agreed index
  pub stepped : front_step l (take (length trace - read) (drop read trace)) verdict ≡ record { answer = r; buffer = b }

module _ {l₀ : Ledger} {trace log verdict : List ℕ} {l : Ledger} {read agreed index : ℕ} {r : Stepped} {b : List ℕ} (t : Iteration l₀ trace log verdict l read agreed index r b) where
  abbrev j : Judgement
  j = record { answer = r; buffer = b }

  rest-whole : (k : ℕ) (x : List ℕ) → take (length x - k) (drop k x) ≡ drop k x
  rest-whole k x = take_all (length x - k) (drop k x) (omega (arith, length-drop k x))

  outcome : Outcome index l (drop read trace) (drop agreed log) j r.front
  outcome =
      subst (λ (i : Judgement). Outcome index l (drop read trace) (drop agreed log) i i.answer.front)
      (ap (λ (bs : List ℕ). front_step l bs verdict) (sym (rest-whole read trace)) ∙ t.stepped)
      (front_outcome index l (drop read trace) (drop agreed log) verdict (omega (arith, t.before.room)))

  -- no record is judged any more
  pub at_exit : {x : Option ℕ} → ((n k : ℕ) → r.front ≡ Judged n k → ⊥) → x ≡ ended_at r.front (length log - agreed) index → x ≡ checked_of l₀ trace log
  at_exit {x} o e = e ∙ sym (t.before.same ∙ by r.front outcome o)
    where
      left-none : none (drop agreed log) ≡ eqb (length log - agreed) 0
      left-none = sym (length_none (drop agreed log)) ∙ ap (λ (n : ℕ). eqb n 0) (length-drop agreed log)

      by : (f : Front) → Outcome index l (drop read trace) (drop agreed log) j f → ((n k : ℕ) → f ≡ Judged n k → ⊥)
          → found index l (drop read trace) (drop agreed log) ≡ ended_at f (length log - agreed) index
      by AtEnd d o = d ∙ ap (λ (b : Bool). cond b None (Some index)) left-none
      by IsTorn d o = d
      by Full d o = absurd d
      by (Judged n k) d o = absurd (o n k refl)

  -- a record was judged
  module _ (n k : ℕ) (at : r.front ≡ Judged n k) where
    known : Outcome index l (drop read trace) (drop agreed log) j (Judged n k)
    known = subst (Outcome index l (drop read trace) (drop agreed log) j) at outcome

    pub some_read : 3 ≤ n
    some_read = known.0

    pub read_within_lem : read + n ≤ length trace
    read_within_lem = omega (arith, known.1, length-drop read trace, t.before.within)

    pub verdict-within : k ≤ length b
    verdict-within = known.2

    -- whether the log goes on with its verdict
    abbrev pub matches : Bool
    matches = is_prefix (take k b) (take (length log - agreed) (drop agreed log))

    asked : matches ≡ is_prefix (take k b) (drop agreed log)
    asked = ap (is_prefix (take k b)) (rest-whole agreed log)

    after : (c : Bool) → matches ≡ c → checked_of l₀ trace log ≡ cond c (found (suc index) r.ledger (drop n (drop read trace)) (drop k (drop agreed log))) (Some index)
    after c e =
        t.before.same ∙ known.3
        ∙ ap (λ (c : Bool). cond c (found (suc index) r.ledger (drop n (drop read trace)) (drop k (drop agreed log))) (Some index)) (sym asked ∙ e)

    pub differs : matches ≡ false → Some index ≡ checked_of l₀ trace log
    differs e = sym (after false e)

    pub logged-within : matches ≡ true → agreed + k ≤ length log
    logged-within e =
        let split = ap length (prefix_split (take k b) (drop agreed log) (sym asked ∙ e)) in
        omega (arith, split, length-append (take k b) (drop (length (take k b)) (drop agreed log)), length-take-le k b verdict-within, length-drop agreed log, t.before.logged)

    pub preserved : matches ≡ true → longest_verdict ≡ length b → Invariant l₀ trace log b r.ledger (read + n) (agreed + k) (index + 1)
    preserved e room = record {
      within = read_within_lem;
      logged = logged-within e;
      few = omega (arith, some_read, t.before.few);
      same = after true e ∙ (λ i. found (sym (add-one index) i) r.ledger (drop-drop n read trace i) (drop-drop k agreed log i));
      room = room;
    }
