-- A run is what becomes of the front of the trace, then the run over the rest with the room that is left.
-- Assumes nothing.
use mathlib.Core.Path.{◌≡◌, refl, sym, ap, ap₂, subst, ◌∙◌}
use mathlib.Core.Bool.{Bool, true, false, cond}
use mathlib.Core.List.{List, [], ◌∷◌, ◌++◌, flatten, append_assoc, append-nil}
use Prim.Native.Nat.{ℕ, ◌+◌, ◌-◌, ◌≤◌}
use native.Mathlib.Nat.{add-zero}
use native.Mathlib.Omega.{arith}
use lib.Dec.{ltb}
use lib.ListN.{length, take, drop, length-append, length-drop, drop_of_length-le}
use lib.Seq.{length-take-le, take_all, take-append-add, take-append_seam, drop-append-add, drop-append_seam, drop-drop}
use borrow.Author.Tests.{eq-eqb, ne_eqb}
use borrow.Rule.Slice.PartMut.{put_mid, same_len_mid}
use Rattle.fields.specs.declared.Next.{Next}
use Rattle.fields.specs.declared.Next.TheVariants.{End, Torn, Record}
use Rattle.fields.specs.Fields.{over, next_of}
use Rattle.rules.proofs.Typed.{length_none}
use Rattle.ledger.specs.declared.Ledger.{Ledger}
use Rattle.replay.specs.declared.Front.{Front}
use Rattle.replay.specs.declared.Front.TheVariants.{End as AtEnd, Torn as IsTorn, Full as NoRoom, Judged}
use Rattle.replay.specs.declared.Stepped.{Stepped}
use Rattle.replay.specs.declared.Ending.{Ending}
use Rattle.replay.specs.declared.Ending.TheVariants.{Whole, Torn as EndsTorn, Full}
use Rattle.replay.specs.Front.{answer_to, answer_bytes, Judgement, unchanged, judged_with, record_step, step_at, front_step}
use Rattle.replay.specs.Replay.{Cut, cut_at, cut, Told, tell, Replay, ending_of, ending_at, replayed, replay_of}
use Rattle.replay.proofs.Cutting.{Found, next-found, cut-next}

-- a run that ends at once
abbrev pub stopped : Ending → Ledger → List ℕ → Replay
stopped e l out = record { answer = record { ending = e; ledger = l; read = 0; written = 0 }; buffer = out }

-- a run behind bytes that were read and written before
abbrev pub behind : ℕ → ℕ → List ℕ → Replay → Replay
behind n k front r = record {
  answer = record { ending = r.answer.ending; ledger = r.answer.ledger; read = n + r.answer.read; written = k + r.answer.written };
  buffer = front ++ r.buffer;
}

alone : (r : Replay) → r ≡ behind 0 0 [] r
alone r = λ i. record { answer = record { ending = r.answer.ending; ledger = r.answer.ledger; read = read i; written = written i }; buffer = r.buffer }
  where
    read : r.answer.read ≡ 0 + r.answer.read
    read = omega arith

    written : r.answer.written ≡ 0 + r.answer.written
    written = omega arith

pub behind-behind : (a b n k : ℕ) (f g : List ℕ) (r : Replay) → behind a b f (behind n k g r) ≡ behind (a + n) (b + k) (f ++ g) r
behind-behind a b n k f g r = λ i. record {
  answer = record {
    ending = r.answer.ending;
    ledger = r.answer.ledger;
    read = read i;
    written = written i;
  };
  buffer = sym (append_assoc f g r.buffer) i;
}
  where
    read : a + (n + r.answer.read) ≡ a + n + r.answer.read
    read = omega arith

    written : b + (k + r.answer.written) ≡ b + k + r.answer.written
    written = omega arith

-- how a run goes on from what became of the front
abbrev pub goes_on : Judgement → List ℕ → Front → Replay
goes_on j bs AtEnd = stopped Whole j.answer.ledger j.buffer
goes_on j bs IsTorn = stopped EndsTorn j.answer.ledger j.buffer
goes_on j bs NoRoom = stopped Full j.answer.ledger j.buffer
goes_on j bs (Judged n k) = behind n k (take k j.buffer) (replay_of j.answer.ledger (drop n bs) (drop k j.buffer))

-- and what is known where it goes on
abbrev pub Goes : Judgement → List ℕ → Front → Type 0
Goes j bs AtEnd = Unit {0}
Goes j bs IsTorn = Unit {0}
Goes j bs NoRoom = Unit {0}
Goes j bs (Judged n k) = (3 ≤ n) × (n ≤ length bs) × (k ≤ length j.buffer)

-- bytes laid over the start, then others over the rest
over-behind : (v w out : List ℕ) → over (v ++ w) out ≡ take (length v) (over v out) ++ over w (drop (length v) (over v out))
over-behind v w out =
    append_assoc v w (drop (length (v ++ w)) out)
    ∙ ap₂ (λ (x y : List ℕ). x ++ (w ++ y)) (sym (take-append_seam v (drop (length v) out))) tail
  where
    tail : drop (length (v ++ w)) out ≡ drop (length w) (drop (length v) (over v out))
    tail =
        ap (λ (k : ℕ). drop k out) (length-append v w) ∙ sym (drop-drop (length w) (length v) out)
        ∙ ap (drop (length w)) (sym (drop-append_seam v (drop (length v) out)))

-- a record whose verdict had room, and what came of the rest
first-told : (v r : List ℕ) (t : Told) (c : Cut) (out : List ℕ)
    → replayed (record { ledger = t.ledger; verdicts = v ∷ t.verdicts; full = t.full }) (record { records = r ∷ c.records; rest = c.rest }) out
    ≡ behind (length r) (length v) (take (length v) (over v out)) (replayed t c (drop (length v) (over v out)))
unfolding flatten
first-told v r t c out = λ i. record {
  answer = record {
    ending = ending_of t.full c.rest;
    ledger = t.ledger;
    read = length-append r (flatten (take (length t.verdicts) c.records)) i;
    written = length-append v (flatten t.verdicts) i;
  };
  buffer = over-behind v (flatten t.verdicts) out i;
}

-- the room behind a verdict
room-behind : (v out : List ℕ) → length (drop (length v) (over v out)) ≡ length out - length v
room-behind v out = ap length (drop-append_seam v (drop (length v) out)) ∙ length-drop (length v) out

module _ (l : Ledger) (bs out : List ℕ) where
  -- a whole record of n bytes at the front
  record_next : (n : ℕ) → n ≤ length bs → (b : Bool)
      → replayed
      (cond b (record { ledger = l; verdicts = []; full = true })
      (record {
        ledger = (tell (answer_to l (take n bs)).ledger (length out - length (answer_bytes l (take n bs))) (cut (drop n bs)).records).ledger;
        verdicts = answer_bytes l (take n bs) ∷ (tell (answer_to l (take n bs)).ledger (length out - length (answer_bytes l (take n bs))) (cut (drop n bs)).records).verdicts;
        full = (tell (answer_to l (take n bs)).ledger (length out - length (answer_bytes l (take n bs))) (cut (drop n bs)).records).full;
      }))
      (cut_at (Record n) bs cut) out
      ≡ (let j : Judgement = cond b (unchanged NoRoom l out) (judged_with l (take n bs) out) in goes_on j bs j.answer.front)
  unfolding flatten replay_of
  record_next n h true = refl
  record_next n h false =
      let r = take n bs in
      let v = answer_bytes l r in
      let next = (answer_to l r).ledger in
      let rest = drop (length v) (over v out) in
      let few = length-take-le n bs h in
      first-told v r (tell next (length out - length v) (cut (drop n bs)).records) (cut (drop n bs)) out
      ∙ ap (λ (m : ℕ). behind (length r) (length v) (take (length v) (over v out)) (replayed (tell next m (cut (drop n bs)).records) (cut (drop n bs)) rest)) (sym (room-behind v out))
      ∙ ap (λ (m : ℕ). behind (length r) (length v) (take (length v) (over v out)) (replay_of next (drop m bs) rest)) (sym few)

  at_front : (x : Next) → Found bs x
      → replayed (tell l (length out) (cut_at x bs cut).records) (cut_at x bs cut) out ≡ goes_on (step_at x l bs out) bs (step_at x l bs out).answer.front
  unfolding tell flatten record_step
  at_front End f = rw (← length_none bs, eq-eqb (length bs) 0 f)
  at_front Torn f = rw (← length_none bs, ne_eqb (length bs) 0 (omega (arith, f)))
  at_front (Record n) f = record_next n f.1 (ltb (length out) (length (answer_bytes l (take n bs))))

  pub run-next : replay_of l bs out ≡ goes_on (front_step l bs out) bs (front_step l bs out).answer.front
  unfolding replay_of front_step
  run-next =
      ap (λ (c : Cut). replayed (tell l (length out) c.records) c out) (cut-next bs)
      ∙ at_front (next_of bs) (next-found bs)

  -- what is known where it goes on
  goes_record : (n : ℕ) → Found bs (Record n) → (b : Bool) → ltb (length out) (length (answer_bytes l (take n bs))) ≡ b
      → (let j : Judgement = cond b (unchanged NoRoom l out) (judged_with l (take n bs) out) in Goes j bs j.answer.front)
  goes_record n f true e = tt
  goes_record n f false e =
      let v = answer_bytes l (take n bs) in
      let few = length-take-le n bs f.1 in
      (omega (arith, few, f.0), omega (arith, few, f.1), omega (arith, length-append v (drop (length v) out)))

  goes_at : (x : Next) → Found bs x → Goes (step_at x l bs out) bs (step_at x l bs out).answer.front
  unfolding record_step
  goes_at End f = tt
  goes_at Torn f = tt
  goes_at (Record n) f = goes_record n f (ltb (length out) (length (answer_bytes l (take n bs)))) refl

  pub front_goes : Goes (front_step l bs out) bs (front_step l bs out).answer.front
  unfolding front_step
  front_goes = goes_at (next_of bs) (next-found bs)

-- Between two records: what is left says what all says
pub record Going (l₀ : Ledger) (trace out₀ out : List ℕ) (l : Ledger) (read written : ℕ) : Type 0 where
  pub same : replay_of l₀ trace out₀ ≡ behind read written (take written out) (replay_of l (drop read trace) (drop written out))
  pub within : read ≤ length trace
  pub room : written ≤ length out
  pub long : length out ≡ length out₀

-- One turn: the front of what is left was judged, with the output from its middle on
pub record Turn (l₀ : Ledger) (trace out₀ out : List ℕ) (l : Ledger) (read written : ℕ) (r : Stepped) (b : List ℕ) : Type 0 where
  pub going : Going l₀ trace out₀ out l read written
  pub stepped : front_step l (take (length trace - read) (drop read trace)) (take (length out - written) (drop written out)) ≡ record { answer = r; buffer = b }
  pub kept : length b ≡ length (take (length out - written) (drop written out))

module _ {l₀ : Ledger} {trace out₀ out : List ℕ} {l : Ledger} {read written : ℕ} {r : Stepped} {b : List ℕ} (t : Turn l₀ trace out₀ out l read written r b) where
  abbrev pub j : Judgement
  j = record { answer = r; buffer = b }

  whole : (k : ℕ) (x : List ℕ) → take (length x - k) (drop k x) ≡ drop k x
  whole k x = take_all (length x - k) (drop k x) (omega (arith, length-drop k x))

  judged-rest : front_step l (drop read trace) (drop written out) ≡ j
  judged-rest = sym (ap₂ (front_step l) (whole read trace) (whole written out)) ∙ t.stepped

  as_many_lem : length b ≡ length out - written
  as_many_lem = t.kept ∙ ap length (whole written out) ∙ length-drop written out

  -- the output with the rest put back
  abbrev pub now : List ℕ
  now = put_mid written (length out - written) out b

  put_back : now ≡ take written out ++ b
  put_back =
      ap (λ (x : List ℕ). take written out ++ (b ++ x)) (drop_of_length-le (drop written out) {i = length out - written} (omega (arith, length-drop written out)))
      ∙ ap (λ (x : List ℕ). take written out ++ x) (append-nil b)

  went : replay_of l₀ trace out₀ ≡ behind read written (take written out) (goes_on j (drop read trace) r.front)
  went =
      t.going.same
      ∙ ap (behind read written (take written out))
      (run-next l (drop read trace) (drop written out) ∙ ap (λ (i : Judgement). goes_on i (drop read trace) i.answer.front) judged-rest)

  -- it stops
  ends : (f : Front) (x : Ending) → r.front ≡ f → goes_on j (drop read trace) f ≡ stopped x r.ledger b
      → replay_of l₀ trace out₀ ≡ record { answer = record { ending = x; ledger = r.ledger; read = read; written = written }; buffer = now }
  ends f x at end =
      went ∙ ap (λ (f : Front). behind read written (take written out) (goes_on j (drop read trace) f)) at ∙ ap (behind read written (take written out)) end
      ∙ (λ i. record { answer = record { ending = x; ledger = r.ledger; read = add-zero read i; written = add-zero written i }; buffer = sym put_back i })

  pub stops : {x : Ending} → ((n k : ℕ) → r.front ≡ Judged n k → ⊥) → x ≡ ending_at r.front
      → replay_of l₀ trace out₀ ≡ record { answer = record { ending = x; ledger = r.ledger; read = read; written = written }; buffer = now }
  stops {x} o e = by r.front refl o e
    where
      by : (f : Front) → r.front ≡ f → ((n k : ℕ) → f ≡ Judged n k → ⊥) → x ≡ ending_at f
          → replay_of l₀ trace out₀ ≡ record { answer = record { ending = x; ledger = r.ledger; read = read; written = written }; buffer = now }
      by AtEnd at o e = ends AtEnd x at (ap (λ (y : Ending). stopped y r.ledger b) (sym e))
      by IsTorn at o e = ends IsTorn x at (ap (λ (y : Ending). stopped y r.ledger b) (sym e))
      by NoRoom at o e = ends NoRoom x at (ap (λ (y : Ending). stopped y r.ledger b) (sym e))
      by (Judged n k) at o e = absurd (o n k refl)

  -- it goes on
  module _ (n k : ℕ) (at : r.front ≡ Judged n k) where
    known : (3 ≤ n) × (n ≤ length (drop read trace)) × (k ≤ length b)
    known = subst (Goes j (drop read trace)) at (subst (λ (i : Judgement). Goes i (drop read trace) i.answer.front) judged-rest (front_goes l (drop read trace) (drop written out)))

    pub some_read : 3 ≤ n
    some_read = known.0

    pub read_within_lem : read + n ≤ length trace
    read_within_lem = omega (arith, known.1, length-drop read trace, t.going.within)

    pub written-within : written + k ≤ length out
    written-within = omega (arith, known.2, as_many_lem, t.going.room)

    before : length (take written out) ≡ written
    before = length-take-le written out t.going.room

    taken : take (written + k) now ≡ take written out ++ take k b
    taken = ap (take (written + k)) put_back ∙ ap (λ (m : ℕ). take (m + k) (take written out ++ b)) (sym before) ∙ take-append-add (take written out) b k

    dropped : drop (written + k) now ≡ drop k b
    dropped =
        ap (drop (written + k)) put_back ∙ ap (λ (m : ℕ). drop (m + k) (take written out ++ b)) (sym before) ∙ drop-append-add (take written out) b k

    pub goes_again : Going l₀ trace out₀ now r.ledger (read + n) (written + k)
    goes_again = record {
      same =
          went ∙ ap (λ (f : Front). behind read written (take written out) (goes_on j (drop read trace) f)) at
          ∙ behind-behind read written n k (take written out) (take k b) (replay_of r.ledger (drop n (drop read trace)) (drop k b))
          ∙ (λ i. behind (read + n) (written + k) (sym taken i) (replay_of r.ledger (further i) (sym dropped i)));
      within = read_within_lem;
      room = omega (arith, written-within, long);
      long = long ∙ t.going.long;
    }
      where
        long : length now ≡ length out
        long = same_len_mid written (length out - written) out b t.kept

        further : drop n (drop read trace) ≡ drop (read + n) trace
        further = drop-drop n read trace
