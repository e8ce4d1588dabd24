-- The counts of a run are the bytes of the records answered and of the verdicts written.
-- Assumes nothing.
use mathlib.Core.Path.{◌≡◌, refl, sym, ap, ◌∙◌}
use mathlib.Core.Bool.{Bool, true, false, cond, false≢true}
use mathlib.Core.Logic.{⊎_elim}
use mathlib.Core.List.Memᴰ
use mathlib.Core.List.{List, [], ◌∷◌, ◌++◌, flatten, append_assoc, append-nil}
use Prim.Native.Nat.{ℕ, zero, suc, ◌-◌, ◌≤◌}
use native.Mathlib.Omega.{arith}
use lib.Dec.{ltb}
use lib.ListN.{length, take, drop, length-append, length-drop}
use lib.Seq.{length-take-le, take-length, take-append_seam, drop-append_seam}
use borrow.Author.Tests.{ltb-false}
use Rattle.fields.specs.declared.Next.{Next}
use Rattle.fields.specs.declared.Next.TheVariants.{Record}
use Rattle.fields.specs.Fields.{next_of}
use Rattle.rules.specs.Lists.{◌∈◌, none}
use Rattle.ledger.specs.declared.Ledger.{Ledger}
use Rattle.replay.specs.declared.Ending.{Ending}
use Rattle.replay.specs.declared.Ending.TheVariants.{Whole, Torn, Full}
use Rattle.replay.specs.Front.{answer_to, answer_bytes}
use Rattle.replay.specs.Replay.{Told, tell, Cut, cut_at, cut_for, cut, ending_of, replay_of}
use Rattle.replay.specs.Counts.{verdicts_of, answered, Counted}
use Rattle.replay.proofs.Cutting.{cut-joined, cut-next}
use Rattle.replay.proofs.Answers.{verdict-next, answer-fits}

-- what the records are told: no more verdicts than records, no more bytes than room, and all where none lacked room
pub record Ample (room : ℕ) (rs : List (List ℕ)) (t : Told) : Type 0 where
  pub few : length t.verdicts ≤ length rs
  pub fits : length (flatten t.verdicts) ≤ room
  pub each : t.full ≡ false → length t.verdicts ≡ length rs

pub tells : (l : Ledger) (room : ℕ) (rs : List (List ℕ)) → Ample room rs (tell l room rs)
unfolding tell flatten
tells l room [] = record { few = omega arith; fits = omega arith; each = λ e. refl }
tells l room (r ∷ rs) = by (ltb room (length v)) refl (tells (answer_to l r).ledger (room - length v) rs)
  where
    v : List ℕ
    v = answer_bytes l r

    more : Told
    more = tell (answer_to l r).ledger (room - length v) rs

    by : (b : Bool) → ltb room (length v) ≡ b → Ample (room - length v) rs more
        → Ample room (r ∷ rs) (cond b (record { ledger = l; verdicts = []; full = true }) (record { ledger = more.ledger; verdicts = v ∷ more.verdicts; full = more.full }))
    by true e m = record { few = omega arith; fits = omega arith; each = λ f. absurd (false≢true (sym f)) }
    by false e m = record {
      few = omega (arith, m.few);
      fits = omega (arith, m.fits, length-append v (flatten more.verdicts), ltb-false room (length v) e);
      each = λ f. ap suc (m.each f);
    }

-- fields one behind the other are cut apart again
abbrev pub Fields : List (List ℕ) → Type 0
Fields vs = (v : List ℕ) → v ∈ vs → (rest : List ℕ) → next_of (v ++ rest) ≡ Record (length v)

pub cut-fields : (vs : List (List ℕ)) → Fields vs → cut (flatten vs) ≡ record { records = vs; rest = [] }
unfolding flatten cut_for
cut-fields [] f = refl
cut-fields (v ∷ vs) f =
    cut-next (v ++ flatten vs) ∙ ap (λ (x : Next). cut_at x (v ++ flatten vs) cut) (f v (Memᴰ.head refl) (flatten vs))
    ∙ (λ i. record {
      records = take-append_seam v (flatten vs) i ∷ (cut (drop-append_seam v (flatten vs) i)).records;
      rest = (cut (drop-append_seam v (flatten vs) i)).rest;
    })
    ∙ ap (λ (c : Cut). record { records = v ∷ c.records; rest = c.rest }) (cut-fields vs (λ w i. f w (Memᴰ.tail i)))

-- every verdict is a field
pub tell-fields : (l : Ledger) (room : ℕ) (rs : List (List ℕ)) → Fields (tell l room rs).verdicts
unfolding tell
tell-fields l room [] = λ v i. absurd (Memᴰ.not-nil i)
tell-fields l room (r ∷ rs) = by (ltb room (length (answer_bytes l r))) (tell-fields (answer_to l r).ledger (room - length (answer_bytes l r)) rs)
  where
    more : Told
    more = tell (answer_to l r).ledger (room - length (answer_bytes l r)) rs

    first : (rest : List ℕ) → next_of (answer_bytes l r ++ rest) ≡ Record (length (answer_bytes l r))
    first rest = verdict-next (answer_to l r).verdict rest (answer-fits l r)

    by : (b : Bool) → Fields more.verdicts
        → Fields (cond {A = Told} b (record { ledger = l; verdicts = []; full = true }) (record { ledger = more.ledger; verdicts = answer_bytes l r ∷ more.verdicts; full = more.full })).verdicts
    by true f = λ v i. absurd (Memᴰ.not-nil i)
    by false f = λ v i rest. ⊎_elim (λ e. ap (λ (w : List ℕ). next_of (w ++ rest)) e ∙ first rest ∙ ap (λ (w : List ℕ). Record (length w)) (sym e)) (λ j. f v j rest) (Memᴰ.cases_cons i)

-- the first records, and the others
first-joined : (k : ℕ) (rs : List (List ℕ)) → flatten (take k rs) ++ flatten (drop k rs) ≡ flatten rs
unfolding flatten
first-joined zero rs = refl
first-joined (suc k) [] = refl
first-joined (suc k) (r ∷ rs) = append_assoc r (flatten (take k rs)) (flatten (drop k rs)) ∙ ap (λ (x : List ℕ). r ++ x) (first-joined k rs)

abbrev is_whole : Ending → Bool
is_whole Whole = true
is_whole Torn = false
is_whole Full = false

-- a run ends whole where no verdict lacked room and nothing is left
pub ends_whole : (full : Bool) (rest : List ℕ) → ending_of full rest ≡ Whole → (full ≡ false) × (rest ≡ [])
unfolding none
ends_whole true rest e = absurd (false≢true (ap is_whole e))
ends_whole false [] e = (refl, refl)
ends_whole false (b ∷ rest) e = absurd (false≢true (ap is_whole e))

module _ (l : Ledger) (trace out : List ℕ) where
  abbrev records : List (List ℕ)
  records = (cut trace).records

  abbrev rest : List ℕ
  rest = (cut trace).rest

  told : Ample (length out) records (tell l (length out) records)
  told = tells l (length out) records

  -- the bytes behind the records answered
  abbrev behind : List ℕ
  behind = flatten (drop (length (verdicts_of l trace out)) records) ++ rest

  begins : flatten (answered l trace out) ++ behind ≡ trace
  begins =
      let k = length (verdicts_of l trace out) in
      sym (append_assoc (flatten (answered l trace out)) (flatten (drop k records)) rest) ∙ ap (λ (x : List ℕ). x ++ rest) (first-joined k records) ∙ cut-joined trace

  -- where every record is answered and nothing is left, they are the trace
  whole : length (verdicts_of l trace out) ≡ length records → rest ≡ [] → flatten (answered l trace out) ≡ trace
  whole each end =
      ap (λ (k : ℕ). flatten (take k records)) each ∙ ap flatten (take-length records)
      ∙ sym (append-nil (flatten records)) ∙ ap (λ (x : List ℕ). flatten records ++ x) (sym end) ∙ cut-joined trace

pub counted : (l : Ledger) (trace out : List ℕ) → Counted l trace out
unfolding replay_of
counted l trace out =
    let v = flatten (verdicts_of l trace out) in
    let a = flatten (answered l trace out) in
    let fits = (told l trace out).fits in
    record {
      joined = cut-joined trace;
      as_many = length-take-le (length (verdicts_of l trace out)) (cut trace).records (told l trace out).few;
      read = ap (take (length a)) (sym (begins l trace out)) ∙ take-append_seam a (behind l trace out);
      read_within = omega (arith, ap length (begins l trace out), length-append a (behind l trace out));
      written = take-append_seam v (drop (length v) out);
      beyond = drop-append_seam v (drop (length v) out);
      readable = cut-fields (verdicts_of l trace out) (tell-fields l (length out) (cut trace).records);
      size = omega (arith, length-append v (drop (length v) out), length-drop (length v) out, fits);
      all = λ e. let w = ends_whole (tell l (length out) (cut trace).records).full (cut trace).rest e in ap length (whole l trace out ((told l trace out).each w.0) w.1);
    }
