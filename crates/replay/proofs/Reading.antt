-- The step that was read from a record asks what the record's bytes say.
-- Assumes nothing.
use mathlib.Core.Path.{◌≡◌, refl, sym, ap, ◌∙◌}
use mathlib.Core.Logic.{⊎_elim}
use mathlib.Core.Bool.{Bool, true, false, cond, ◌&&◌}
use mathlib.Core.List.{List}
use Prim.Native.Nat.{ℕ, ◌-◌, ◌≤◌}
use lib.Dec.{leb, ltb, eqb}
use lib.ListN.{length, drop, get_or, replicate}
use borrow.Author.Tests.{ltb-true, ltb-false}
use Rattle.fields.specs.Fields.{claimed}
use Rattle.rules.specs.declared.Kind.{Kind}
use Rattle.rules.specs.Limits.{limits}
use Rattle.rules.specs.Table.{well_formed}
use Rattle.rules.specs.Request.{Request, Asked, Unreadable}
use Rattle.rules.specs.Typed.{request_of}
use Rattle.rules.proofs.Lists.{decide, true-false}
use Rattle.rules.proofs.Typed.{list-asks}
use Rattle.rules.specs.declared.Step.{Step}
use Rattle.std.specs.Prelude.{Option, Some, None}
use Rattle.std.proofs.lemmas.Option.{none-some}
use Rattle.std.specs.Option.{unwrap_or}
use Rattle.records.specs.Format.{most_fields}
use Rattle.records.specs.Walk.{Walked, Found, Broken, walk}
use Rattle.records.specs.Steps.{fields_of, kind_from, formed, request_from, request_of_walk, request_of_tag, decode_step, step_read}
use Rattle.records.proofs.Listed.{step_long}
use Rattle.ledger.specs.declared.Ledger.{Ledger}
use Rattle.ledger.specs.Step.{judged}

-- a request whose list fits its places
abbrev Fits : Request → Type 0
Fits (Asked t k l) = length l ≤ limits.names
Fits Unreadable = Unit {0}

few : (t : ℕ) (k : Kind) (l : List ℕ) → well_formed limits t k l ≡ true → length l ≤ limits.names
few t k l e =
    ⊎_elim (λ h. true-false _ e (step_long t k l (ltb-true limits.names (length l) h))) (λ h. ltb-false limits.names (length l) h)
    (decide (ltb limits.names (length l)))

formed-fits : (q : Request) → Fits (formed q)
formed-fits Unreadable = tt
formed-fits (Asked t k l) = by (well_formed limits t k l) refl
  where
    by : (b : Bool) → well_formed limits t k l ≡ b → Fits (cond b (Asked t k l) Unreadable)
    by true e = few t k l e
    by false e = tt

decoded_fits : (bs : List ℕ) → Fits (decode_step bs)
unfolding decode_step
decoded_fits bs = whole (leb 3 (length bs) && eqb (claimed bs) (length bs - 3)) (kind_from (get_or bs 0 0) (replicate most_fields 0))
  where
    known : (v l : List ℕ) (k : Option Kind) → Fits (request_from v l k)
    known v l None = tt
    known v l (Some k) = formed-fits (Asked (get_or v 0 0) k l)

    walked : (tag : ℕ) (w : Walked) → Fits (request_of_walk tag w)
    walked tag Broken = tt
    walked tag (Found v l) = known v l (kind_from tag v)

    tagged : (tag : ℕ) (value : List ℕ) (k : Option Kind) → Fits (request_of_tag tag value k)
    tagged tag value None = tt
    tagged tag value (Some k) = walked tag (walk (fields_of 0 k) value)

    whole : (b : Bool) (k : Option Kind) → Fits (cond b (request_of_tag (get_or bs 0 0) (drop 3 bs) k) Unreadable)
    whole true k = tagged (get_or bs 0 0) (drop 3 bs) k
    whole false k = tt

-- the step that was read
module _ (l : Ledger) where
  read-asks : (q : Request) (p : Step) → Fits q → step_read q ≡ Some p → judged l (request_of p) ≡ judged l q
  read-asks Unreadable p f e = absurd (none-some p e)
  read-asks (Asked t k names) p f e = ap (λ (r : Step). judged l (request_of r)) (sym (ap (λ (o : Option Step). unwrap_or o p) e)) ∙ ap (judged l) (list-asks t k names f)

  pub read_judged : (bs : List ℕ) (p : Step) → step_read (decode_step bs) ≡ Some p → judged l (request_of p) ≡ judged l (decode_step bs)
  read_judged bs p e = read-asks (decode_step bs) p (decoded_fits bs) e
