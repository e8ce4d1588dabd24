-- What a record's bytes ask, in the cases that the reader tells apart.
-- Assumes nothing.
use Rattle.std.specs.Bool.{then_some}
use Rattle.std.proofs.Common.{Option, Some, None}
use mathlib.Core.Path.{◌≡◌, refl, sym, ap, ◌∙◌}
use mathlib.Core.Bool.{Bool, true, false, cond}
use mathlib.Core.List.{List}
use Prim.Native.Nat.{ℕ, ◌≤◌, ◌<◌}
use lib.ListN.{length, drop, get_or, replicate}
use Rattle.rules.specs.declared.Kind.{Kind}
use Rattle.rules.specs.declared.Step.{Step}
use Rattle.rules.specs.Limits.{limits}
use Rattle.rules.specs.Request.{Asked, Unreadable}
use Rattle.rules.specs.Typed.{name_list, request_of, can_say}
use Rattle.records.specs.Format.{most_fields}
use Rattle.records.specs.Found.{is_whole}
use Rattle.records.specs.Steps.{kind_from, request_from, request_of_tag, decode_step, step_read}
use Rattle.records.proofs.Listed.{step-said, step_long}

-- ---- by the kind

pub request_long : (v l : List ℕ) (k : Option Kind) → limits.names < length l → request_from v l k ≡ Unreadable
request_long v l None h = refl
request_long v l (Some k) h = rw (step_long (get_or v 0 0) k l h)

-- a step that was put together is read where it is well formed
pub request-formed : (v l : List ℕ) (k : Kind) (p : Step) (b : Bool) → length l ≤ limits.names → p ≡ record { time = get_or v 0 0; kind = k; list = name_list l }
    → can_say (request_of p) ≡ b → step_read (request_from v l (Some k)) ≡ then_some b p
request-formed v l k p b h e said = rw (sym (step-said (get_or v 0 0) k l h) ∙ ap (λ (q : Step). can_say (request_of q)) (sym e) ∙ said) (by b)
  where
    by : (b : Bool) → step_read (cond b (Asked (get_or v 0 0) k l) Unreadable) ≡ then_some b p
    by true = ap Some (sym e)
    by false = refl

-- ---- by the bytes

pub decode-torn : (bs : List ℕ) → is_whole bs ≡ false → decode_step bs ≡ Unreadable
unfolding decode_step
decode-torn bs e = rw e

pub decode-whole : (bs : List ℕ) (k : Option Kind) → is_whole bs ≡ true → kind_from (get_or bs 0 0) (replicate most_fields 0) ≡ k → decode_step bs ≡ request_of_tag (get_or bs 0 0) (drop 3 bs) k
unfolding decode_step
decode-whole bs k e kind = rw (e, kind)
