-- A step's verdict is one that the verdict writer takes, and it is as long as the rules count.
-- Assumes nothing.
use mathlib.Core.Path.{◌≡◌, refl, sym, ap, ◌∙◌}
use mathlib.Core.Logic.{◌⊎◌, inl, inr}
use mathlib.Core.Bool.{Bool, true, false, cond}
use mathlib.Core.List.{List, ◌++◌}
use Prim.Native.Nat.{ℕ, ◌+◌, ◌≤◌}
use native.Mathlib.Omega.{arith}
use lib.Dec.{leb, eqb}
use lib.ListN.{length}
use lib.Seq.{length-take-le}
use borrow.Author.Tests.{leb-true, leb-false}
use Rattle.rules.specs.declared.Answer.{Answer}
use Rattle.rules.specs.declared.Answer.TheVariants.{Refused, Done, Epoch, Listed, Found, Collected}
use Rattle.rules.specs.declared.Verdict.{Verdict}
use Rattle.rules.specs.Limits.{limits}
use Rattle.rules.specs.State.{State}
use Rattle.rules.specs.Request.{Request}
use Rattle.rules.specs.Sound.{sound}
use Rattle.rules.specs.Step.{Reply, alone, effect, granted, reply, size_of, verdict, longest_verdict}
use Rattle.rules.specs.Typed.{is_padded, objects_of, padded, verdict_of}
use Rattle.rules.proofs.Lists.{and_both, and_left, and_right, decide, true-false}
use Rattle.rules.proofs.Typed.{padded-room, padded-said, padded-take}
use Rattle.fields.specs.declared.Next.TheVariants.{Record}
use Rattle.fields.specs.Fields.{next_of}
use Rattle.fields.proofs.Fields.{length-field, next_field}
use Rattle.records.specs.Format.{bytes_of}
use Rattle.records.specs.Steps.{decode_step}
use Rattle.verdicts.specs.Verdicts.{can_answer, encode_verdict, verdict_fields, verdict_formed, verdict_tag}
use Rattle.verdicts.proofs.Replies.{verdict_long}
use Rattle.verdicts.proofs.RoundTrip.{verdict-round_trip}
use Rattle.records.proofs.WalkLaws.{length-bytes, total}
use Rattle.ledger.specs.declared.Ledger.{Ledger}
use Rattle.ledger.specs.Ledger.{lay, view, is_sound}
use Rattle.ledger.specs.Step.{answered_with, judged, refused_with, ruled}
use Rattle.ledger.specs.Demand3.{verdict_size}
use Rattle.ledger.proofs.SoundLaw.{view-lay, lay-sound}
use Rattle.ledger.proofs.Demand3.{verdict-laid}
use Rattle.replay.specs.Front.{answer_bytes, verdict_bytes}
use Rattle.replay.proofs.Replies.{Formed, refused-formed, reply-formed}

-- a reply that is well formed, in its places
module _ (r : Reply) (f : Formed r) where
  short : length r.list ≤ limits.places
  short = step (decide (leb (length r.list) limits.places))
    where
      step : (leb (length r.list) limits.places ≡ true) ⊎ (leb (length r.list) limits.places ≡ false) → length r.list ≤ limits.places
      step (inl e) = leb-true _ _ e
      step (inr e) = true-false _ f (verdict_long r.answer r.list (leb-false _ _ e))

  placed : can_answer (verdict_of r) ≡ true
  placed =
      and_both (is_padded (length r.list) (padded limits.places r.list)) _ (padded-said limits.places r.list short)
      (ap (verdict_formed r.answer) (padded-take limits.places r.list short) ∙ f)

  placed_list : objects_of (verdict_of r).list ≡ r.list
  placed_list = padded-take limits.places r.list short

-- the verdict on a sound ledger is the reply in its places
ruled-reply : (l : Ledger) (q : Request) → (ruled q l).verdict ≡ verdict_of (reply limits (sound limits) (view l) q)
unfolding ruled reply
ruled-reply l q = step (eqb n 0)
  where
    n : ℕ
    n = verdict limits (sound limits) (view l) q

    step : (b : Bool)
        → (cond b (answered_with (granted q (view l)) (lay (effect q (view l)))) (refused_with n l)).verdict ≡ verdict_of (cond b (granted q (view l)) (alone (Refused n)))
    step true = refl
    step false = refl

-- A step's verdict is one that the verdict writer takes, whatever the ledger and the request.
pub can_answer_lem : (l : Ledger) (q : Request) → can_answer (judged l q).verdict ≡ true
unfolding judged
can_answer_lem l q = step (is_sound l) refl
  where
    step : (b : Bool) → is_sound l ≡ b → can_answer (cond b (ruled q l) (refused_with 1 l)).verdict ≡ true
    step true e = ap can_answer (ruled-reply l q) ∙ placed (reply limits (sound limits) (view l) q) (reply-formed l e q)
    step false e = placed (alone (Refused 1)) (refused-formed 1 (omega arith) (omega arith))

-- a verdict has as many bytes as the rules count
pub encoded_size : (a : Answer) (l : List ℕ) → length (encode_verdict a l) ≡ size_of a (length l)
unfolding total
encoded_size a l = length-field verdict_tag (bytes_of (verdict_fields a) l) ∙ ap (λ n. 3 + n) (length-bytes (verdict_fields a) l) ∙ sum a (length l)
  where
    sum : (a : Answer) (n : ℕ) → 3 + total n (verdict_fields a) ≡ size_of a n
    sum (Refused k) n = refl
    sum Done n = refl
    sum (Epoch k) n = refl
    sum (Listed k) n = omega arith
    sum (Found k) n = refl
    sum Collected n = omega arith

-- the verdict's length is the one that the rules count with
pub answer-length : (l : Ledger) (q : Request) → length (encode_verdict (judged l q).verdict.answer (objects_of (judged l q).verdict.list)) ≡ verdict_size (judged l q).verdict
answer-length l q = sized (judged l q).verdict (can_answer_lem l q)
  where
    sized : (v : Verdict) → can_answer v ≡ true → length (encode_verdict v.answer (objects_of v.list)) ≡ verdict_size v
    sized v e =
        let room = padded-room v.list.count v.list.objects (and_left (is_padded v.list.count v.list.objects) _ e) in
        encoded_size v.answer (objects_of v.list) ∙ ap (size_of v.answer) (length-take-le v.list.count v.list.objects room)

-- on the layout of a sound state the verdict's bytes are those of the reply that the rules give
pub laid-bytes : (s : State) → sound limits s ≡ true → (q : Request)
    → encode_verdict (judged (lay s) q).verdict.answer (objects_of (judged (lay s) q).verdict.list)
    ≡ encode_verdict (reply limits (sound limits) s q).answer (reply limits (sound limits) s q).list
laid-bytes s e q =
    let r = reply limits (sound limits) s q in
    let formed : Formed r = ap (λ (t : State). verdict_formed (reply limits (sound limits) t q).answer (reply limits (sound limits) t q).list) (sym (view-lay s)) ∙ reply-formed (lay s) (lay-sound s e) q in
    ap (λ (v : Verdict). encode_verdict v.answer (objects_of v.list)) (verdict-laid s e q) ∙ ap (encode_verdict r.answer) (placed_list r formed)

-- a verdict's record at the front of others is found whole
pub verdict-next : (v : Verdict) (rest : List ℕ) → length (verdict_bytes v) ≤ longest_verdict → next_of (verdict_bytes v ++ rest) ≡ Record (length (verdict_bytes v))
verdict-next v rest h =
    let value = bytes_of (verdict_fields v.answer) (objects_of v.list) in
    let long = length-field verdict_tag value in
    next_field verdict_tag value rest (omega (arith, h, long)) ∙ ap Record (sym long)

-- "The longest verdict is longest_verdict bytes"
pub answer-fits : (l : Ledger) (bytes : List ℕ) → length (answer_bytes l bytes) ≤ longest_verdict
answer-fits l bytes = fits (judged l (decode_step bytes)).verdict (can_answer_lem l (decode_step bytes))
  where
    fits : (v : Verdict) → can_answer v ≡ true → length (verdict_bytes v) ≤ longest_verdict
    fits v e = verdict-round_trip.longest v.answer (objects_of v.list) (and_right (is_padded v.list.count v.list.objects) _ e)
