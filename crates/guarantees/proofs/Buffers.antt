-- Reading and writing undo each other on what the operations promise, a value and a buffer: once for any record, then for steps and verdicts.
-- Assumes nothing.
use mathlib.Core.Path.{◌≡◌, refl, sym, ap, subst, ◌∙◌}
use mathlib.Core.Logic.{◌⊎◌, inl, inr, ⊎_elim}
use mathlib.Core.Bool.{Bool, true, false, cond, false≢true}
use mathlib.Core.List.{List, [], ◌∷◌, ◌++◌}
use Prim.Native.Nat.{ℕ, zero, suc, ◌≤◌, ◌<◌}
use native.Mathlib.Omega.{arith}
use lib.Dec.{eqb, ltb, leb, lit<}
use lib.ListN.{length, take, drop}
use lib.Seq.{length-take-le, take-append_seam}
use borrow.Author.Tests.{eqb-true, ltb-true, ltb-false, le-ltb}
use Rattle.std.specs.Prelude.{Option, Some, None, Ok, Err}
use Rattle.fields.specs.declared.WriteError.TheVariants.{Malformed, Full}
use Rattle.fields.specs.Bytes.{be, words}
use Rattle.fields.specs.Fields.{field, over}
use Rattle.fields.proofs.Bytes.{Below, be-below, below-append}
use Rattle.rules.specs.declared.Kind.{Kind}
use Rattle.rules.specs.declared.Kind.TheVariants.{Fence as FENCE, Put as PUT, Commit as COMMIT, Compact as COMPACT, Hold as HOLD, Renew as RENEW, Release as RELEASE, List as LIST, Look as LOOK, Collect as COLLECT}
use Rattle.rules.specs.declared.Answer.{Answer}
use Rattle.rules.specs.declared.Answer.TheVariants.{Refused, Done, Epoch, Listed, Found, Collected}
use Rattle.rules.specs.declared.NameList.{NameList}
use Rattle.rules.specs.declared.ObjectList.{ObjectList}
use Rattle.rules.specs.declared.Step.{Step}
use Rattle.rules.specs.declared.Verdict.{Verdict}
use Rattle.rules.specs.Limits.{limits}
use Rattle.rules.specs.Lists.{all}
use Rattle.rules.specs.Request.{Request, Asked, Unreadable}
use Rattle.rules.specs.Table.{well_formed}
use Rattle.rules.specs.Typed.{can_say, is_padded, name_list, names_of, object_list, objects_of, padded, request_of}
use Rattle.rules.proofs.Lists.{and_left, and_right, and_both, decide, true-false}
use Rattle.rules.proofs.Typed.{list-asks, padded-room, padded-said, padded-take}
use Rattle.records.specs.declared.Field.{Field}
use Rattle.records.specs.Format.{bytes_of, content, record_of}
use Rattle.records.specs.Steps.{decode_step, encode_step, fields_of, outer_tag, step_read}
use Rattle.verdicts.specs.Verdicts.{Decoded, IsVerdict, NoVerdict, can_answer, decode_verdict, encode_verdict, verdict_fields, verdict_formed, verdict_read, verdict_tag, verdict_writing}
use Rattle.records.specs.Writing.{Writing, step_writing, writing}
use Rattle.records.specs.RoundTrip.{all_fit, are_bytes}
use Rattle.records.proofs.Listed.{step_long}
use Rattle.records.proofs.RoundTripRecords.{below_all, empty, first_empty, rising-short}
use Rattle.records.proofs.RoundTripSteps.{step-round_trip}
use Rattle.verdicts.proofs.RoundTrip.{verdict-round_trip}
use Rattle.arrays.specs.Arrays.{pad}
use Rattle.arrays.proofs.Lists.{length-pad, pad-laid}
use Rattle.ledger.proofs.Names.{padded-pad}
use Rattle.guarantees.specs.Guarantees.{OnBuffers, StepFits, VerdictFits}

-- ---- any record

-- a value that a reader takes is written where there is room; another is malformed
writing-fits : (bytes buffer : List ℕ) → length bytes ≤ length buffer → writing true bytes buffer ≡ record { answer = Ok (length bytes); buffer = over bytes buffer }
writing-fits bytes buffer h = rw (le-ltb (length buffer) (length bytes) h)

writing-written : (taken : Bool) (bytes buffer : List ℕ) (n : ℕ) → (writing taken bytes buffer).answer ≡ Ok n → (taken ≡ true) × (take n (writing taken bytes buffer).buffer ≡ bytes)
writing-written true bytes buffer n e = (refl, by (ltb (length buffer) (length bytes)) e)
  where
    outcome : Bool → Writing
    outcome b = cond b (record { answer = Err Full; buffer = buffer }) (record { answer = Ok (length bytes); buffer = over bytes buffer })

    by : (b : Bool) → (outcome b).answer ≡ Ok n → take n (outcome b).buffer ≡ bytes
    by true e = absurd cc
    by false e = let same : n ≡ length bytes = cc in ap (λ (k : ℕ). take k (over bytes buffer)) same ∙ take-append_seam bytes (drop (length bytes) buffer)
writing-written false bytes buffer n e = absurd cc

writing_malformed : (taken : Bool) (bytes buffer : List ℕ) → (writing taken bytes buffer).answer ≡ Err Malformed → taken ≡ false
writing_malformed true bytes buffer e = absurd (by (ltb (length buffer) (length bytes)) e)
  where
    outcome : Bool → Writing
    outcome b = cond b (record { answer = Err Full; buffer = buffer }) (record { answer = Ok (length bytes); buffer = over bytes buffer })

    by : (b : Bool) → (outcome b).answer ≡ Err Malformed → ⊥
    by true e = cc
    by false e = cc
writing_malformed false bytes buffer e = refl

module _ {A : Type 0} (Fits : A → Type 0) (taken : A → Bool) (encode : A → List ℕ) (read : List ℕ → Option A) where
  -- what the round trip on bytes has to say: what is written is bytes, and is read; what is read is written as its bytes; all else is refused
  pub record Undoes : Type 0 where
    pub bytes : (v : A) → are_bytes (encode v) ≡ true
    pub reads : (v : A) → Fits v → taken v ≡ true → read (encode v) ≡ Some v
    pub writes : (v : A) (bs : List ℕ) → are_bytes bs ≡ true → read bs ≡ Some v → (taken v ≡ true) × (encode v ≡ bs)
    pub outcome : (bs : List ℕ) → are_bytes bs ≡ true → (read bs ≡ None) ⊎ ((v : A) × Fits v × (read bs ≡ Some v))

  module _ (u : Undoes) where
    abbrev write : A → List ℕ → Writing
    write v buffer = writing (taken v) (encode v) buffer

    writes_read_lem : (v : A) (bytes buffer : List ℕ) → are_bytes bytes ≡ true → read bytes ≡ Some v → length bytes ≤ length buffer
        → write v buffer ≡ record { answer = Ok (length bytes); buffer = over bytes buffer }
    writes_read_lem v bytes buffer good r room =
        let w = u.writes v bytes good r in
        ap (λ (b : Bool). writing b (encode v) buffer) w.0 ∙ ap (λ (e : List ℕ). writing true e buffer) w.1 ∙ writing-fits bytes buffer room

    refuses_bytes_lem : (bytes : List ℕ) → are_bytes bytes ≡ true
        → ((v : A) → Fits v → (buffer : List ℕ) → length bytes ≤ length buffer → write v buffer ≡ record { answer = Ok (length bytes); buffer = over bytes buffer } → ⊥)
        → read bytes ≡ None
    refuses_bytes_lem bytes good never = go (u.outcome bytes good)
      where
        go : (read bytes ≡ None) ⊎ ((v : A) × Fits v × (read bytes ≡ Some v)) → read bytes ≡ None
        go (inl e) = e
        go (inr w) = absurd (never w.0 w.1 bytes (omega arith) (writes_read_lem w.0 bytes bytes good w.2 (omega arith)))

    refuses_value_lem : (v : A) → Fits v → (buffer : List ℕ) → (write v buffer).answer ≡ Err Malformed → (bytes : List ℕ) → are_bytes bytes ≡ true → read bytes ≡ Some v → ⊥
    refuses_value_lem v fit buffer e bytes good r = false≢true (sym (writing_malformed (taken v) (encode v) buffer e) ∙ (u.writes v bytes good r).0)

    unread_refused : (v : A) → Fits v → (buffer : List ℕ) → ((bytes : List ℕ) → are_bytes bytes ≡ true → read bytes ≡ Some v → ⊥) → (write v buffer).answer ≡ Err Malformed
    unread_refused v fit buffer never = by (taken v) refl
      where
        by : (b : Bool) → taken v ≡ b → (writing b (encode v) buffer).answer ≡ Err Malformed
        by true e = absurd (never (encode v) (u.bytes v) (u.reads v fit e))
        by false e = refl

    pub on_buffers : OnBuffers Fits write read
    on_buffers = record {
      reads_written = λ v fit buffer n e. let w = writing-written (taken v) (encode v) buffer n e in ap read w.1 ∙ u.reads v fit w.0;
      writes_read = writes_read_lem;
      refuses_bytes = refuses_bytes_lem;
      refuses_value = λ v fit buffer. (refuses_value_lem v fit buffer, unread_refused v fit buffer);
    }

-- ---- what is written is bytes

one_byte : (b : ℕ) → b < 256 → Below 256 (b ∷ [])
one_byte b h zero = h
one_byte b h (suc i) = lit< tt

field_below : (tag : ℕ) (value : List ℕ) → tag < 256 → Below 256 value → Below 256 (field tag value)
field_below tag value h v = below-append 256 (tag ∷ []) (be 2 (length value) ++ value) (one_byte tag h) (below-append 256 (be 2 (length value)) value (be-below 2 (length value)) v)

words-below : (l : List ℕ) → Below 256 (words l)
unfolding words
words-below [] = λ i. lit< tt
words-below (n ∷ l) = below-append 256 (be 8 n) (words l) (be-below 8 n) (words-below l)

content-below : (l : List ℕ) (f : Field) → Below 256 (content l f)
content-below l f = by (eqb f.width 0)
  where
    by : (b : Bool) → Below 256 (cond b (words l) (be f.width f.number))
    by true = words-below l
    by false = be-below f.width f.number

abbrev is_tag : Field → Bool
is_tag f = ltb f.tag 256

fields-below : (fs : List Field) (l : List ℕ) → all is_tag fs ≡ true → Below 256 (bytes_of fs l)
unfolding bytes_of all
fields-below [] l h = λ i. lit< tt
fields-below (f ∷ fs) l h =
    below-append 256 (field f.tag (content l f)) (bytes_of fs l)
    (field_below f.tag (content l f) (ltb-true f.tag 256 (and_left (is_tag f) (all is_tag fs) h)) (content-below l f))
    (fields-below fs l (and_right (is_tag f) (all is_tag fs) h))

record_bytes : (tag : ℕ) (fs : List Field) (l : List ℕ) → tag < 256 → all is_tag fs ≡ true → are_bytes (record_of tag fs l) ≡ true
record_bytes tag fs l h tags = below_all 256 (record_of tag fs l) (field_below tag (bytes_of fs l) h (fields-below fs l tags))

-- ---- a list in its places

-- places that say a list are that list in its places
places-back : (n count : ℕ) (a : List ℕ) → length a ≡ n → is_padded count a ≡ true → padded n (take count a) ≡ a
unfolding is_padded
places-back n count a long e =
    let fits = padded-room count a e in
    let short = length-take-le count a fits in
    padded-pad n (take count a) (omega (arith, short, fits, long)) ∙ ap (λ (k : ℕ). pad k 0 (take count a)) (sym long)
    ∙ pad-laid 0 (eqb 0) (λ x t. sym (eqb-true 0 x t)) count a fits (and_right (leb count (length a)) (all (eqb 0) (drop count a)) e)

names-back : (l : NameList) → length l.names ≡ limits.names → is_padded l.count l.names ≡ true → name_list (names_of l) ≡ l
names-back l long e = λ i. record { count = length-take-le l.count l.names (padded-room l.count l.names e) i; names = places-back limits.names l.count l.names long e i }

objects-back : (l : ObjectList) → length l.objects ≡ limits.places → is_padded l.count l.objects ≡ true → object_list (objects_of l) ≡ l
objects-back l long e = λ i. record { count = length-take-le l.count l.objects (padded-room l.count l.objects e) i; objects = places-back limits.places l.count l.objects long e i }

padded_long : (n : ℕ) (l : List ℕ) → length l ≤ n → length (padded n l) ≡ n
padded_long n l h = ap length (padded-pad n l h) ∙ length-pad n 0 l h

-- ---- steps

module _ (p : Step) where
  -- a step that a record can say has its list in its places, and is well formed
  said : can_say (request_of p) ≡ true → (is_padded p.list.count p.list.names ≡ true) × (well_formed limits p.time p.kind (names_of p.list) ≡ true)
  said = by (is_padded p.list.count p.list.names) refl
    where
      by : (b : Bool) → is_padded p.list.count p.list.names ≡ b → can_say (cond b (Asked p.time p.kind (names_of p.list)) Unreadable) ≡ true
          → (is_padded p.list.count p.list.names ≡ true) × (well_formed limits p.time p.kind (names_of p.list) ≡ true)
      by true e h = (e, h)
      by false e h = absurd (false≢true h)

abbrev step_bytes : Step → List ℕ
step_bytes p = encode_step p.time p.kind (names_of p.list)

abbrev step_of : ℕ → Kind → List ℕ → Step
step_of t k l = record { time = t; kind = k; list = name_list l }

few-names : (t : ℕ) (k : Kind) (l : List ℕ) → well_formed limits t k l ≡ true → length l ≤ limits.names
few-names t k l e =
    ⊎_elim (λ h. true-false _ e (step_long t k l (ltb-true limits.names (length l) h))) (λ h. ltb-false limits.names (length l) h)
    (decide (ltb limits.names (length l)))

step_tags : (t : ℕ) (k : Kind) → (outer_tag k < 256) × (all is_tag (fields_of t k) ≡ true)
unfolding all
step_tags t (FENCE r n) = (lit< tt, refl)
step_tags t (PUT r e n c) = (lit< tt, refl)
step_tags t (COMMIT e n) = (lit< tt, refl)
step_tags t (COMPACT e n o) = (lit< tt, refl)
step_tags t (HOLD x m e) = (lit< tt, refl)
step_tags t (RENEW x e) = (lit< tt, refl)
step_tags t (RELEASE x) = (lit< tt, refl)
step_tags t (LIST x) = (lit< tt, refl)
step_tags t (LOOK c x) = (lit< tt, refl)
step_tags t COLLECT = (lit< tt, refl)

-- what was read of some bytes, by what they say
abbrev StepIs : List ℕ → Request → Type 0
StepIs bs q = (p : Step) → step_read q ≡ Some p → (can_say (request_of p) ≡ true) × (step_bytes p ≡ bs)

abbrev StepOutcome : Request → Type 0
StepOutcome q = (step_read q ≡ None) ⊎ ((p : Step) × StepFits p × (step_read q ≡ Some p))

module _ (bs : List ℕ) (good : are_bytes bs ≡ true) where
  -- a step in its places that the bytes say
  laid-step : (t : ℕ) (k : Kind) (l : List ℕ) → decode_step bs ≡ Asked t k l → (can_say (request_of (step_of t k l)) ≡ true) × (step_bytes (step_of t k l) ≡ bs)
  laid-step t k l e =
      let w = step-round_trip.writes_read bs t k l good e in
      let few = few-names t k l w.0 in
      (ap can_say (list-asks t k l few) ∙ w.0, ap (encode_step t k) (padded-take limits.names l few) ∙ w.2)

  step_is : (q : Request) → decode_step bs ≡ q → StepIs bs q
  step_is Unreadable e p r = absurd cc
  step_is (Asked t k l) e p r = let same : step_of t k l ≡ p = cc in subst (λ (p : Step). (can_say (request_of p) ≡ true) × (step_bytes p ≡ bs)) same (laid-step t k l e)

  step_outcome : (q : Request) → decode_step bs ≡ q → StepOutcome q
  step_outcome Unreadable e = inl refl
  step_outcome (Asked t k l) e =
      let w = step-round_trip.writes_read bs t k l good e in
      let few = few-names t k l w.0 in
      inr (step_of t k l, record { numbers = ap (all_fit (fields_of t k)) (padded-take limits.names l few) ∙ w.1; places = padded_long limits.names l few }, refl)

step-reads : (p : Step) → StepFits p → can_say (request_of p) ≡ true → step_read (decode_step (step_bytes p)) ≡ Some p
step-reads p fit e =
    let s = said p e in
    ap step_read (step-round_trip.reads_written p.time p.kind (names_of p.list) s.1 fit.numbers)
    ∙ ap (λ (l : NameList). Some (record { time = p.time; kind = p.kind; list = l })) (names-back p.list fit.places s.0)

pub steps_on_buffers_lem : OnBuffers StepFits step_writing (λ bytes. step_read (decode_step bytes))
steps_on_buffers_lem = on_buffers StepFits (λ p. can_say (request_of p)) step_bytes (λ bytes. step_read (decode_step bytes)) (record {
  bytes = λ p. record_bytes (outer_tag p.kind) (fields_of p.time p.kind) (names_of p.list) (step_tags p.time p.kind).0 (step_tags p.time p.kind).1;
  reads = step-reads;
  writes = λ p bs good r. step_is bs good (decode_step bs) refl p r;
  outcome = λ bs good. step_outcome bs good (decode_step bs) refl;
})

-- ---- verdicts

abbrev verdict_bytes : Verdict → List ℕ
verdict_bytes v = encode_verdict v.answer (objects_of v.list)

abbrev verdict_in : Answer → List ℕ → Verdict
verdict_in a l = record { answer = a; list = object_list l }

few-objects : (a : Answer) (l : List ℕ) → verdict_formed a l ≡ true → length l ≤ limits.places
unfolding verdict_formed
few-objects (Refused n) l e = (first_empty l _ e).0
few-objects Done l e = (empty l e).0
few-objects (Epoch m) l e = (first_empty l _ e).0
few-objects (Listed m) l e = omega (arith, rising-short limits.names l e)
few-objects (Found n) l e = (first_empty l _ e).0
few-objects Collected l e = rising-short limits.places l e

verdict_tags : (a : Answer) → all is_tag (verdict_fields a) ≡ true
unfolding all
verdict_tags (Refused n) = refl
verdict_tags Done = refl
verdict_tags (Epoch e) = refl
verdict_tags (Listed m) = refl
verdict_tags (Found n) = refl
verdict_tags Collected = refl

-- the answer and the list of a verdict that was read
abbrev VerdictIs : List ℕ → Decoded → Type 0
VerdictIs bs d = (v : Verdict) → verdict_read d ≡ Some v → (can_answer v ≡ true) × (verdict_bytes v ≡ bs)

abbrev VerdictOutcome : Decoded → Type 0
VerdictOutcome d = (verdict_read d ≡ None) ⊎ ((v : Verdict) × VerdictFits v × (verdict_read d ≡ Some v))

module _ (bs : List ℕ) (good : are_bytes bs ≡ true) where
  laid-verdict : (a : Answer) (l : List ℕ) → decode_verdict bs ≡ IsVerdict a l → (can_answer (verdict_in a l) ≡ true) × (verdict_bytes (verdict_in a l) ≡ bs)
  laid-verdict a l e =
      let w = verdict-round_trip.writes_read bs a l good e in
      let few = few-objects a l w.0 in (
        and_both (is_padded (length l) (padded limits.places l)) (verdict_formed a (take (length l) (padded limits.places l))) (padded-said limits.places l few)
            (ap (verdict_formed a) (padded-take limits.places l few) ∙ w.0),
        ap (encode_verdict a) (padded-take limits.places l few) ∙ w.2,
      )

  verdict_is : (d : Decoded) → decode_verdict bs ≡ d → VerdictIs bs d
  verdict_is NoVerdict e v r = absurd cc
  verdict_is (IsVerdict a l) e v r = let same : verdict_in a l ≡ v = cc in subst (λ (v : Verdict). (can_answer v ≡ true) × (verdict_bytes v ≡ bs)) same (laid-verdict a l e)

  verdict_outcome : (d : Decoded) → decode_verdict bs ≡ d → VerdictOutcome d
  verdict_outcome NoVerdict e = inl refl
  verdict_outcome (IsVerdict a l) e =
      let w = verdict-round_trip.writes_read bs a l good e in
      let few = few-objects a l w.0 in
      inr (verdict_in a l, record { numbers = ap (all_fit (verdict_fields a)) (padded-take limits.places l few) ∙ w.1; places = padded_long limits.places l few }, refl)

verdict-reads : (v : Verdict) → VerdictFits v → can_answer v ≡ true → verdict_read (decode_verdict (verdict_bytes v)) ≡ Some v
verdict-reads v fit e =
    let laid = is_padded v.list.count v.list.objects in
    let formed = verdict_formed v.answer (objects_of v.list) in
    ap verdict_read (verdict-round_trip.reads_written v.answer (objects_of v.list) (and_right laid formed e) fit.numbers)
    ∙ ap (λ (l : ObjectList). Some (record { answer = v.answer; list = l })) (objects-back v.list fit.places (and_left laid formed e))

pub verdicts_on_buffers_lem : OnBuffers VerdictFits verdict_writing (λ bytes. verdict_read (decode_verdict bytes))
verdicts_on_buffers_lem = on_buffers VerdictFits can_answer verdict_bytes (λ bytes. verdict_read (decode_verdict bytes)) (record {
  bytes = λ v. record_bytes verdict_tag (verdict_fields v.answer) (objects_of v.list) (lit< tt) (verdict_tags v.answer);
  reads = verdict-reads;
  writes = λ v bs good r. verdict_is bs good (decode_verdict bs) refl v r;
  outcome = λ bs good. verdict_outcome bs good (decode_verdict bs) refl;
})
