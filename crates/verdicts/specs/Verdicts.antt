-- Verdict records (document 01, "A verdict is tag 40 ..") : the bytes of a reply, which replies are well formed, and the reply of bytes.
-- Assumes nothing.
use Rattle.std.specs.Prelude.{Option, Some, None, Bool, true, false, cond, ◌&&◌, List, [], ◌∷◌, ℕ, ◌+◌, ◌-◌, ◌%◌, leb, eqb, length, drop, get_or}
use Rattle.fields.specs.Fields.{claimed}
use Rattle.rules.specs.declared.Answer.{Answer}
use Rattle.rules.specs.declared.Answer.TheVariants.{Refused, Done, Epoch, Listed, Found, Collected}
use Rattle.rules.specs.declared.Verdict.{Verdict}
use Rattle.rules.specs.Lists.{conj, none, rising_above}
use Rattle.rules.specs.Limits.{limits}
use Rattle.rules.specs.Table.{nonzero}
use Rattle.rules.specs.Typed.{is_padded, object_list, objects_of}
use Rattle.records.specs.declared.Field.{Field}
use Rattle.records.specs.Format.{code, epoch, object, list, manifest, record_of}
use Rattle.records.specs.Writing.{Writing, writing}
use Rattle.records.specs.Walk.{Walked, Found as FieldsFound, Broken, walk}

abbrev pub verdict_tag : ℕ
verdict_tag = 0x40

-- "the code and, when accepted: FENCE 03; LIST 07 and 09; LOOK 05; COLLECT 07. A refusal has the code alone"
abbrev pub verdict_fields : Answer → List Field
verdict_fields (Refused n) = code n ∷ []
verdict_fields Done = code 0 ∷ []
verdict_fields (Epoch e) = code 0 ∷ epoch e ∷ []
verdict_fields (Listed m) = code 0 ∷ list ∷ manifest m ∷ []
verdict_fields (Found n) = code 0 ∷ object n ∷ []
verdict_fields Collected = code 0 ∷ list ∷ []

-- the highest number of the refusal table
abbrev pub last_row : ℕ
last_row = 17

abbrev pub rising_list : ℕ → List ℕ → Bool
rising_list most l = conj (rising_above 0 l ∷ leb (length l) most ∷ [])

-- "a verdict is well formed when its code is in the table, its fields are for code 0 those of one accepted kind, else the code alone, epoch and object
-- aren't 0, and its list rises strictly without 0, at most 64 long, or 16 beside a manifest", by now 256 and 64
unfoldable pub verdict_formed : Answer → List ℕ → Bool
verdict_formed (Refused n) l = conj (none l ∷ nonzero n ∷ leb n last_row ∷ [])
verdict_formed Done l = none l
verdict_formed (Epoch e) l = conj (none l ∷ nonzero e ∷ [])
verdict_formed (Listed m) l = rising_list limits.names l
verdict_formed (Found n) l = conj (none l ∷ nonzero n ∷ [])
verdict_formed Collected l = rising_list limits.places l

-- the record of a reply
abbrev pub encode_verdict : Answer → List ℕ → List ℕ
encode_verdict a l = record_of verdict_tag (verdict_fields a) l

-- The reader

-- which answer the bytes can be, with its numbers 0: by their length and the tag behind the code
unfoldable pub shape_of : List ℕ → Answer
shape_of bs =
    cond (leb (length bs) 7) Done
    (cond (eqb (get_or bs 7 0) 0x03) (Epoch 0)
    (cond (eqb (get_or bs 7 0) 0x05) (Found 0)
    (cond (eqb (10 + claimed (drop 7 bs)) (length bs)) Collected (Listed 0))))

-- code 0 is an acceptance; any other number alone is a refusal
abbrev pub code_alone : ℕ → Answer
code_alone n = cond (eqb n 0) Done (Refused (n % 256))

-- the answer of that shape with the numbers of its fields, the code's first; of a shape other than the code's alone the code must be 0
abbrev pub answer_from : Answer → List ℕ → Answer
answer_from (Refused n) v = code_alone (get_or v 0 0)
answer_from Done v = code_alone (get_or v 0 0)
answer_from (Epoch e) v = Epoch (get_or v 1 0)
answer_from (Listed m) v = Listed (get_or v 2 0)
answer_from (Found n) v = Found (get_or v 1 0)
answer_from Collected v = Collected

abbrev pub is_alone : Answer → Bool
is_alone (Refused n) = true
is_alone Done = true
is_alone (Epoch e) = false
is_alone (Listed m) = false
is_alone (Found n) = false
is_alone Collected = false

-- a reply, or bytes that are none
pub data Decoded : Type 0 where
  IsVerdict : Answer → List ℕ → Decoded
  NoVerdict : Decoded

abbrev pub formed : Answer → List ℕ → Decoded
formed a l = cond (verdict_formed a l) (IsVerdict a l) NoVerdict

abbrev pub reply_of_walk : Answer → Walked → Decoded
reply_of_walk shape Broken = NoVerdict
reply_of_walk shape (FieldsFound v l) = cond (is_alone shape) (formed (answer_from shape v) l) (cond (eqb (get_or v 0 0) 0) (formed (answer_from shape v) l) NoVerdict)

unfoldable pub decode_verdict : List ℕ → Decoded
decode_verdict bs =
    cond (conj (leb 3 (length bs) ∷ eqb (get_or bs 0 0) verdict_tag ∷ eqb (claimed bs) (length bs - 3) ∷ []))
    (reply_of_walk (shape_of bs) (walk (verdict_fields (shape_of bs)) (drop 3 bs)))
    NoVerdict

-- a reply in its places; None is the paper's number 2
abbrev pub verdict_read : Decoded → Option Verdict
verdict_read NoVerdict = None
verdict_read (IsVerdict a l) = Some (record { answer = a; list = object_list l })

-- the typed verdicts that a reader takes: the list's places say a list, and the reply is well formed
abbrev pub can_answer : Verdict → Bool
can_answer v = is_padded v.list.count v.list.objects && verdict_formed v.answer (objects_of v.list)

abbrev pub verdict_writing : Verdict → List ℕ → Writing
verdict_writing v buffer = writing (can_answer v) (encode_verdict v.answer (objects_of v.list)) buffer
