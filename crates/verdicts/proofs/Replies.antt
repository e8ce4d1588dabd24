-- What a verdict's bytes say, in the cases that the reader tells apart.
-- Assumes nothing.
use mathlib.Core.Path.{◌≡◌, refl, ◌∙◌}
use mathlib.Core.Bool.{Bool, true, false, cond, ◌&&◌, ◌||◌, and-false}
use mathlib.Core.List.{List}
use Prim.Native.Nat.{ℕ, ◌-◌, ◌<◌}
use native.Mathlib.Omega.{arith}
use lib.Dec.{leb, eqb}
use lib.ListN.{length, drop, get_or}
use borrow.Author.Tests.{lt-leb}
use Rattle.std.specs.Bool.{then_some}
use Rattle.fields.specs.Fields.{claimed}
use Rattle.rules.specs.declared.Answer.{Answer}
use Rattle.rules.specs.declared.Answer.TheVariants.{Refused, Done, Epoch, Listed, Found, Collected}
use Rattle.rules.specs.Lists.{conj, rising_above}
use Rattle.rules.specs.Limits.{limits}
use Rattle.rules.specs.Typed.{object_list}
use Rattle.records.specs.Found.{is_whole}
use Rattle.records.specs.Walk.{Found as FieldsFound, walk}
use Rattle.verdicts.specs.Verdicts.{verdict_tag, verdict_fields, verdict_formed, shape_of, is_alone, answer_from, IsVerdict, NoVerdict, Decoded, reply_of_walk, decode_verdict, verdict_read}
use Rattle.records.proofs.Places.{some-list}

-- ---- by the list

-- more objects than a verdict has
pub verdict_long : (a : Answer) (l : List ℕ) → limits.places < length l → verdict_formed a l ≡ false
unfolding verdict_formed conj
verdict_long (Refused n) l h = rw (some-list l (omega arith))
verdict_long Done l h = some-list l (omega arith)
verdict_long (Epoch e) l h = rw (some-list l (omega arith))
verdict_long (Listed m) l h = rw (lt-leb (length l) limits.names (omega arith), and-false (rising_above 0 l))
verdict_long (Found n) l h = rw (some-list l (omega arith))
verdict_long Collected l h = rw (lt-leb (length l) limits.places h, and-false (rising_above 0 l))

-- ---- by the fields

pub reply-read : (shape : Answer) (v l : List ℕ)
    → verdict_read (reply_of_walk shape (FieldsFound v l))
    ≡ then_some ((is_alone shape || eqb (get_or v 0 0) 0) && verdict_formed (answer_from shape v) l) (record { answer = answer_from shape v; list = object_list l })
reply-read shape v l = by (is_alone shape) (eqb (get_or v 0 0) 0) (verdict_formed (answer_from shape v) l)
  where
    a : Answer
    a = answer_from shape v

    by : (alone zero formed : Bool)
        → verdict_read (cond alone (cond formed (IsVerdict a l) NoVerdict) (cond zero (cond formed (IsVerdict a l) NoVerdict) NoVerdict))
        ≡ then_some ((alone || zero) && formed) (record { answer = a; list = object_list l })
    by true zero true = refl
    by true zero false = refl
    by false true true = refl
    by false true false = refl
    by false false formed = refl

-- ---- by the bytes

decode-by : (bs : List ℕ) → decode_verdict bs ≡ cond (is_whole bs && eqb (get_or bs 0 0) verdict_tag) (reply_of_walk (shape_of bs) (walk (verdict_fields (shape_of bs)) (drop 3 bs))) NoVerdict
unfolding decode_verdict conj
decode-by bs = by (leb 3 (length bs)) (eqb (get_or bs 0 0) verdict_tag) (eqb (claimed bs) (length bs - 3)) (reply_of_walk (shape_of bs) (walk (verdict_fields (shape_of bs)) (drop 3 bs)))
  where
    by : (long tagged exact : Bool) (d : Decoded) → cond (long && (tagged && (exact && true))) d NoVerdict ≡ cond (long && exact && tagged) d NoVerdict
    by true true true d = refl
    by true true false d = refl
    by true false true d = refl
    by true false false d = refl
    by false tagged exact d = refl

pub decode-torn : (bs : List ℕ) → is_whole bs ≡ false → decode_verdict bs ≡ NoVerdict
decode-torn bs e = decode-by bs ∙ rw e

pub decode-other : (bs : List ℕ) → eqb (get_or bs 0 0) verdict_tag ≡ false → decode_verdict bs ≡ NoVerdict
decode-other bs e = decode-by bs ∙ rw (e, and-false (is_whole bs))

pub decode-whole : (bs : List ℕ) → is_whole bs ≡ true → eqb (get_or bs 0 0) verdict_tag ≡ true → decode_verdict bs ≡ reply_of_walk (shape_of bs) (walk (verdict_fields (shape_of bs)) (drop 3 bs))
decode-whole bs e t = decode-by bs ∙ rw (e, t)
