-- Reading and writing verdicts undo each other, and all else is refused; and how long a verdict is at most.
-- Assumes nothing.
use mathlib.Core.Path.{◌≡◌, refl, ◌∙◌, subst}
use mathlib.Core.Bool.{Bool, true, false, cond}
use mathlib.Core.List.{List, [], ◌∷◌, map}
use Prim.Native.Nat.{ℕ, ◌+◌, ◌*◌, ◌-◌, ◌%◌, ◌≤◌, ◌<◌}
use native.Mathlib.Nat.{mod-eq_of_lt}
use native.Mathlib.Omega.{arith}
use lib.Dec.{leb, eqb, lit<, lit≤}
use lib.ListN.{length, get_or, drop}
use borrow.Author.Tests.{lt-leb, leb-true, eq-eqb, ne_eqb, eqb-true, not-true}
use Rattle.fields.specs.Bytes.{be, words}
use Rattle.fields.specs.Fields.{claimed}
use Rattle.fields.proofs.Bytes.{length-words}
use Rattle.fields.proofs.Fields.{claimed-field}
use Rattle.rules.specs.declared.Answer.{Answer}
use Rattle.rules.specs.declared.Answer.TheVariants.{Refused, Done, Epoch, Listed, Found, Collected}
use Rattle.rules.specs.Lists.{conj, all, any}
use Rattle.rules.specs.Table.{nonzero}
use Rattle.rules.specs.Limits.{limits}
use Rattle.rules.specs.Step.{longest_verdict}
use Rattle.rules.proofs.Lists.{and_both, true-false, conj-true}
use Rattle.records.specs.declared.Field.{Field}
use Rattle.records.specs.Format.{code, list, manifest, bytes_of, record_of}
use Rattle.records.specs.Walk.{Walked, Found as FieldsFound, Broken, walk}
use Rattle.verdicts.specs.Verdicts.{verdict_tag, verdict_fields, last_row, verdict_formed, encode_verdict, shape_of, code_alone, answer_from, is_alone, Decoded, IsVerdict, NoVerdict, formed, reply_of_walk, decode_verdict}
use Rattle.records.specs.RoundTrip.{fits, all_fit, are_bytes}
use Rattle.verdicts.specs.RoundTrip.{VerdictRoundTrip}
use Rattle.records.proofs.WalkLaws.{blank, number, list-zero, total, single, filled_from, filled}
use Rattle.records.proofs.RoundTripRecords.{picked, fit_at, is_tidy, Beside, empty, first_empty, rising-short, length_record, record_written, Rewrites, RewritesBy, record_read, rewrites_as}

-- ---- reading what was written

-- the answer with its numbers 0, which a reader takes its fields from
abbrev shaped : Answer → Answer
shaped (Refused n) = Done
shaped Done = Done
shaped (Epoch e) = Epoch 0
shaped (Listed m) = Listed 0
shaped (Found n) = Found 0
shaped Collected = Collected

-- where the list is behind the code, by what is behind the list
list_shape : (gs : List Field) (l : List ℕ) → length l ≤ limits.places
    → shape_of (record_of verdict_tag (code 0 ∷ list ∷ gs) l) ≡ cond (eqb (10 + 8 * length l) (10 + 8 * length l + total (length l) gs)) Collected (Listed 0)
unfolding shape_of bytes_of be total
list_shape gs l few =
    let fs = code 0 ∷ list ∷ gs in
    let bs = record_of verdict_tag fs l in
    let long : length bs ≡ 10 + 8 * length l + total (length l) gs = omega (arith, length_record verdict_tag fs l) in
    let claims : claimed (drop 7 bs) ≡ 8 * length l = claimed-field 7 (words l) (bytes_of gs l) (omega (arith, length-words l)) ∙ length-words l in
    rw (long, claims, lt-leb (10 + 8 * length l + total (length l) gs) 7 (omega arith))

listed_shape : (m : ℕ) (l : List ℕ) → length l ≤ limits.places → shape_of (encode_verdict (Listed m) l) ≡ Listed 0
unfolding total
listed_shape m l few =
    list_shape (manifest m ∷ []) l few ∙ rw (ne_eqb (10 + 8 * length l) (10 + 8 * length l + total (length l) (manifest m ∷ [])) (λ e. omega arith))

collected_shape : (l : List ℕ) → length l ≤ limits.places → shape_of (encode_verdict Collected l) ≡ Collected
unfolding total
collected_shape l few = list_shape [] l few ∙ rw (eq-eqb (10 + 8 * length l) (10 + 8 * length l + 0) (omega arith))

-- a refusal's number is its code
code_read : (n : ℕ) (a : Bool) → conj (a ∷ nonzero n ∷ leb n last_row ∷ []) ≡ true → code_alone n ≡ Refused n
code_read n a h =
    let t = conj-true (a ∷ nonzero n ∷ leb n last_row ∷ []) h in
    rw (not-true (eqb n 0) t.1.0, mod-eq_of_lt {n = n} {m = 256} (omega (arith, leb-true n last_row t.1.1.0)))

-- what the table says of an answer: its fields, the fields that its shape is read with, the reply of its numbers, its list, and its length
record Line (a : Answer) : Type 0 where
  tidy : is_tidy (verdict_fields a) ≡ true
  shape : (l : List ℕ) → length l ≤ limits.places → shape_of (encode_verdict a l) ≡ shaped a
  blanks : verdict_fields (shaped a) ≡ map blank (verdict_fields a)
  said : (l : List ℕ) → verdict_formed a l ≡ true → reply_of_walk (shaped a) (FieldsFound (map number (verdict_fields a)) l) ≡ formed a l
  beside : (l : List ℕ) → verdict_formed a l ≡ true → Beside (verdict_fields a) l
  short : (l : List ℕ) → verdict_formed a l ≡ true → 3 + total (length l) (verdict_fields a) ≤ longest_verdict

line : (a : Answer) → Line a
unfolding shape_of verdict_formed all any single total bytes_of be
line (Refused n) = record { tidy = refl; shape = λ l few. refl; blanks = refl; said = λ l h. rw (code_read n _ h); beside = λ l h. first_empty l _ h; short = λ l h. lit≤ tt }
line Done = record { tidy = refl; shape = λ l few. refl; blanks = refl; said = λ l h. refl; beside = λ l h. empty l h; short = λ l h. lit≤ tt }
line (Epoch e) = record { tidy = refl; shape = λ l few. refl; blanks = refl; said = λ l h. refl; beside = λ l h. first_empty l _ h; short = λ l h. lit≤ tt }
line (Listed m) =
    let few = rising-short limits.names in
    record { tidy = refl; shape = listed_shape m; blanks = refl; said = λ l h. refl; beside = λ l h. (omega (arith, few l h), refl); short = λ l h. omega (arith, few l h) }
line (Found n) = record { tidy = refl; shape = λ l few. refl; blanks = refl; said = λ l h. refl; beside = λ l h. first_empty l _ h; short = λ l h. lit≤ tt }
line Collected =
    let few = rising-short limits.places in
    record { tidy = refl; shape = collected_shape; blanks = refl; said = λ l h. refl; beside = λ l h. (few l h, refl); short = λ l h. omega (arith, few l h) }

reads_written_lem : (a : Answer) (l : List ℕ) → verdict_formed a l ≡ true → all_fit (verdict_fields a) l ≡ true → decode_verdict (encode_verdict a l) ≡ IsVerdict a l
unfolding decode_verdict conj
reads_written_lem a l well fit =
    let answer = line a in
    let beside = answer.beside l well in
    let w = record_written verdict_tag (verdict_fields a) l answer.tidy fit beside in
    rw (w.long, w.whole, answer.shape l beside.0, answer.blanks, w.found, answer.said l well, well)

-- ---- writing what was read

-- what bytes are read as is well formed, fits, and is written as the bytes
abbrev WrittenAs : List ℕ → Decoded → Type 0
WrittenAs bs NoVerdict = Unit {0}
WrittenAs bs (IsVerdict a l) = (verdict_formed a l ≡ true) × (all_fit (verdict_fields a) l ≡ true) × (encode_verdict a l ≡ bs)

-- a code alone that was read
alone : (n : ℕ) → n < 256 → code n ∷ [] ≡ verdict_fields (code_alone n)
alone n h =
    picked (λ a. code n ∷ [] ≡ verdict_fields a) (eqb n 0) Done (Refused (n % 256)) (λ e. rw (eqb-true n 0 e)) (λ e. rw (mod-eq_of_lt {n = n} {m = 256} h))

-- the fields of an answer that was read are those of its shape with the numbers read
answer-read : (a : Answer) (v : List ℕ) → (is_alone a ≡ false → get_or v 0 0 ≡ 0)
    → all fits (filled (verdict_fields a) v) ≡ true → filled (verdict_fields a) v ≡ verdict_fields (answer_from a v)
unfolding filled_from
answer-read (Refused n) v coded fit = alone (get_or v 0 0) (fit_at (filled (verdict_fields (Refused n)) v) 0 fit (lit< tt))
answer-read Done v coded fit = alone (get_or v 0 0) (fit_at (filled (verdict_fields Done) v) 0 fit (lit< tt))
answer-read (Epoch e) v coded fit = rw (coded refl)
answer-read (Listed m) v coded fit = rw (coded refl, list-zero (fit_at (filled (verdict_fields (Listed m)) v) 1 fit (lit< tt)))
answer-read (Found n) v coded fit = rw (coded refl)
answer-read Collected v coded fit = rw (coded refl, list-zero (fit_at (filled (verdict_fields Collected) v) 1 fit (lit< tt)))

module _ (bs : List ℕ) (tag : get_or bs 0 0 ≡ verdict_tag) where
  well : (a : Answer) (l : List ℕ) → Rewrites bs l (verdict_fields a) → WrittenAs bs (formed a l)
  well a l r = picked (WrittenAs bs) (verdict_formed a l) (IsVerdict a l) NoVerdict (λ e. (e, r.0, rw tag at r.1)) (λ e. tt)

  reply : (a : Answer) (w : Walked) → RewritesBy bs (verdict_fields a) w → WrittenAs bs (reply_of_walk a w)
  reply a Broken u = tt
  reply a (FieldsFound v l) u =
      picked (WrittenAs bs) (is_alone a) given (cond (eqb (get_or v 0 0) 0) given NoVerdict) (λ e. read (λ other. true-false (is_alone a) e other))
      (λ e. picked (WrittenAs bs) (eqb (get_or v 0 0) 0) given NoVerdict (λ f. read (λ other. eqb-true (get_or v 0 0) 0 f)) (λ f. tt))
    where
      given : Decoded
      given = formed (answer_from a v) l

      read : (is_alone a ≡ false → get_or v 0 0 ≡ 0) → WrittenAs bs given
      read coded = well (answer_from a v) l (rewrites_as bs l (filled (verdict_fields a) v) (verdict_fields (answer_from a v)) u (answer-read a v coded))

writes : (bs : List ℕ) → are_bytes bs ≡ true → WrittenAs bs (decode_verdict bs)
unfolding decode_verdict
writes bs bytes =
    let tests = leb 3 (length bs) ∷ eqb (get_or bs 0 0) verdict_tag ∷ eqb (claimed bs) (length bs - 3) ∷ [] in
    let shape = shape_of bs in
    let walked = walk (verdict_fields shape) (drop 3 bs) in
    picked (WrittenAs bs) (conj tests) (reply_of_walk shape walked) NoVerdict
    (λ e.
    let t = conj-true tests e in
    reply bs (eqb-true (get_or bs 0 0) verdict_tag t.1.0) shape walked (record_read (verdict_fields shape) bs (line shape).tidy bytes (and_both _ _ t.0 t.1.1.0)))
    (λ e. tt)

writes_read_lem : (bs : List ℕ) (a : Answer) (l : List ℕ) → are_bytes bs ≡ true → decode_verdict bs ≡ IsVerdict a l → WrittenAs bs (IsVerdict a l)
writes_read_lem bs a l bytes h = subst (WrittenAs bs) h (writes bs bytes)

-- ---- all else

refuses-other : (bs : List ℕ) → are_bytes bs ≡ true
    → ((a : Answer) (l : List ℕ) → verdict_formed a l ≡ true → all_fit (verdict_fields a) l ≡ true → encode_verdict a l ≡ bs → ⊥)
    → decode_verdict bs ≡ NoVerdict
refuses-other bs bytes never = read (decode_verdict bs) (writes bs bytes)
  where
    read : (d : Decoded) → WrittenAs bs d → d ≡ NoVerdict
    read NoVerdict w = refl
    read (IsVerdict a l) w = absurd (never a l w.0 w.1 w.2)

pub verdict-round_trip : VerdictRoundTrip
unfolding total
verdict-round_trip = record {
  reads_written = reads_written_lem;
  writes_read = writes_read_lem;
  refuses = refuses-other;
  longest = λ a l h. omega (arith, length_record verdict_tag (verdict_fields a) l, (line a).short l h);
  met = λ l h. omega (arith, length_record verdict_tag (verdict_fields Collected) l);
  longest_is = refl;
}
