-- What C's calls on records answer, and what they leave in the slices that are lent to be written.
-- Assumes nothing.
use Rattle.std.specs.Prelude.{cond, List, [], ◌∷◌, ℕ, eqb, ltb, length, take, get_or, Option, Some, None}
use Rattle.fields.specs.Fields.{over}
use Rattle.rules.specs.declared.Role.{Role}
use Rattle.rules.specs.declared.Kind.{Kind}
use Rattle.rules.specs.declared.Kind.TheVariants.{Fence as FENCE, Put as PUT, Commit as COMMIT, Compact as COMPACT, Hold as HOLD, Renew as RENEW, Release as RELEASE, List as LIST, Look as LOOK, Collect as COLLECT}
use Rattle.rules.specs.declared.Answer.{Answer}
use Rattle.rules.specs.declared.Answer.TheVariants.{Refused, Done, Epoch, Listed, Found, Collected}
use Rattle.rules.specs.declared.Step.{Step}
use Rattle.rules.specs.declared.Verdict.{Verdict}
use Rattle.rules.specs.Limits.{limits}
use Rattle.records.specs.Steps.{decode_step, step_read, with_role}
use Rattle.verdicts.specs.Verdicts.{decode_verdict, verdict_read}
use Rattle.records.specs.Writing.{reading_code, write_code, Writing, step_writing}
use Rattle.verdicts.specs.Verdicts.{verdict_writing}
use Rattle.ledger_numbers.specs.Numbers.{role_number}
use Rattle.exports.specs.Names.{Call}

-- the answer of a reader, and every element of its two slices
pub record Lent : Type 0 where
  pub answer : ℕ
  pub numbers : List ℕ
  pub list : List ℕ

-- how many numbers a step and a verdict have, beside the list
abbrev pub step_size : ℕ
step_size = 11

abbrev pub verdict_size : ℕ
verdict_size = 3

-- 3 where a slice is too short, and nothing is read
abbrev pub lent_both : ℕ → ℕ → List ℕ → List ℕ → Lent → Lent
lent_both n m numbers list rest =
    cond (ltb (length numbers) n) (record { answer = 3; numbers = numbers; list = list })
    (cond (ltb (length list) m) (record { answer = 3; numbers = numbers; list = list })
    rest)

-- 0 with both slices filled from the start by what was read, 2 with both as they were
abbrev pub told : {A : Type 0} → Option A → (A → List ℕ) → (A → List ℕ) → List ℕ → List ℕ → Lent
told {A = A} None a b numbers list = record { answer = reading_code {A = A} None; numbers = numbers; list = list }
told (Some x) a b numbers list = record { answer = reading_code (Some x); numbers = over (a x) numbers; list = over (b x) list }

abbrev pub written : Writing → Call
written w = record { answer = write_code w.answer; left = w.buffer }

-- Steps

-- kind, time, role, epoch, slot, object, currency, hold, manifest, expiry, and how long the list is; 0 for what the kind does not have
abbrev pub step_numbers : ℕ → Kind → ℕ → List ℕ
step_numbers t (FENCE r s) n = 0 ∷ t ∷ role_number r ∷ 0 ∷ s ∷ 0 ∷ 0 ∷ 0 ∷ 0 ∷ 0 ∷ n ∷ []
step_numbers t (PUT r e o c) n = 1 ∷ t ∷ role_number r ∷ e ∷ 0 ∷ o ∷ c ∷ 0 ∷ 0 ∷ 0 ∷ n ∷ []
step_numbers t (COMMIT e s) n = 2 ∷ t ∷ 0 ∷ e ∷ s ∷ 0 ∷ 0 ∷ 0 ∷ 0 ∷ 0 ∷ n ∷ []
step_numbers t (COMPACT e s o) n = 3 ∷ t ∷ 0 ∷ e ∷ s ∷ o ∷ 0 ∷ 0 ∷ 0 ∷ 0 ∷ n ∷ []
step_numbers t (HOLD h m x) n = 4 ∷ t ∷ 0 ∷ 0 ∷ 0 ∷ 0 ∷ 0 ∷ h ∷ m ∷ x ∷ n ∷ []
step_numbers t (RENEW h x) n = 5 ∷ t ∷ 0 ∷ 0 ∷ 0 ∷ 0 ∷ 0 ∷ h ∷ 0 ∷ x ∷ n ∷ []
step_numbers t (RELEASE h) n = 6 ∷ t ∷ 0 ∷ 0 ∷ 0 ∷ 0 ∷ 0 ∷ h ∷ 0 ∷ 0 ∷ n ∷ []
step_numbers t (LIST h) n = 7 ∷ t ∷ 0 ∷ 0 ∷ 0 ∷ 0 ∷ 0 ∷ h ∷ 0 ∷ 0 ∷ n ∷ []
step_numbers t (LOOK c h) n = 8 ∷ t ∷ 0 ∷ 0 ∷ 0 ∷ 0 ∷ c ∷ h ∷ 0 ∷ 0 ∷ n ∷ []
step_numbers t COLLECT n = 9 ∷ t ∷ 0 ∷ 0 ∷ 0 ∷ 0 ∷ 0 ∷ 0 ∷ 0 ∷ 0 ∷ n ∷ []

abbrev pub step_told : Option Step → List ℕ → List ℕ → Lent
step_told r numbers list =
    told r (λ (p : Step). step_numbers p.time p.kind p.list.count) (λ (p : Step). p.list.names) numbers list

unfoldable pub read_step : List ℕ → List ℕ → List ℕ → Lent
read_step bytes numbers list = lent_both step_size limits.names numbers list (step_told (step_read (decode_step bytes)) numbers list)

-- the kind that the numbers of a step say; those that it does not have play no part
abbrev pub fence_of : ℕ → ℕ → Option Kind
fence_of r s = with_role r (λ (w : Role). FENCE w s)

abbrev pub put_of : ℕ → ℕ → ℕ → ℕ → Option Kind
put_of r e o c = cond (ltb 65535 c) None (with_role r (λ (w : Role). PUT w e o c))

abbrev pub look_of : ℕ → ℕ → Option Kind
look_of c h = cond (ltb 65535 c) None (Some (LOOK c h))

unfoldable pub kind_of : List ℕ → Option Kind
kind_of v =
    cond (eqb (get_or v 0 0) 0) (fence_of (get_or v 2 0) (get_or v 4 0))
    (cond (eqb (get_or v 0 0) 1) (put_of (get_or v 2 0) (get_or v 3 0) (get_or v 5 0) (get_or v 6 0))
    (cond (eqb (get_or v 0 0) 2) (Some (COMMIT (get_or v 3 0) (get_or v 4 0)))
    (cond (eqb (get_or v 0 0) 3) (Some (COMPACT (get_or v 3 0) (get_or v 4 0) (get_or v 5 0)))
    (cond (eqb (get_or v 0 0) 4) (Some (HOLD (get_or v 7 0) (get_or v 8 0) (get_or v 9 0)))
    (cond (eqb (get_or v 0 0) 5) (Some (RENEW (get_or v 7 0) (get_or v 9 0)))
    (cond (eqb (get_or v 0 0) 6) (Some (RELEASE (get_or v 7 0)))
    (cond (eqb (get_or v 0 0) 7) (Some (LIST (get_or v 7 0)))
    (cond (eqb (get_or v 0 0) 8) (look_of (get_or v 6 0) (get_or v 7 0))
    (cond (eqb (get_or v 0 0) 9) (Some COLLECT) None)))))))))

-- the step of that kind, with its time and its list
abbrev pub step_of : List ℕ → List ℕ → Kind → Step
step_of numbers list k = record { time = get_or numbers 1 0; kind = k; list = record { count = get_or numbers 10 0; names = take limits.names list } }

abbrev pub step_written : Option Kind → List ℕ → List ℕ → List ℕ → Call
step_written None numbers list buffer = record { answer = 2; left = buffer }
step_written (Some k) numbers list buffer = written (step_writing (step_of numbers list k) buffer)

unfoldable pub write_step : List ℕ → List ℕ → List ℕ → Call
write_step numbers list buffer =
    cond (ltb (length numbers) step_size) (record { answer = 3; left = buffer })
    (cond (ltb (length list) limits.names) (record { answer = 3; left = buffer })
    (step_written (kind_of numbers) numbers list buffer))

-- Verdicts

-- 0 a refusal with its row, 1 the code alone, 2 an epoch, 3 a manifest with its list, 4 an object, 5 a list; the value; how long the list is
abbrev pub verdict_numbers : Answer → ℕ → List ℕ
verdict_numbers (Refused r) n = 0 ∷ r ∷ n ∷ []
verdict_numbers Done n = 1 ∷ 0 ∷ n ∷ []
verdict_numbers (Epoch e) n = 2 ∷ e ∷ n ∷ []
verdict_numbers (Listed m) n = 3 ∷ m ∷ n ∷ []
verdict_numbers (Found o) n = 4 ∷ o ∷ n ∷ []
verdict_numbers Collected n = 5 ∷ 0 ∷ n ∷ []

abbrev pub verdict_told : Option Verdict → List ℕ → List ℕ → Lent
verdict_told r numbers list =
    told r (λ (v : Verdict). verdict_numbers v.answer v.list.count) (λ (v : Verdict). v.list.objects) numbers list

unfoldable pub read_verdict : List ℕ → List ℕ → List ℕ → Lent
read_verdict bytes numbers list =
    lent_both verdict_size limits.places numbers list (verdict_told (verdict_read (decode_verdict bytes)) numbers list)

unfoldable pub answer_of : ℕ → ℕ → Option Answer
answer_of case value =
    cond (eqb case 0) (cond (ltb 255 value) None (Some (Refused value)))
    (cond (eqb case 1) (Some Done)
    (cond (eqb case 2) (Some (Epoch value))
    (cond (eqb case 3) (Some (Listed value))
    (cond (eqb case 4) (Some (Found value))
    (cond (eqb case 5) (Some Collected) None)))))

abbrev pub verdict_written : Option Answer → List ℕ → List ℕ → List ℕ → Call
verdict_written None numbers list buffer = record { answer = 2; left = buffer }
verdict_written (Some a) numbers list buffer =
    written (verdict_writing (record { answer = a; list = record { count = get_or numbers 2 0; objects = take limits.places list } }) buffer)

unfoldable pub write_verdict : List ℕ → List ℕ → List ℕ → Call
write_verdict numbers list buffer =
    cond (ltb (length numbers) verdict_size) (record { answer = 3; left = buffer })
    (cond (ltb (length list) limits.places) (record { answer = 3; left = buffer })
    (verdict_written (answer_of (get_or numbers 0 0) (get_or numbers 1 0)) numbers list buffer))
