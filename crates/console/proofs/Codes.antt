-- A verdict's code stands behind two heads.
-- Assumes nothing.
use mathlib.Core.Path.{◌≡◌, refl, ◌∙◌}
use mathlib.Core.Bool.{true}
use mathlib.Core.List.{List, ◌++◌}
use Prim.Native.Nat.{ℕ, ◌<◌, ◌%◌}
use native.Mathlib.Nat.{mod-eq_of_lt}
use native.Mathlib.Omega.{arith}
use lib.Dec.{leb}
use lib.ListN.{get_or}
use borrow.Author.Tests.{leb-true}
use Rattle.fields.specs.Bytes.{be}
use Rattle.rules.specs.declared.Answer.{Answer}
use Rattle.rules.specs.declared.Answer.TheVariants.{Refused, Done, Epoch, Listed, Found, Collected}
use Rattle.rules.specs.Lists.{conj, none}
use Rattle.rules.specs.Step.{code}
use Rattle.rules.specs.Table.{nonzero}
use Rattle.rules.proofs.Lists.{and_left, and_right}
use Rattle.records.specs.Format.{bytes_of}
use Rattle.verdicts.specs.Verdicts.{verdict_formed, encode_verdict, last_row}

code_small : (a : Answer) (l : List ℕ) → verdict_formed a l ≡ true → code a < 256
unfolding verdict_formed conj
code_small (Refused n) l e =
    let few = leb-true n last_row (and_left (leb n last_row) true (and_right (nonzero n) _ (and_right (none l) _ e))) in
    omega (arith, few)
code_small Done l e = omega arith
code_small (Epoch n) l e = omega arith
code_small (Listed m) l e = omega arith
code_small (Found n) l e = omega arith
code_small Collected l e = omega arith

code_byte : (a : Answer) (l rest : List ℕ) → get_or (encode_verdict a l ++ rest) 6 0 ≡ code a % 256
unfolding bytes_of be
code_byte (Refused n) l rest = refl
code_byte Done l rest = refl
code_byte (Epoch n) l rest = refl
code_byte (Listed m) l rest = refl
code_byte (Found n) l rest = refl
code_byte Collected l rest = refl

pub code_shown : (a : Answer) (l rest : List ℕ) → verdict_formed a l ≡ true → get_or (encode_verdict a l ++ rest) 6 0 ≡ code a
code_shown a l rest e = code_byte a l rest ∙ mod-eq_of_lt (code_small a l e)
