-- Facts about the table of verdicts: numbers in their places say what they say.
-- Assumes nothing.
use mathlib.Core.Path.{◌≡◌, refl}
use mathlib.Core.List.{List, ◌++◌}
use Prim.Native.Nat.{ℕ, ◌-◌}
use lib.ListN.{length, replicate}
use Rattle.rules.specs.declared.Answer.{Answer}
use Rattle.rules.specs.declared.Answer.TheVariants.{Refused, Done, Epoch, Listed, Found, Collected}
use Rattle.records.specs.Format.{most_fields}
use Rattle.records.specs.Found.{placed_all}
use Rattle.records.specs.Walk.{Walked, Found as FieldsFound, Broken}
use Rattle.records.proofs.Places.{padded_get}
use Rattle.verdicts.specs.Verdicts.{answer_from, reply_of_walk}

answer_placed : (shape : Answer) (v : List ℕ) (k : ℕ) → answer_from shape (v ++ replicate k 0) ≡ answer_from shape v
answer_placed (Refused n) v k = simp padded_get
answer_placed Done v k = simp padded_get
answer_placed (Epoch e) v k = simp padded_get
answer_placed (Listed m) v k = simp padded_get
answer_placed (Found n) v k = simp padded_get
answer_placed Collected v k = refl

pub reply_placed : (shape : Answer) (w : Walked) → reply_of_walk shape (placed_all w) ≡ reply_of_walk shape w
reply_placed shape Broken = refl
reply_placed shape (FieldsFound v l) = rw (answer_placed shape v (most_fields - length v), padded_get v (most_fields - length v) 0)
