use mathlib.Core.Path.{◌≡◌, refl, sym, ap, ◌∙◌}
use mathlib.Core.Bool.{Bool, true, false, cond}
use mathlib.Core.List.{List, [], ◌∷◌, ◌++◌, map}
use Prim.Native.Nat.{ℕ, ◌-◌, ◌≤◌, ◌<◌, ◌^◌}
use native.Mathlib.Omega.{arith}
use lib.ListN.{length, length-map, length-append}
use lib.Pow.{pow_mono}
use mir.Val.{bool_byte}
use Rattle.std.proofs.Common.{rules, append_assoc}
use Rattle.std.proofs.lemmas.List.{nil_from_length}
use Rattle.rules.specs.Limits.{word_bits}
use Rattle.rules.specs.Table.{nonzero}
use Rattle.objects.specs.Occupancy.{word}
use Rattle.objects.proofs.Words.{digit_le, word_lt}
use Rattle.objects.proofs.occupancy.word_of.Goals.{In-Some}
use Rattle.objects.proofs.occupancy.word_of.Goals as goal

-- the word of fewer places than its bits has room for one more
room : (ns : List ℕ) → length ns < word_bits → word (map nonzero ns) < 2 ^ (word_bits - 1)
room ns h =
    let many = length-map ns nonzero in
    let top : 2 ^ length (map nonzero ns) ≤ 2 ^ (word_bits - 1) = pow_mono {i = length (map nonzero ns)} {j = word_bits - 1} (omega arith) in
    omega (arith, word_lt (map nonzero ns), top)

module _ (c : In-Some) where
  abbrev passed : List ℕ
  passed = c.loop-number.invariant.0

  abbrev left : List ℕ
  left = c.next.new.self.iter.rest.now

  abbrev number : ℕ
  number = c.in-Some.number.now

  split : c.args.numbers.now ≡ left ++ number ∷ passed
  split = c.loop-number.invariant.1 ∙ ap (λ (ns : List ℕ). ns ++ passed) c.in-Some.ensures.steps ∙ append_assoc left (number ∷ []) passed

  small : c.loop-number.word < 2 ^ (word_bits - 1)
  small = omega (arith, c.loop-number.invariant.2, room passed (omega (arith, c.requires, ap length split, length-append left (number ∷ passed))))

-- a test's number is its digit in the word
bit : (b : Bool) → bool_byte b ≡ cond b 1 0
bit true = refl
bit false = refl

pub loop-number-init : goal.loop-number-init
unfolding word
loop-number-init c = ([], search rules, refl)

pub overflow_mul-word : goal.overflow_mul-word
overflow_mul-word c = omega (arith, small c)

pub overflow_add-word : goal.overflow_add-word
overflow_add-word c = omega (arith, small (goal.at.overflow_add-word c).In-Some, c.from.ensures, bit (nonzero c.in-Some.number.now), digit_le (nonzero c.in-Some.number.now))

pub loop-number-preserved : goal.loop-number-preserved
unfolding word
loop-number-preserved c =
    let s = (goal.at.loop-number-preserved c).In-Some in
    (number s ∷ passed s, split s, omega (arith, c.from.ensures, bit (nonzero (number s)), c.loop-number.invariant.2))

pub returns : goal.returns
returns c =
    let h = c.loop-number.invariant in
    let none = nil_from_length c.loop-number.number-iterator.iter.rest.now c.in-None.ensures.steps.0 in
    h.2 ∙ ap (λ (ns : List ℕ). word (map nonzero ns)) (sym (h.1 ∙ ap (λ (ns : List ℕ). ns ++ h.0) none))
