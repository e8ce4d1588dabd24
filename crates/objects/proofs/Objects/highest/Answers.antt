use mathlib.Core.Path.{◌≡◌, refl, ap₂, ◌∙◌}
use mathlib.Core.Bool.{Bool, true, false, cond}
use mathlib.Core.List.{List, ◌∷◌}
use Prim.Native.Nat.{ℕ, ◌+◌, ◌<◌, max}
use native.Mathlib.Numerals.{add-one}
use native.Mathlib.Omega.{arith}
use lib.Dec.{eqb}
use lib.ListN.{length, get_or, drop}
use lib.Seq.{drop-cons}
use Rattle.std.proofs.lemmas.Bool.Decides.{nat_tests}
use Rattle.rules.specs.declared.Object.{Object}
use Rattle.rules.specs.Lists.{keep, maximum}
use Rattle.objects.specs.Objects.{currency_among, currency_in, of_currency_in}
use Rattle.objects.proofs.Places.{currency_among_lem}
use Rattle.objects.proofs.Objects.highest.Goals as goal

-- the highest of the list from place i on
abbrev from : List Object → ℕ → List ℕ → ℕ → ℕ
from ps c l i = maximum (of_currency_in ps c (drop i l))

highest : (b : Bool) (n : ℕ) (l : List ℕ) → maximum (cond b (n ∷ l) l) ≡ cond b (max n (maximum l)) (maximum l)
unfolding maximum
highest true n l = refl
highest false n l = refl

next : (ps : List Object) (c : ℕ) (l : List ℕ) (i : ℕ) → i < length l
    → from ps c l i ≡ cond (eqb (currency_in ps (get_or l i 0)) c) (max (get_or l i 0) (from ps c l (i + 1))) (from ps c l (i + 1))
unfolding keep
next ps c l i here = rw (add-one, drop-cons l i 0 here) (highest _ _ _)

pub loop-name-preserved : goal.loop-name-preserved
loop-name-preserved c =
    let s = c.args in
    let n = get_or s.list.now c.loop-name.name-index 0 in
    let is : c.currency_among.result ≡ currency_in s.self.items n =
    c.currency_among.ensures ∙ ap₂ (λ (ns cs : List ℕ). currency_among ns cs n) c.numbers-numbers.ensures c.currencies-currencies.ensures ∙ currency_among_lem s.self.items n in
    let more = next s.self.items s.currency s.list.now c.loop-name.name-index c.loop-name-test.true in
    grind (arith, nat_tests, is, more)
