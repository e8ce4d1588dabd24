-- The writer's cases. Assumes nothing.
use mathlib.Core.Path.{◌≡◌, sym, ap, ◌∙◌}
use mathlib.Core.Bool.{true, false}
use mathlib.Core.List.{List, ◌++◌}
use Prim.Native.Nat.{ℕ, ◌≤◌, ◌<◌}
use native.Mathlib.Omega.{arith}
use lib.ListN.{length, drop}
use borrow.Author.Tests.{lt-ltb, le-ltb}
use Rattle.std.specs.Prelude.{Ok, Err}
use Rattle.fields.specs.Fields.{over}
use Rattle.ledger.specs.declared.Ledger.{Ledger}
use Rattle.ledger.specs.Ledger.{view, is_sound}
use Rattle.image.specs.declared.SaveError.TheVariants.{Unsound, Full}
use Rattle.image.specs.Image.{image_of}
use Rattle.image.specs.Writing.{writing_of}

module _ (l : Ledger) (out : List ℕ) where
  pub write-unsound : is_sound l ≡ false → writing_of l out ≡ record { answer = Err Unsound; buffer = out }
  unfolding writing_of
  write-unsound e = rw e

  module _ (e : is_sound l ≡ true) where
    pub write-full : length out < length (image_of (view l)) → writing_of l out ≡ record { answer = Err Full; buffer = out }
    unfolding writing_of
    write-full h = rw (e, lt-ltb (length out) (length (image_of (view l))) h)

pub write-put : (l : Ledger) (out ys : List ℕ) (n : ℕ) → is_sound l ≡ true → n ≡ length (image_of (view l)) → n ≤ length out → ys ≡ image_of (view l)
    → writing_of l out ≡ record { answer = Ok n; buffer = ys ++ drop n out }
unfolding writing_of
write-put l out ys n e size room same =
    let laid : over (image_of (view l)) out ≡ ys ++ drop n out = ap (λ (k : ℕ). image_of (view l) ++ drop k out) (sym size) ∙ ap (λ (b : List ℕ). b ++ drop n out) (sym same) in
    rw (e, le-ltb (length out) (length (image_of (view l))) (omega (arith, size, room))) (λ i. record { answer = Ok (sym size i); buffer = laid i })
