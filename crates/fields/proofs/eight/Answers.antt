-- `fields::eight` meets its contract: eight bytes are two halves, and a register keeps all of them.
-- Assumes nothing.
use Rattle.std.proofs.Common.{◌≡◌, ◌+◌, get_or, List, ℕ, add_assoc, arith}
use Rattle.fields.proofs.Bytes.{value_halves, value_four}
use Rattle.fields.proofs.eight.Goals as goal

pub returns : goal.returns
returns c =
    let at = c.args.at in
    let s = c.args.s.now in
    omega (arith, value_halves at s 4 4 (omega arith), value_four at s (omega arith), value_four (at + 4) s (omega arith), behind at s 1, behind at s 2, behind at s 3)
  where
    behind : (at : ℕ) (s : List ℕ) (k : ℕ) → get_or s (at + 4 + k) 0 ≡ get_or s (at + (4 + k)) 0
    behind at s k = rw (add_assoc at 4 k)
