-- `fields::put_head` meets its contract: the tag stands first, then the length, then what stood there.
-- Assumes nothing.
use Rattle.std.proofs.Common.{◌≡◌, ℕ, ◌%◌, ◌∷◌, [], ap₂, ◌∙◌, arith}
use Rattle.fields.specs.Bytes.{be}
use Rattle.fields.proofs.Bytes.{high_first}
use Rattle.fields.proofs.Fields.{over-head}
use Rattle.fields.proofs.put_head.Goals as goal

two_bytes : (n : ℕ) → be 2 (n % 65536) ≡ be 2 n
unfolding be
two_bytes n = ap₂ (λ (a b : ℕ). a ∷ b ∷ []) (omega arith) (omega arith)

pub returns : goal.returns
returns c =
    let n = c.args.n in
    over-head c.args.tag n c.args.out.now c.copy_from_slice.new.self c.requires (c.copy_from_slice.ensures.after ∙ c.to_be_bytes.ensures ∙ high_first 2 (n % 65536) ∙ two_bytes n)
