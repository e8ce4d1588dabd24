-- What stands in a buffer where a name was put first.
-- Assumes nothing.
use mathlib.Core.Path.{◌≡◌, refl}
use mathlib.Core.List.{List, ◌++◌, append_assoc}
use Prim.Native.Nat.{ℕ, ◌+◌, ◌-◌, ◌≤◌, ◌<◌}
use native.Mathlib.Omega.{arith}
use lib.ListN.{length, drop, length-append}
use lib.Seq.{take_at, drop_at, drop-drop}
use borrow.Author.Tests.{le-ltb, lt-ltb}
use borrow.Rule.Slice.PartMut.{put_mid}
use Rattle.std.specs.Prelude.{Ok, Err}
use Rattle.fields.specs.declared.WriteError.TheVariants.{Full}
use Rattle.store_names.specs.Decimal.{digits}
use Rattle.store_names.specs.Names.{name_digits, put_first}
use Rattle.store_names.proofs.Digits.{length_digits}

-- a part more, from a, where the parts so far end, to b: it goes over what stood there, and the bytes beyond it stay
part_more : (x y buffer : List ℕ) (a b : ℕ) → length x ≡ a → a + length y ≡ b → put_mid a (b - a) (x ++ drop a buffer) y ≡ (x ++ y) ++ drop b buffer
part_more x y buffer a b long end =
    let rest : a + (b - a) ≡ b = omega arith in
    rw (take_at x (drop a buffer) a long, drop_at x (drop a buffer) a long, drop-drop, rest, append_assoc)

module _ (folder suffix buffer : List ℕ) (n : ℕ) where
  length_name : length (folder ++ digits name_digits n ++ suffix) ≡ length folder + name_digits + length suffix
  length_name = simp (length-append, length_digits)

  -- the room is short
  pub no_room : length buffer < length folder + name_digits + length suffix → put_first (folder ++ digits name_digits n ++ suffix) buffer ≡ record { answer = Err Full; buffer = buffer }
  unfolding put_first
  no_room h = rw (length_name, lt-ltb (length buffer) (length folder + name_digits + length suffix) h)

  -- three parts were put, one behind the other
  pub parts_put : (first second third : List ℕ) → first ≡ folder → second ≡ digits name_digits n → third ≡ suffix → length folder + name_digits + length suffix ≤ length buffer
      → put_first (folder ++ digits name_digits n ++ suffix) buffer ≡ record {
        answer = Ok (length folder + name_digits + length suffix);
        buffer = put_mid (length folder + name_digits) (length folder + name_digits + length suffix - (length folder + name_digits)) (put_mid (length folder) (length folder + name_digits - length folder) (first ++ drop (length folder) buffer) second) third;
      }
  unfolding put_first
  parts_put first second third e f g room =
      let a = length folder in
      let b = a + name_digits in
      let two = part_more folder (digits name_digits n) buffer a b refl (omega (arith, length_digits name_digits n)) in
      let three = part_more (folder ++ digits name_digits n) suffix buffer b (b + length suffix) (simp (length-append, length_digits)) refl in
      rw (e, f, g, length_name, le-ltb (length buffer) (b + length suffix) room, two, three)

pub ruleset placing = (no_room, parts_put)
