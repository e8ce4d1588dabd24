-- Laws of bytes laid over the start of a buffer. Assumes nothing.
use mathlib.Core.Path.{◌≡◌, refl, sym, ap, ap₂, ◌∙◌}
use mathlib.Core.List.{List, [], ◌++◌, append_assoc, append-nil}
use Prim.Native.Nat.{ℕ, ◌+◌, ◌-◌, ◌≤◌}
use native.Mathlib.Omega.{arith}
use lib.ListN.{length, take, drop, length-append, length-drop, drop_of_length-le}
use lib.Seq.{take_all, take_at, drop_at, drop-drop}
use Rattle.fields.specs.Fields.{over}
use Rattle.records.proofs.Pieces.{behind, over-all, length_over}
use Rattle.image.specs.Code.{Put}

-- what is lent from a on to the end
pub tail : (a : ℕ) (l : List ℕ) → take (length l - a) (drop a l) ≡ drop a l
tail a l = take_all (length l - a) (drop a l) (omega (arith, length-drop a l))

-- bytes behind others, in what is lent from there to the end
pub over_more : (p x out now ys : List ℕ) (a : ℕ) → now ≡ over p out → a ≡ length p → ys ≡ over x (take (length now - a) (drop a now))
    → take a now ++ (ys ++ drop (length now - a) (drop a now)) ≡ over (p ++ x) out
over_more p x out now ys a e h put =
    let front : take a now ≡ p = ap (take a) e ∙ take_at p (drop (length p) out) a (sym h) in
    let rest : drop a now ≡ drop (length p) out = ap (drop a) e ∙ drop_at p (drop (length p) out) a (sym h) in
    let none : drop (length now - a) (drop a now) ≡ [] = drop_of_length-le (drop a now) {i = length now - a} (omega (arith, length-drop a now)) in
    let laid : ys ≡ x ++ drop (length (p ++ x)) out =
    put ∙ ap (over x) (tail a now ∙ rest) ∙ ap (x ++◌) (drop-drop (length x) (length p) out ∙ ap (λ (k : ℕ). drop k out) (sym (length-append p x))) in
    ap₂ (λ (u v : List ℕ). u ++ (ys ++ v)) front none ∙ ap (λ (v : List ℕ). p ++ v) (append-nil ys ∙ laid) ∙ sym (append_assoc p x (drop (length (p ++ x)) out))

-- what is lent from there on has room for what is left
pub rest-room : (p out now : List ℕ) (a : ℕ) → now ≡ over p out → a ≡ length p → length p ≤ length out → length (take (length now - a) (drop a now)) ≡ length out - length p
rest-room p out now a e h fits =
    ap length (tail a now) ∙ omega (arith, length-drop a now, ap length e, length_over p out fits, h)

-- ---- part behind part: what lies there now is p, of k bytes, and then what was there

pub record Lies (out p now : List ℕ) (k : ℕ) : Type 0 where
  pub same : now ≡ over p out
  pub count : length p ≡ k
  pub room : k ≤ length out

pub lies_none : (out : List ℕ) → Lies out [] out 0
lies_none out = record { same = refl; count = refl; room = omega arith }

pub lies_front : (out x ys : List ℕ) (k : ℕ) → ys ≡ x → length x ≡ k → k ≤ length out → Lies out x (ys ++ drop k out) k
lies_front out x ys k e h room = record { same = ap (λ (b : List ℕ). b ++ drop k out) e ∙ ap (λ (j : ℕ). x ++ drop j out) (sym h); count = h; room = room }

module _ {out p now : List ℕ} {k : ℕ} (l : Lies out p now k) where
  pub lies_long : length now ≡ length out
  lies_long = ap length l.same ∙ length_over p out (omega (arith, l.count, l.room))

  -- a part of j bytes that is filled
  pub lies_part : {x ys : List ℕ} (j : ℕ) → ys ≡ x → length x ≡ j → k + j ≤ length out → Lies out (p ++ x) (take k now ++ (ys ++ drop j (drop k now))) (k + j)
  lies_part {x} {ys} j e h room = record {
    same = ap (λ (o : List ℕ). take k o ++ (ys ++ drop j (drop k o))) l.same ∙ ap (λ (b : List ℕ). take k (over p out) ++ (b ++ drop j (drop k (over p out)))) e ∙ behind k j p x out l.count h room;
    count = length-append p x ∙ omega (arith, l.count, h);
    room = room;
  }

  -- all that is left is lent, and the front of it is laid over
  pub lies_left : length (take (length now - k) (drop k now)) ≡ length out - k
  lies_left = rest-room p out now k l.same (sym l.count) (omega (arith, l.count, l.room)) ∙ omega (arith, l.count)

  pub lies_rest : {x ys : List ℕ} {n : ℕ} → Put x (take (length now - k) (drop k now)) ys n → k + length x ≤ length out
      → Lies out (p ++ x) (take k now ++ (ys ++ drop (length now - k) (drop k now))) (k + n)
  lies_rest {x} {ys} {n} put room = record {
    same = over_more p x out now ys k l.same (sym l.count) put.laid;
    count = length-append p x ∙ omega (arith, l.count, put.count);
    room = omega (arith, put.count, room);
  }

  -- that is the front of the buffer
  pub lies_put : Put p out now k
  lies_put = record { count = sym l.count; laid = l.same }

  pub lies_all : length out ≡ k → now ≡ p
  lies_all e = l.same ∙ over-all p out (omega (arith, l.count, e))
