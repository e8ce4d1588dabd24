-- Laws of a ledger's places as numbers, over what a place is and how many numbers it has. Assumes nothing.
use mathlib.Core.Path.{◌≡◌, refl, sym, ap, ap₂, subst, ◌∙◌}
use mathlib.Core.Bool.{Bool, ◌&&◌}
use mathlib.Core.List.{List, [], ◌∷◌, ◌++◌, append_assoc, append-nil}
use Prim.Native.Nat.{ℕ, zero, suc, ◌+◌, ◌*◌, ◌≤◌, ◌<◌}
use native.Mathlib.Nat.{mul-zero, mul-suc, suc-mul, zero-add}
use native.Mathlib.Numerals.{add-one}
use native.Mathlib.Omega.{arith}
use lib.ListN.{length, get_or, take, drop, set, drop_of_length-le, length-append, length-drop}
use lib.Seq.{take_all, drop-cons, drop-drop, length-take-le, set_at, take_at, drop_at}
use Rattle.fields.specs.Fields.{over}
use Rattle.rules.specs.Lists.{conj}
use denote.Param.Members.{Mut}
use Rattle.std.specs.Array.{IsFromFnResult, IsFromFnResultFrom}
use Rattle.std.specs.Fn.{Called}
use Rattle.std.proofs.lemmas.List.{take_more, drop-take}
use Rattle.std.specs.List.{list_all}
use Rattle.std.specs.Simd.{first_chunks}
use Rattle.fields.proofs.Bytes.{take_next}
use Rattle.ledger_numbers.specs.Numbers.{each, flat}

next_place : (size i : ℕ) → size * i + size ≡ size * (i + 1)
next_place size i = rw add-one (sym (mul-suc size i))

-- In

-- an array that calls made, each from a place's numbers on, where no call changes what the closure keeps
module _ {F A : Type 0} {g : Mut F (ℕ × Unit {0}) A} {f : F} (items : List A) (said : List ℕ → A) (size : ℕ) (v : List ℕ) (call : (i : ℕ) (x : A) (q : F) → Called g f (i, tt) x q → (q ≡ f) × (x ≡ said (drop (size * i) v))) where
  made-from : (i n : ℕ) → length items ≡ i + n → IsFromFnResultFrom g f items i n → drop i items ≡ each said size n (drop (size * i) v)
  unfolding each
  made-from i zero long r = drop_of_length-le items (omega arith)
  made-from i (suc n) long (q, x, at, called, r) =
      let one = call i x q called in
      let rest = made-from (i + 1) n (omega arith) (subst (λ p. IsFromFnResultFrom g p items (i + 1) n) one.0 r) in
      drop-cons items i x (omega arith)
      ∙ ap₂ ◌∷◌ (at.0 ∙ one.1) (rw (← add-one, rest, ← next_place, ← drop-drop))

  pub each-made : {k : ℕ} → IsFromFnResult g f items k → items ≡ each said size k v
  each-made {k} r = made-from 0 k (r.long ∙ sym (zero-add k)) r.each ∙ rw mul-zero

-- a test of every place, which reads no more than the place
pub all-chunks : (p : List ℕ → Bool) (size : ℕ) → ((n : ℕ) (w : List ℕ) → size ≤ n → p (take n w) ≡ p w) → (k : ℕ) (v : List ℕ) → list_all p (first_chunks size k (take (k * size) v)) ≡ conj (each p size k v)
unfolding each conj
all-chunks p size own zero v = refl
all-chunks p size own (suc k) v =
    let all : suc k * size ≡ size + k * size = omega (arith, suc-mul k size) in
    let cut = take (suc k * size) v in
    let rest : drop size cut ≡ take (k * size) (drop size v) = rw all (drop-take size (k * size) v) in
    ap₂ ◌&&◌ (own size cut (omega arith) ∙ own (suc k * size) v (omega arith))
    (rw rest (all-chunks p size own k (drop size v)))

-- Out

flat-append : {A : Type 0} (f : A → List ℕ) (xs ys : List A) → flat f (xs ++ ys) ≡ flat f xs ++ flat f ys
unfolding flat
flat-append f [] ys = refl
flat-append f (x ∷ xs) ys = ap (f x ++◌) (flat-append f xs ys) ∙ sym (append_assoc (f x) (flat f xs) (flat f ys))

-- what is written of the items before any, after one more, and after all
module _ {A : Type 0} (f : A → List ℕ) (size : ℕ) (items : List A) (out : List ℕ) where
  pub flat-none : take (size * 0) out ≡ flat f []
  unfolding flat
  flat-none = rw mul-zero

  pub flat-next : (i : ℕ) (x : A) (ys rest : List ℕ) → i < length items → x ≡ get_or items i x → size * i ≤ length out → ys ≡ f x → length ys ≡ size → take (size * i) out ≡ flat f (take i items)
      → take (size * (i + 1)) (take (size * i) out ++ (ys ++ rest)) ≡ flat f (take (i + 1) items)
  unfolding flat
  flat-next i x ys rest h at room put long inv =
      let all = take_more items i x h ∙ ap (λ (y : A). take i items ++ (y ∷ [])) (sym at) in
      let ends : length (take (size * i) out) + length ys ≡ size * (i + 1) = omega (arith, length-take-le (size * i) out room, long, next_place size i) in
      take_next (take (size * i) out) ys rest (size * (i + 1)) ends
      ∙ rw (all, flat-append, append-nil, inv, put)

  pub flat-done : (i : ℕ) → length items ≤ i → length out ≤ size * i → take (size * i) out ≡ flat f (take i items) → out ≡ flat f items
  flat-done i h fits inv = rw (take_all (size * i) out fits, take_all i items h) at inv

-- a part behind others, written
part_at : (p q : List ℕ) (a k : ℕ) (ys : List ℕ) → length p ≡ a → take a (p ++ q) ++ (ys ++ drop k (drop a (p ++ q))) ≡ p ++ (ys ++ drop k q)
part_at p q a k ys h = rw (take_at p q a h, drop_at p q a h)

-- what lies there now: the k numbers p, and then what was there
pub record Lying (out p : List ℕ) (k : ℕ) (now : List ℕ) : Type 0 where
  pub same : now ≡ p ++ drop k out
  pub many : length p ≡ k
  pub room : k ≤ length out

pub lying_long : {out p now : List ℕ} {k : ℕ} → Lying out p k now → length now ≡ length out
lying_long {out} {p} {now} {k} l = ap length l.same ∙ length-append p (drop k out) ∙ omega (arith, length-drop k out, l.many, l.room)

pub lying_none : {out : List ℕ} → Lying out [] 0 out
lying_none = record { same = refl; many = refl; room = omega arith }

-- one number behind them
pub lying_one : {out p now : List ℕ} {k : ℕ} (n : ℕ) → Lying out p k now → k < length out → Lying out (p ++ n ∷ []) (k + 1) (set now k n)
lying_one {out} {p} {now} {k} n l h = record {
  same = ap (λ (o : List ℕ). set o k n) (l.same ∙ ap (p ++◌) (drop-cons out k 0 h)) ∙ set_at p (get_or out k 0) (drop (suc k) out) n k l.many ∙ rw (append_assoc, add-one);
  many = length-append p (n ∷ []) ∙ omega (arith, l.many);
  room = omega arith;
}

-- a part behind them, as long as the place that is lent for it
pub lying_part : {out p now ys xs : List ℕ} {k : ℕ} (j : ℕ) → Lying out p k now → ys ≡ xs → length ys ≡ length (take j (drop k now)) → k + j ≤ length out → Lying out (p ++ xs) (k + j) (take k now ++ (ys ++ drop j (drop k now)))
lying_part {out} {p} {now} {ys} {xs} {k} j l e long h = record {
  same = ap (λ (o : List ℕ). take k o ++ (ys ++ drop j (drop k o))) l.same ∙ part_at p (drop k out) k j ys l.many ∙ rw (e, drop-drop, append_assoc);
  many = length-append p xs ∙ omega (arith, ap length e, long, length-take-le j (drop k now) (omega (arith, length-drop k now, lying_long l)), l.many);
  room = h;
}

-- as many as there is room for are all there is
pub lying_all : {out p now : List ℕ} {k : ℕ} → Lying out p k now → length out ≤ k → now ≡ p
lying_all {out} {p} {now} {k} l h = rw (drop_of_length-le out h, append-nil) at l.same

-- what is lent at the start and filled lies over the rest
pub over-lent : (from ys to : List ℕ) (n : ℕ) → ys ≡ from → length ys ≡ n → over from to ≡ ys ++ drop n to
over-lent from ys to n e h =
    let g : length from ≡ n = ap length (sym e) ∙ h in
    rw (g, e)
