-- What the fixed places rest on: nine manifests are enough, and a collection fits its verdict.
-- Assumes nothing.
use mathlib.Core.Path.{◌≡◌, refl, sym, ap, ◌∙◌}
use mathlib.Core.Logic.{◌⊎◌, inl, inr}
use mathlib.Core.Bool.{Bool, true, false, not, cond}
use mathlib.Core.List.Memᴰ
use mathlib.Core.List.{List, [], ◌∷◌, map, append-nil}
use Prim.Native.Nat.{ℕ, suc, ◌+◌, ◌*◌, ◌≤◌}
use native.Mathlib.Omega.{arith}
use lib.Dec.{eqb}
use lib.ListN.{length, length-map}
use borrow.Author.Tests.{le-ltb, le-leb, eqb-true, eq-eqb}
use Rattle.rules.specs.declared.Answer.TheVariants.{Refused}
use Rattle.rules.specs.declared.Hold.{Hold}
use Rattle.rules.specs.declared.Kind.TheVariants.{Collect as COLLECT}
use Rattle.rules.specs.declared.Object.{Object}
use Rattle.rules.specs.Limits.{Limits}
use Rattle.rules.specs.Lists.{◌∈◌, any, distinct, has, keep, none}
use Rattle.rules.specs.Request.{Asked, Request}
use Rattle.rules.specs.Sound.{ordered, sound}
use Rattle.rules.specs.State.{Manifest, State, kept, objects, occupied}
use Rattle.rules.specs.Step.{accepts, alone, answers, collected, granted, reply, rows_of, settle, size, verdict}
use Rattle.rules.specs.Table.{rows, well_formed}
use Rattle.rules.specs.Words.{dead}
use Rattle.rules.proofs.Lists.{and_both, any_in, decide, keep_in}
use Rattle.rules.proofs.Numbers.{has_in, keep-length, sorted-length}
use Rattle.rules.proofs.Ordered.{Head, ordered_above, ordered_front, ordered-head, ordered-keep}
use Rattle.rules.proofs.Pigeonhole.{pigeonhole}
use Rattle.rules.proofs.Shape.{Shape, held_of, shape_of}
use Rattle.rules.proofs.Table.{of_clear}

-- Nine manifests are enough

ordered-distinct : (n w c : ℕ) (ms : List Manifest) → ordered n w c ms ≡ true → distinct (map (λ (m : Manifest). m.number) ms) ≡ true
unfolding distinct
ordered-distinct n w c [] e = refl
ordered-distinct n w c (m ∷ ms) e = and_both _ _ (ap not (absent (decide (has m.number ks)))) (ordered-distinct (suc m.number) m.writer_epoch m.compactor_epoch ms k.tail)
  where
    ks : List ℕ
    ks = map (λ (m : Manifest). m.number) ms

    k : Head n w c m ms
    k = ordered-head n w c m ms e

    absent : (has m.number ks ≡ true) ⊎ (has m.number ks ≡ false) → has m.number ks ≡ false
    absent (inl t) =
        let q = Memᴰ.of_map (λ (m : Manifest). m.number) ms (has_in _ _ t) in
        let b = ordered_above (suc m.number) m.writer_epoch m.compactor_epoch ms q.0 k.tail q.1 in
        let c = q.2 in
        absurd (omega arith)
    absent (inr t) = t

-- manifests in order, each held, are no more than the holds
pub held-few : (ms : List Manifest) (xs : List Hold) → ordered 0 0 0 ms ≡ true → ((m : Manifest) → m ∈ ms → (x : Hold) × (x ∈ xs) × (m.number ≡ x.manifest)) → length ms ≤ length xs
held-few ms xs e held =
    let a = length-map ms (λ (m : Manifest). m.number) in
    let b = length-map xs (λ (x : Hold). x.manifest) in
    let c = pigeonhole (map (λ (m : Manifest). m.number) ms) (map (λ (x : Hold). x.manifest) xs) (ordered-distinct 0 0 0 ms e) (λ n i.
    let k = Memᴰ.of_map (λ (m : Manifest). m.number) ms i in
    let h = held k.0 k.1 in
    Memᴰ.cast (sym k.2 ∙ h.2) (Memᴰ.map (λ (x : Hold). x.manifest) h.1)) in
    omega arith

-- the kept manifests that a hold names: what is left of them when a new one comes
pub kept-few : {L : Limits} (s : State) → Shape L s → length (keep (λ m. any (λ x. eqb m.number x.manifest) s.holds) (kept s)) ≤ L.holds
kept-few s r =
    let p : Manifest → Bool = λ m. any (λ (x : Hold). eqb m.number x.manifest) s.holds in
    let e = ordered-keep p 0 0 0 (kept s) [] (ap (ordered 0 0 0) (append-nil (kept s)) ∙ r.ordered) in
    let a = held-few (keep p (kept s)) s.holds (ap (ordered 0 0 0) (sym (append-nil (keep p (kept s)))) ∙ e) (λ m i.
    let k = any_in (λ (x : Hold). eqb m.number x.manifest) s.holds (keep_in p (kept s) i).1 in
    (k.0, k.1, eqb-true m.number k.0.manifest k.2)) in
    let b = r.few in
    omega arith

-- older manifests of a sound ledger: at most eight, so nine with the current one
pub nine_enough : (L : Limits) (s : State) → sound L s ≡ true → length s.older ≤ L.holds
nine_enough L s e =
    let r = shape_of L s e in
    let a = held-few s.older s.holds (ordered_front 0 0 0 s.older (s.current ∷ []) r.ordered) (held_of L s e) in
    let b = r.few in
    omega arith

-- A collection's list

pub collected-length : (t : ℕ) (s : State) → length (collected t s) ≤ length s.places
unfolding collected
collected-length t s =
    let a = sorted-length (map (λ (o : Object). o.number) (keep (dead t s) (objects s))) in
    let b = length-map (keep (dead t s) (objects s)) (λ (o : Object). o.number) in
    let c = keep-length (dead t s) (objects s) in
    let d = keep-length occupied s.places in
    omega arith

-- a collection asked from the clock's time on, with room for as many numbers as there are places, is accepted
pub collect-accepted : (L : Limits) (s : State) (t room : ℕ) → sound L s ≡ true → s.clock ≤ t → 10 + 8 * L.places ≤ room
    → accepts L (sound L) s (record { request = Asked t COLLECT []; room = room }) ≡ true
unfolding accepts verdict reply answers rows well_formed none
collect-accepted L s t room e le h =
    and_both (eqb (verdict L (sound L) s q) 0) _ (eq-eqb _ 0 zero-given) (le-leb (size (reply L (sound L) s q)) room fits)
  where
    q : Request
    q = Asked t COLLECT []

    zero-given : verdict L (sound L) s q ≡ 0
    zero-given = of_clear (rows_of L (sound L) s q) (ap not e, (refl, (le-ltb t s.clock le, tt)))

    said : reply L (sound L) s q ≡ granted q s
    said = ap (λ b. cond b (granted q s) (alone (Refused (verdict L (sound L) s q)))) (eq-eqb (verdict L (sound L) s q) 0 zero-given)

    fits : size (reply L (sound L) s q) ≤ room
    fits =
        let a = ap size said in
        let b = collected-length t (settle t s) in
        let c = (shape_of L s e).size in
        omega arith
