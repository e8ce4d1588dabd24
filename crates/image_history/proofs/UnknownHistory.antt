-- Of a sound ledger whose history is not known: its collections and what it lists, by its own words (specs/UnknownHistory.antt). Assumes nothing.
use mathlib.Core.Path.{◌≡◌, refl, sym, ap, ◌∙◌, subst}
use mathlib.Core.Logic.{◌⊎◌, inl, inr}
use mathlib.Core.Bool.{Bool, true, false, not, cond, ◌&&◌, ◌||◌}
use mathlib.Core.List.Memᴰ
use mathlib.Core.List.{List, [], ◌∷◌}
use Prim.Native.Nat.{ℕ, ◌<◌}
use lib.Dec.{eqb}
use borrow.Author.Tests.{eqb-true, eq-eqb}
use Rattle.rules.specs.declared.Object.{Object}
use Rattle.rules.specs.declared.Hold.{Hold}
use Rattle.rules.specs.declared.Kind.TheVariants.{Collect as COLLECT}
use Rattle.rules.specs.Limits.{limits}
use Rattle.rules.specs.Lists.{keep, any, has, rising_above}
use Rattle.rules.specs.Request.{Asked, Ask}
use Rattle.rules.specs.State.{Manifest, State, first_manifest, occupied, objects, kept}
use Rattle.rules.specs.Words.{live, live_holds, manifest_of, pending, listed, dead, stored}
use Rattle.rules.specs.Sound.{sound}
use Rattle.rules.specs.Step.{Reply, settle, collected, answers}
use Rattle.rules.specs.Demand3.{ledger_from}
use Rattle.rules.proofs.Lists.{and_left, and_right, and_both, or_cases, any_in, in_any, keep_in, in_keep, bool_ext, lookup_in}
use Rattle.rules.proofs.Numbers.{has_in, in_has, in_sorted, sorted_in, rising-sorted}
use Rattle.rules.proofs.Collect.{occupied_pos}
use Rattle.rules.proofs.Shape.{Shape, Named, shape_of}
use Rattle.rules.proofs.Table.{granted-reply}
use Rattle.rules.proofs.Soundness.{ledger_from-sound}
use Rattle.ledger.specs.declared.Ledger.{Ledger}
use Rattle.ledger.specs.Ledger.{lay, view, is_sound}
use Rattle.ledger.specs.Demand3.{ledger_after}
use Rattle.ledger.proofs.View.{sound-view}
use Rattle.ledger.proofs.SoundLaw.{view-lay, lay-sound, sound_law}
use Rattle.ledger.proofs.Demand3.{after-laid}
use Rattle.image_history.specs.UnknownHistory.{ByWords, Unknown, UnknownHistory}
use Rattle.image.proofs.WritesRead.{read-laid}

-- what passes a test passes it again
keep_twice : {A : Type 0} (p : A → Bool) (l : List A) → keep p (keep p l) ≡ keep p l
unfolding keep
keep_twice p [] = refl
keep_twice {A} p (x ∷ xs) = by (p x) refl (keep_twice p xs)
  where
    by : (b : Bool) → p x ≡ b → keep p (keep p xs) ≡ keep p xs → keep p (cond b (x ∷ keep p xs) (keep p xs)) ≡ cond b (x ∷ keep p xs) (keep p xs)
    by true e r = ap (λ (c : Bool). cond c (x ∷ keep p (keep p xs)) (keep p (keep p xs))) e ∙ ap (λ (l : List A). x ∷ l) r
    by false e r = r

module _ (s : State) (t : ℕ) where
  -- once the expired holds are gone, the same is listed and dead at that time
  listed_settled : (n : ℕ) → listed t (settle t s) n ≡ listed t s n
  unfolding listed manifest_of
  listed_settled n = ap (λ (xs : List Hold). has n s.current.names || any (λ x. has n (manifest_of s x.manifest).names) xs) (keep_twice (live t) s.holds)

  dead_settled : (o : Object) → dead t (settle t s) o ≡ dead t s o
  unfolding dead pending
  dead_settled o = ap (λ (b : Bool). not (pending s o) && not b) (listed_settled o.number)

  -- the numbers of a collection are those of the dead objects
  collected-dead : (n : ℕ) → has n (collected t (settle t s)) ≡ any (λ o. eqb n o.number && dead t s o) (objects s)
  unfolding collected
  collected-dead n = bool_ext _ _
      (λ e. let m = Memᴰ.of_map (λ (o : Object). o.number) (keep (dead t (settle t s)) (objects s)) (sorted_in _ (has_in n _ e)) in
      let k = keep_in (dead t (settle t s)) (objects s) m.1 in
      in_any (λ (o : Object). eqb n o.number && dead t s o) k.0 (and_both _ _ (eq-eqb n m.0.number (sym m.2)) (sym (dead_settled m.0) ∙ k.1)))
      (λ e. let k = any_in (λ (o : Object). eqb n o.number && dead t s o) (objects s) e in
      let d = dead_settled k.0 ∙ and_right (eqb n k.0.number) (dead t s k.0) k.2 in
      let q = eqb-true n k.0.number (and_left (eqb n k.0.number) (dead t s k.0) k.2) in
      in_has (in_sorted (Memᴰ.cast q (Memᴰ.map (λ (o : Object). o.number) (in_keep (dead t (settle t s)) k.1 d)))))

  collected_rises : rising_above 0 (collected t (settle t s)) ≡ true
  unfolding collected
  collected_rises = rising-sorted 0 _ (λ n i.
      let m = Memᴰ.of_map (λ (o : Object). o.number) (keep (dead t (settle t s)) (objects s)) i in
      let k = keep_in occupied s.places (keep_in (dead t (settle t s)) (objects s) m.1).0 in
      subst (λ k. 0 < k) m.2 (occupied_pos m.0 k.1))

-- a name of such a list is stored
named-stored : (s : State) (l : List ℕ) → Named (objects s) l → (n : ℕ) → has n l ≡ true → stored s n ≡ true
unfolding stored
named-stored s l named n e = let o = named n (has_in n l e) in in_any (λ (x : Object). eqb n x.number) o.1 (eq-eqb n o.0.number (sym o.2))

by_words_lem : (s : State) → sound limits s ≡ true → ByWords s
unfolding answers listed manifest_of
by_words_lem s good = record {
  collects = λ t l room e.
      let a : Ask = record { request = Asked t COLLECT l; room = room } in
      let g = granted-reply limits (sound limits) s a e in
      (ap (λ (y : Reply). y.answer) g, ap (λ (y : Reply). rising_above 0 y.list) g ∙ collected_rises s t, λ n. ap (λ (y : Reply). has n y.list) g ∙ collected-dead s t n);
  keeps = λ t le n e. step t n (or_cases _ _ e);
}
  where
    shape : Shape limits s
    shape = shape_of limits s good

    step : (t n : ℕ) → (has n s.current.names ≡ true) ⊎ (any (λ x. has n (manifest_of s x.manifest).names) (live_holds t s) ≡ true) → stored s n ≡ true
    step t n (inl e) = named-stored s s.current.names shape.current n e
    step t n (inr e) =
        let k = any_in (λ (x : Hold). has n (manifest_of s x.manifest).names) (live_holds t s) e in
        let x = k.0 in
        let i = (keep_in (live t) s.holds k.1).0 in
        let m = shape.holds x i in
        let z = lookup_in (λ (m : Manifest). m.number) (λ m. m) first_manifest x.manifest (kept s) m.1 m.2 in
        named-stored s z.0.names (shape.held x i z.0 z.1 z.2) n (ap (λ (y : Manifest). has n y.names) (sym z.3) ∙ k.2)

-- a ledger that is the layout of a sound state, and what it becomes
unknown-laid : (s : State) → sound limits s ≡ true → (l : Ledger) → l ≡ lay s → (asks : List Ask) → Unknown l asks
unknown-laid s good l e asks =
    let s2 = ledger_from limits (sound limits) s asks in
    let good2 = ledger_from-sound limits (sound limits) s asks good in
    let after : ledger_after l asks ≡ lay s2 = ap (λ (m : Ledger). ledger_after m asks) e ∙ after-laid s good asks in
    record {
      is_sound = ap is_sound after ∙ lay-sound s2 good2;
      by_words = subst ByWords (sym (ap view after ∙ view-lay s2)) (by_words_lem s2 good2);
    }

pub unknown_history : UnknownHistory
unknown_history = record {
  sound = λ l w e asks. unknown-laid (view l) (sound-view l e) l (sym (sound_law.same l w e)) asks;
  loaded = λ bs l e asks. let r = read-laid bs l e in unknown-laid r.0 r.2 l r.1 asks;
}
