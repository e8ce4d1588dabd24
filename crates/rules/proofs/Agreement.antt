-- What follows where a ledger agrees with a history: each word means the same on both sides.
-- Assumes nothing.
use mathlib.Core.Path.{◌≡◌, sym, ap, ap₂, ◌∙◌}
use mathlib.Core.Logic.{◌⊎◌, inl, inr}
use mathlib.Core.Bool.{true, not, ◌&&◌, ◌||◌}
use Prim.Native.Nat.{ℕ, ◌≤◌}
use native.Mathlib.Omega.{arith}
use lib.Dec.{leb, eqb}
use borrow.Author.Tests.{leb-true, le-leb, eqb-true}
use Rattle.rules.specs.declared.Hold.{Hold}
use Rattle.rules.specs.declared.Object.{Object}
use Rattle.rules.specs.declared.Role.{Role}
use Rattle.rules.specs.declared.Role.TheVariants.{Compactor, Writer}
use Rattle.rules.specs.Agreement.{Agrees, Match}
use Rattle.rules.specs.History.{History, Stored, currency_at, dead_object, epoch_at, list_at, listed_at, lists, live_at, pending_at, stored_at}
use Rattle.rules.specs.Limits.{Limits}
use Rattle.rules.specs.Lists.{◌∈◌, any, has, keep}
use Rattle.rules.specs.State.{Manifest, State, epoch_of, first_manifest, kept, objects}
use Rattle.rules.specs.Words.{currency_of, dead, listed, live, live_holds, manifest_of, pending, stored}
use Rattle.rules.proofs.Lists.{any_in, bool_ext, in_any, in_keep, keep_in, lookup_in, or_cases, or_left, or_right}

-- a hold that is live at a time was live before
pub live-before : (c t : ℕ) (x : Hold) → c ≤ t → live t x ≡ true → live c x ≡ true
unfolding live
live-before c t x h e = step (or_cases (eqb x.expiry 0) (leb t x.expiry) e)
  where
    step : (eqb x.expiry 0 ≡ true) ⊎ (leb t x.expiry ≡ true) → live c x ≡ true
    step (inl p) = or_left (eqb x.expiry 0) _ p
    step (inr p) = let q = leb-true t x.expiry p in or_right (eqb x.expiry 0) _ (le-leb c x.expiry (omega arith))

module _ {L : Limits} (s : State) (h : History) (r : Agrees L s h) where
  pub epoch-same : (role : Role) → epoch_of role s.current ≡ epoch_at role h
  epoch-same Writer = r.writer
  epoch-same Compactor = r.compactor

  -- a held manifest's names, in the ledger and by the history
  pub held-names : (x : Hold) → x ∈ s.holds → (manifest_of s x.manifest).names ≡ list_at x.manifest (lists h)
  unfolding manifest_of
  held-names x m =
      let k = r.manifests.held x m in
      let f = lookup_in (λ (m : Manifest). m.number) (λ m. m) first_manifest x.manifest (kept s) k.1 k.2 in
      ap (λ (m : Manifest). m.names) f.3 ∙ r.manifests.noted f.0 f.1 ∙ ap (λ n. list_at n (lists h)) f.2

  module _ (t : ℕ) (later : s.clock ≤ t) where
    pub hold-to : (x : Hold) → x ∈ live_holds t s → x ∈ keep (live_at t) h.holds
    unfolding live
    hold-to x m = let k = keep_in (live t) s.holds m in in_keep (live t) (r.holding.noted x k.0) k.1

    pub hold_from_lem : (x : Hold) → x ∈ keep (live_at t) h.holds → x ∈ live_holds t s
    unfolding live
    hold_from_lem x m =
        let k = keep_in (live_at t) h.holds m in
        in_keep (live t) (r.holding.found x k.0 (live-before s.clock t x later k.1)) k.1

    held_same : (n : ℕ) → any (λ x. has n (manifest_of s x.manifest).names) (live_holds t s) ≡ any (λ x. has n (list_at x.manifest (lists h))) (keep (live_at t) h.holds)
    held_same n = bool_ext _ _
        (λ e. let k = any_in _ _ e in
        in_any (λ (x : Hold). has n (list_at x.manifest (lists h))) (hold-to k.0 k.1) (ap (has n) (sym (held-names k.0 (keep_in (live t) s.holds k.1).0)) ∙ k.2))
        (λ e. let k = any_in _ _ e in let m = hold_from_lem k.0 k.1 in
        in_any (λ (x : Hold). has n (manifest_of s x.manifest).names) m (ap (has n) (held-names k.0 (keep_in (live t) s.holds m).0) ∙ k.2))

    pub listed_same : (n : ℕ) → listed t s n ≡ listed_at t h n
    unfolding listed listed_at
    listed_same n = ap₂ ◌||◌ (ap (has n) r.names) (held_same n)

    pub dead-same : (o : Object) (p : Stored) → Match (lists h) o p → dead t s o ≡ dead_object t h p
    unfolding dead dead_object pending pending_at
    dead-same o p m = ap₂ (λ a b. not a && not b)
        (ap₂ (λ a b. a && not b) (ap₂ eqb m.epoch (ap (λ x. epoch_of x s.current) m.role ∙ epoch-same p.role)) m.named)
        (ap (listed t s) m.number ∙ listed_same p.number)

  pub stored_same : (n : ℕ) → stored s n ≡ stored_at h n
  unfolding stored stored_at
  stored_same n = bool_ext _ _
      (λ e. let k = any_in _ _ e in let f = r.things.noted k.0 k.1 in
      in_any (λ (p : Stored). eqb n p.number) f.1 (ap (eqb n) (sym f.2.number) ∙ k.2))
      (λ e. let k = any_in _ _ e in let f = r.things.found k.0 k.1 in
      in_any (λ (o : Object). eqb n o.number) f.1 (ap (eqb n) f.2.number ∙ k.2))

  pub currency-same : (n : ℕ) → stored s n ≡ true → currency_of s n ≡ currency_at h n
  unfolding stored currency_of currency_at
  currency-same n e =
      let k = any_in (λ (o : Object). eqb n o.number) (objects s) e in
      let same : k.0.number ≡ n = sym (eqb-true n k.0.number k.2) in
      let f = lookup_in (λ (o : Object). o.number) (λ o. o.currency) 0 n (objects s) k.1 same in
      let p = r.things.noted k.0 k.1 in
      let g = lookup_in (λ (p : Stored). p.number) (λ p. p.currency) 0 n h.objects p.1 (sym p.2.number ∙ same) in
      let o = r.things.found g.0 g.1 in
      f.3 ∙ ap (λ (o : Object). o.currency) (r.things.unique f.0 o.0 f.1 o.1 (f.2 ∙ sym (o.2.number ∙ g.2))) ∙ o.2.currency ∙ sym g.3
