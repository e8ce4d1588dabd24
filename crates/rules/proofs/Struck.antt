-- Refused steps struck from what is asked one after another: each left what it found, so the others find what they found.
-- Assumes nothing.
use mathlib.Core.Path.{◌≡◌, refl, sym, ap, ◌∙◌}
use mathlib.Core.Bool.{Bool, true, false, not, ◌||◌}
use mathlib.Core.List.{List, [], ◌∷◌}
use Prim.Native.Nat.{suc}
use lib.ListN.{length}
use borrow.Author.Tests.{not-true}
use Rattle.rules.specs.Demand3.{events_from, ledger_from}
use Rattle.rules.specs.History.{Event}
use Rattle.rules.specs.Limits.{Limits}
use Rattle.rules.specs.Lists.{all}
use Rattle.rules.specs.Raised.{replies_from}
use Rattle.rules.specs.Request.{Ask}
use Rattle.rules.specs.Sound.{sound}
use Rattle.rules.specs.State.{State}
use Rattle.rules.specs.Step.{Reply, accepts, next, reply}
use Rattle.rules.specs.Struck.{Strikable, Strikes, each, not_accepted, others, refusals, within}
use Rattle.rules.proofs.Lists.{and_left, and_right}
use Rattle.rules.proofs.Table.{refusal_keeps}

-- ---- marks

within_itself : (bs : List Bool) → within bs bs ≡ true
unfolding within
within_itself [] = refl
within_itself (true ∷ bs) = within_itself bs
within_itself (false ∷ bs) = within_itself bs

none_left_lem : (bs : List Bool) → all not (others bs bs) ≡ true
unfolding all others
none_left_lem [] = refl
none_left_lem (true ∷ bs) = none_left_lem bs
none_left_lem (false ∷ bs) = none_left_lem bs

-- a mark that may stand where there is no refusal strikes nothing
unmarked : (b r : Bool) → not r ≡ true → (not b || r) ≡ true → b ≡ false
unmarked true true e f = sym e
unmarked true false e f = sym f
unmarked false r e f = refl

-- ---- asked one after another

module _ {S A : Type 0} (next : S → A → S) where
  -- what all of them leave
  unfoldable pub after : S → List A → S
  after s [] = s
  after s (x ∷ xs) = after (next s x) xs

  pub length-each : {R : Type 0} (f : S → A → R) (s : S) (xs : List A) → length (each next f s xs) ≡ length xs
  unfolding each
  length-each f s [] = refl
  length-each f s (x ∷ xs) = ap suc (length-each f (next s x) xs)

  module _ (refuses : S → A → Bool) where
    nothing : (s : S) (xs : List A) → all not (refusals next refuses s xs) ≡ true → (marks : List Bool) → within marks (refusals next refuses s xs) ≡ true → others marks xs ≡ xs
    unfolding all each others within
    nothing s [] e [] w = refl
    nothing s [] e (b ∷ bs) w = refl
    nothing s (x ∷ xs) e [] w = refl
    nothing s (x ∷ xs) e (b ∷ bs) w =
        let free = unmarked b (refuses s x) (and_left (not (refuses s x)) _ e) (and_left (not b || refuses s x) _ w) in
        ap (λ (k : Bool). others (k ∷ bs) (x ∷ xs)) free
        ∙ ap (λ (l : List A). x ∷ l) (nothing (next s x) xs (and_right (not (refuses s x)) _ e) bs (and_right (not b || refuses s x) _ w))

    module _ (stays : (s : S) (x : A) → refuses s x ≡ true → next s x ≡ s) where
      pub each-others : {R : Type 0} (f : S → A → R) (s : S) (marks : List Bool) (xs : List A) → within marks (refusals next refuses s xs) ≡ true
          → each next f s (others marks xs) ≡ others marks (each next f s xs)
      unfolding each others within
      each-others f s [] xs w = refl
      each-others f s (b ∷ bs) [] w = refl
      each-others f s (true ∷ bs) (x ∷ xs) w =
          let same = stays s x (and_left (refuses s x) _ w) in
          ap (λ (q : S). each next f q (others bs xs)) (sym same) ∙ each-others f (next s x) bs xs (and_right (refuses s x) _ w)
      each-others {R} f s (false ∷ bs) (x ∷ xs) w = ap (λ (l : List R). f s x ∷ l) (each-others f (next s x) bs xs w)

      pub after-others : (s : S) (marks : List Bool) (xs : List A) → within marks (refusals next refuses s xs) ≡ true → after s (others marks xs) ≡ after s xs
      unfolding after each others within
      after-others s [] xs w = refl
      after-others s (b ∷ bs) [] w = refl
      after-others s (true ∷ bs) (x ∷ xs) w =
          let same = stays s x (and_left (refuses s x) _ w) in
          ap (λ (q : S). after q (others bs xs)) (sym same) ∙ after-others (next s x) bs xs (and_right (refuses s x) _ w)
      after-others s (false ∷ bs) (x ∷ xs) w = after-others (next s x) bs xs w

      pub strikable : (s : S) (xs : List A) → Strikable next refuses s xs
      strikable s xs =
          let rs = refusals next refuses s xs in
          record { nothing = nothing s xs; every = within_itself rs; none_left = ap (all not) (each-others refuses s rs xs (within_itself rs)) ∙ none_left_lem rs }

-- ---- asks

module _ (L : Limits) where
  stays : (s : State) (a : Ask) → not_accepted L s a ≡ true → next L (sound L) s a ≡ s
  stays s a e = refusal_keeps L (sound L) s a (not-true _ e)

  ledger_after_lem : (s : State) (asks : List Ask) → ledger_from L (sound L) s asks ≡ after (next L (sound L)) s asks
  unfolding ledger_from after
  ledger_after_lem s [] = refl
  ledger_after_lem s (a ∷ asks) = ledger_after_lem (next L (sound L) s a) asks

  replies-each : (s : State) (asks : List Ask) → replies_from L s asks ≡ each (next L (sound L)) (λ q a. reply L (sound L) q a.request) s asks
  unfolding replies_from each
  replies-each s [] = refl
  replies-each s (a ∷ asks) = ap (λ (l : List Reply). reply L (sound L) s a.request ∷ l) (replies-each (next L (sound L) s a) asks)

  abbrev event_of : State → Ask → Event
  event_of s a = record { request = a.request; accepted = accepts L (sound L) s a }

  events-each : (s : State) (asks : List Ask) → events_from L (sound L) s asks ≡ each (next L (sound L)) event_of s asks
  unfolding events_from each
  events-each s [] = refl
  events-each s (a ∷ asks) = ap (λ (l : List Event). event_of s a ∷ l) (events-each (next L (sound L) s a) asks)

  pub strikes : Strikes L
  strikes = record {
    unchanged = λ s marks asks w. record {
      replies = replies-each s (others marks asks) ∙ each-others (next L (sound L)) (not_accepted L) stays _ s marks asks w ∙ ap (others marks) (sym (replies-each s asks));
      events = events-each s (others marks asks) ∙ each-others (next L (sound L)) (not_accepted L) stays event_of s marks asks w ∙ ap (others marks) (sym (events-each s asks));
      ledger = ledger_after_lem s (others marks asks) ∙ after-others (next L (sound L)) (not_accepted L) stays s marks asks w ∙ sym (ledger_after_lem s asks);
    };
    strikable = strikable (next L (sound L)) (not_accepted L) stays;
  }
