-- Demand 3 and "no rate, no charge", as the page says them of the ledger that a caller keeps.
-- Assumes nothing.
use mathlib.Core.Path.{◌≡◌, sym, ap, subst, ◌∙◌}
use mathlib.Core.Logic.{◌⊎◌, inl, inr}
use mathlib.Core.Bool.{true, false}
use mathlib.Core.List.{List, []}
use Prim.Native.Nat.{ℕ, ◌≤◌, ◌<◌}
use native.Mathlib.Omega.{arith}
use lib.Dec.{eqb, leb}
use lib.ListN.{length}
use borrow.Author.Tests.{eq-eqb, le-leb}
use Rattle.std.specs.Prelude.{Ok}
use Rattle.rules.specs.declared.Verdict.{Verdict}
use Rattle.rules.specs.Limits.{limits}
use Rattle.rules.specs.Lists.{has, none, rising_above}
use Rattle.rules.specs.Request.{Ask}
use Rattle.rules.specs.Sound.{sound}
use Rattle.rules.specs.State.{State}
use Rattle.rules.specs.Step.{Reply, accepts, answers, longest_verdict, reply, settle, size, verdict}
use Rattle.rules.specs.Typed.{objects_of}
use Rattle.rules.specs.Words.{listed, stored}
use Rattle.rules.specs.History.{dead_at, listed_at, stored_at}
use Rattle.rules.specs.Demand3.{history_of, ledger_of}
use Rattle.rules.specs.Rates.{held_at, rates_at}
use Rattle.rules.proofs.Bounds.{collected-length}
use Rattle.rules.proofs.Lists.{and_both}
use Rattle.rules.proofs.Table.{granted-reply, verdict-zero}
use Rattle.rules.proofs.Typed.{padded-take}
use Rattle.rules.proofs.Whole.{whole}
use Rattle.ledger.specs.declared.Ledger.{Ledger}
use Rattle.ledger.specs.Ledger.{view}
use Rattle.ledger.proofs.Demand3.{delivered}
use Rattle.ledger.proofs.SoundLaw.{view-lay}
use Rattle.ledger.proofs.AnyLedger.{number-sound}
use Rattle.desk.specs.Sale.{sale_of}
use Rattle.desk.proofs.NoRate.{no_rate_lem}
use Rattle.guarantees.specs.Guarantees.{collect_at, collected_at, kept_by, number_on}

module _ (asks : List Ask) where
  viewed : view (kept_by asks) ≡ ledger_of asks
  viewed = ap view (delivered asks).laid ∙ view-lay (ledger_of asks)

  -- the number on the ledger is the rules' verdict
  number : (t : ℕ) → number_on (kept_by asks) (collect_at t) ≡ verdict limits (sound limits) (ledger_of asks) (collect_at t)
  number t = number-sound (kept_by asks) (collect_at t) (delivered asks).is_sound ∙ ap (λ (s : State). verdict limits (sound limits) s (collect_at t)) viewed

  -- the rules' reply to a collection, and the ask that has just its room
  abbrev told : ℕ → Reply
  told t = reply limits (sound limits) (ledger_of asks) (collect_at t)

  abbrev asked : ℕ → Ask
  asked t = record { request = collect_at t; room = size (told t) }

  accepted : (t : ℕ) → number_on (kept_by asks) (collect_at t) ≡ 0 → accepts limits (sound limits) (ledger_of asks) (asked t) ≡ true
  unfolding accepts
  accepted t z =
      and_both (eqb (verdict limits (sound limits) (ledger_of asks) (collect_at t)) 0) (leb (size (told t)) (size (told t)))
      (eq-eqb (verdict limits (sound limits) (ledger_of asks) (collect_at t)) 0 (sym (number t) ∙ z)) (le-leb (size (told t)) (size (told t)) (omega arith))

  -- no more are listed than there are places
  few : (t : ℕ) → number_on (kept_by asks) (collect_at t) ≡ 0 → length (told t).list ≤ limits.places
  unfolding answers
  few t z =
      let is = ap (λ (r : Reply). length r.list) (granted-reply limits (sound limits) (ledger_of asks) (asked t) (accepted t z)) in
      omega (arith, is, collected-length t (settle t (ledger_of asks)), (whole asks).agrees.things.size)

  listed_as : (t : ℕ) → number_on (kept_by asks) (collect_at t) ≡ 0 → collected_at t asks ≡ (told t).list
  listed_as t z = ap (λ (v : Verdict). objects_of v.list) ((delivered asks).answers (collect_at t)) ∙ padded-take limits.places (told t).list (few t z)

  pub collects : (t : ℕ) → number_on (kept_by asks) (collect_at t) ≡ 0
      → (rising_above 0 (collected_at t asks) ≡ true) × ((n : ℕ) → has n (collected_at t asks) ≡ dead_at t (history_of asks) n)
  collects t z =
      let exact = (whole asks).exact.collects t [] (size (told t)) (accepted t z) in
      (ap (rising_above 0) (listed_as t z) ∙ exact.1, λ n. ap (has n) (listed_as t z) ∙ exact.2 n)

  pub collectable : (t : ℕ) → (kept_by asks).clock ≤ t → number_on (kept_by asks) (collect_at t) ≡ 0
  collectable t le =
      let clock = ap (λ (l : Ledger). l.clock) (delivered asks).laid in
      number t
      ∙ verdict-zero limits (sound limits) (ledger_of asks) (record { request = collect_at t; room = longest_verdict }) ((whole asks).collectable t longest_verdict (omega (arith, clock, le)) (omega arith))

  abbrev Keeps : ℕ → State → Type 0
  Keeps t s = s.clock ≤ t → (n : ℕ) → (listed_at t (history_of asks) n ≡ true) ⊎ (listed t s n ≡ true) → (stored_at (history_of asks) n ≡ true) × (stored s n ≡ true)

  pub keeps : (t : ℕ) → Keeps t (view (kept_by asks))
  keeps t = subst (Keeps t) (sym viewed) ((whole asks).exact.keeps t)

pub never_charged : (asks : List Ask) (time : ℕ) (sheet : List ℕ) (currency hold fare : ℕ)
    → (none (rates_at time (history_of asks) currency hold) ≡ true) ⊎ ((0 < hold) × (held_at time (history_of asks) hold ≡ false))
    → (n : ℕ) → (sale_of (kept_by asks) time sheet currency hold fare).sale ≡ Ok n → ⊥
never_charged asks time sheet currency hold fare (inl e) n q = (no_rate_lem asks time currency hold sheet fare).no_rate e n q
never_charged asks time sheet currency hold fare (inr e) n q = (no_rate_lem asks time currency hold sheet fare).no_hold e.0 e.1 n q
