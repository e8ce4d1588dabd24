-- No rate in force, no charge: the sale by its cases, and the LOOK by the history. Assumes nothing.
use mathlib.Core.Path.{◌≡◌, refl, sym, ap, subst, ◌∙◌}
use mathlib.Core.Bool.{Bool, true, false, not, cond, ◌&&◌, true≢false}
use mathlib.Core.List.{List, []}
use Rattle.std.specs.Prelude.{Ok, Err}
use Prim.Native.Nat.{ℕ, ◌≤◌, ◌<◌}
use native.Mathlib.Omega.{arith}
use lib.Dec.{ltb, eqb, lit<}
use borrow.Author.Tests.{ltb-false, le-ltb, eqb-true, eq-eqb, ne_eqb}
use Rattle.rules.specs.declared.Kind.TheVariants.{Look as LOOK}
use Rattle.rules.specs.declared.Answer.{Answer}
use Rattle.rules.specs.declared.Answer.TheVariants.{Refused as REFUSED, Done, Epoch, Listed, Found, Collected}
use Rattle.rules.specs.declared.Verdict.{Verdict}
use Rattle.rules.specs.Lists.{◌∈◌, none, maximum}
use Rattle.rules.specs.Limits.{limits}
use Rattle.rules.specs.State.{fresh}
use Rattle.rules.specs.Table.{nonzero, well_formed}
use Rattle.rules.specs.Request.{Ask}
use Rattle.rules.specs.Step.{Reply, code}
use Rattle.rules.specs.Demand3.{history_of}
use Rattle.rules.specs.Rates.{held_at, rates_at, look_at}
use Rattle.rules.proofs.Lists.{and_left, and_right, and_both, true-false}
use Rattle.rules.proofs.Rates.{maximum_in, looks}
use Rattle.ledger.specs.declared.Ledger.{Ledger}
use Rattle.ledger.specs.declared.StepAnswer.{StepAnswer}
use Rattle.ledger.specs.Ledger.{lay}
use Rattle.ledger.specs.Step.{judged}
use Rattle.ledger.specs.Demand3.{ledger_after}
use Rattle.ledger.specs.Look.{Outcome, finds, refuses}
use Rattle.ledger.proofs.Looking.{look_outcome}
use Rattle.ledger.proofs.Demand3.{delivered}
use Rattle.records.proofs.RoundTripRecords.{picked}
use Rattle.sheets.specs.declared.Sheet.{Sheet}
use Rattle.std.specs.Prelude.{Option, Some, None}
use Rattle.sheets.specs.Sheets.{decode_sheet}
use Rattle.sheets.proofs.Reading.{read-formed}
use Rattle.desk.specs.declared.SaleError.{SaleError}
use Rattle.desk.specs.declared.SaleError.TheVariants.{LookRefused, Malformed, OtherSheet}
use Rattle.desk.specs.declared.SaleAnswer.{SaleAnswer}
use Rattle.desk.specs.Charge.{largest_fare, charge_of, Smallest}
use Rattle.desk.specs.Look.{asked, object_of, found_in, found_code, found_object, look_of}
use Rattle.desk.specs.Sale.{error_number, refused_sale, is_in_force, sale_by, kept_by, sale_of}
use Rattle.desk.specs.NoRate.{WentBy, SaleExact, LookedExact, NoRateNoCharge}
use Rattle.desk.proofs.Rounding.{charge-smallest, rate_bounds}

module _ (l : Ledger) (time : ℕ) (sheet : List ℕ) (currency hold fare : ℕ) where
  abbrev sold : SaleAnswer
  sold = sale_of l time sheet currency hold fare

  abbrev looked : StepAnswer
  looked = judged l (asked time currency hold)

  -- a sale that is refused is not charged, and was refused for one reason
  turned : (e : SaleError) → 0 < error_number e → sold ≡ refused_sale e l → SaleExact l time sheet currency hold fare
  turned e some is =
      let said = ap (λ (a : SaleAnswer). a.sale) is in
      record {
        charged = λ n q. absurd (cc);
        refused = λ f q. let same : e ≡ f = cc in (subst (λ (g : SaleError). 0 < error_number g) same some, ap (λ (a : SaleAnswer). a.ledger) is);
      }

  went : (s : Sheet) → decode_sheet sheet ≡ Some s → fare ≤ largest_fare → s.currency ≡ currency → looked.verdict.answer ≡ Found s.object
      → sold ≡ record { sale = Ok (charge_of fare s.numerator s.denominator); ledger = looked.ledger } → SaleExact l time sheet currency hold fare
  went s read few same found e =
      let said = ap (λ (a : SaleAnswer). a.sale) e in
      let smallest = charge-smallest.smallest fare s.numerator s.denominator (rate_bounds s (read-formed sheet s read)).1.0 in
      record {
        charged = λ n q. record {
          rate = s;
          read = read;
          fares = few;
          same = same;
          found = found;
          charge = let least : charge_of fare s.numerator s.denominator ≡ n = cc in subst (λ (k : ℕ). Smallest fare s.numerator s.denominator k) least smallest;
          next = ap (λ (a : SaleAnswer). a.ledger) e;
        };
        refused = λ f q. absurd (cc);
      }

  -- ---- the sale by its cases

  -- the ledger goes by whether the sheet is in force, as the charge does
  kept-if_in_force : (next : Ledger) (units : ℕ) (b : Bool) → kept_by l next (cond b (Ok units) (Err OtherSheet)) ≡ cond b (record { sale = Ok units; ledger = next }) (refused_sale OtherSheet l)
  kept-if_in_force next units true = refl
  kept-if_in_force next units false = refl

  module _ (s : Sheet) (read : decode_sheet sheet ≡ Some s) (few : ltb largest_fare fare ≡ false) where
    found-sale : (n : ℕ) → looked.verdict.answer ≡ Found n
        → sold ≡ cond (is_in_force s n currency) (record { sale = Ok (charge_of fare s.numerator s.denominator); ledger = looked.ledger }) (refused_sale OtherSheet l)
    unfolding sale_of look_of
    found-sale n e =
        rw (read, few)
        (ap (λ (a : Answer). kept_by l looked.ledger (sale_by s currency fare (found_in a))) e
        ∙ kept-if_in_force looked.ledger (charge_of fare s.numerator s.denominator) (is_in_force s n currency))

    refused_sale_lem : (n : ℕ) → looked.verdict.answer ≡ REFUSED n → sold ≡ refused_sale (LookRefused n) l
    unfolding sale_of look_of
    refused_sale_lem n e = rw (read, few) (ap (λ (a : Answer). kept_by l looked.ledger (sale_by s currency fare (found_in a))) e)

    by-look : Outcome l looked → SaleExact l time sheet currency hold fare
    by-look (refuses n some e) = turned (LookRefused n) some (refused_sale_lem n (ap (λ (a : StepAnswer). a.verdict.answer) e))
    by-look (finds n e) = step (is_in_force s n currency) refl
      where
        answered : looked.verdict.answer ≡ Found n
        answered = ap (λ (v : Verdict). v.answer) e

        step : (b : Bool) → is_in_force s n currency ≡ b → SaleExact l time sheet currency hold fare
        step true q =
            let object = eqb-true s.object n (and_left (eqb s.object n) (eqb s.currency currency) q) in
            let same = eqb-true s.currency currency (and_right (eqb s.object n) (eqb s.currency currency) q) in
            went s read (ltb-false largest_fare fare few) same (answered ∙ ap Found (sym object)) (found-sale n answered ∙ rw q)
        step false q = turned OtherSheet (lit< tt) (found-sale n answered ∙ rw q)

  pub sale-exact : SaleExact l time sheet currency hold fare
  unfolding sale_of
  sale-exact = step (decode_sheet sheet) refl (ltb largest_fare fare) refl
    where
      step : (r : Option Sheet) → decode_sheet sheet ≡ r → (b : Bool) → ltb largest_fare fare ≡ b → SaleExact l time sheet currency hold fare
      step None read b few = turned Malformed (lit< tt) (rw read)
      step (Some s) read true few = turned Malformed (lit< tt) (rw (read, few))
      step (Some s) read false few = by-look s read few (look_outcome l time currency hold)

-- ---- by the history

module _ (asks : List Ask) (time currency hold : ℕ) where
  abbrev rates : List ℕ
  rates = rates_at time (history_of asks) currency hold

  -- what a LOOK that found an object says of the history
  abbrev Rated : Answer → Type 0
  Rated (REFUSED n) = Unit {0}
  Rated Done = Unit {0}
  Rated (Epoch e) = Unit {0}
  Rated (Listed m) = Unit {0}
  Rated (Found n) = (n ≡ maximum rates) × (none rates ≡ false) × ((nonzero hold && not (held_at time (history_of asks) hold)) ≡ false)
  Rated Collected = Unit {0}

  rated : Rated (look_at limits time (history_of asks) currency hold)
  unfolding look_at
  rated =
      let unheld = nonzero hold && not (held_at time (history_of asks) hold) in
      let found = cond (none rates) (REFUSED 16) (Found (maximum rates)) in
      let on_time_lem = cond unheld (REFUSED 15) found in
      let early = ltb time (history_of asks).time in
      picked Rated (not (well_formed limits time (LOOK currency hold) [])) (REFUSED 2) (cond early (REFUSED 3) on_time_lem) (λ e. tt) (λ e.
      picked Rated early (REFUSED 3) on_time_lem (λ e. tt) (λ e.
      picked Rated unheld (REFUSED 15) found (λ e. tt) (λ live.
      picked Rated (none rates) (REFUSED 16) (Found (maximum rates)) (λ e. tt) (λ some. (refl, some, live)))))

  answered : (judged (ledger_after (lay fresh) asks) (asked time currency hold)).verdict.answer ≡ look_at limits time (history_of asks) currency hold
  answered = ap (λ (v : Verdict). v.answer) ((delivered asks).answers (asked time currency hold)) ∙ ap (λ (r : Reply). r.answer) (looks asks time currency hold)

  codes : (a : Answer) → (found_code (found_in a) ≡ code a) × (found_object (found_in a) ≡ object_of a)
  codes (REFUSED n) = (refl, refl)
  codes Done = (refl, refl)
  codes (Epoch e) = (refl, refl)
  codes (Listed m) = (refl, refl)
  codes (Found n) = (refl, refl)
  codes Collected = (refl, refl)

  pub looked-exact : LookedExact asks time currency hold
  unfolding look_of
  looked-exact =
      let told = codes (judged (ledger_after (lay fresh) asks) (asked time currency hold)).verdict.answer in
      record { code = told.0 ∙ ap code answered; object = told.1 ∙ ap object_of answered }

  module _ (sheet : List ℕ) (fare : ℕ) where
    says : (n : ℕ) (w : WentBy (ledger_after (lay fresh) asks) time sheet currency hold fare n) → Rated (Found w.rate.object)
    says n w = subst Rated (sym answered ∙ w.found) rated

    charged : (n : ℕ) → (sale_of (ledger_after (lay fresh) asks) time sheet currency hold fare).sale ≡ Ok n → WentBy (ledger_after (lay fresh) asks) time sheet currency hold fare n
    charged n q = (sale-exact (ledger_after (lay fresh) asks) time sheet currency hold fare).charged n q

    sells : (s : Sheet) → decode_sheet sheet ≡ Some s → fare ≤ largest_fare → s.currency ≡ currency → look_at limits time (history_of asks) currency hold ≡ Found s.object
        → (sale_of (ledger_after (lay fresh) asks) time sheet currency hold fare).sale ≡ Ok (charge_of fare s.numerator s.denominator)
    sells s read few same found =
        let l = ledger_after (lay fresh) asks in
        let same-sheet : is_in_force s s.object currency ≡ true = and_both _ _ (eq-eqb s.object s.object refl) (eq-eqb s.currency currency same) in
        ap (λ (a : SaleAnswer). a.sale) (found-sale l time sheet currency hold fare s read (le-ltb largest_fare fare few) s.object (answered ∙ found)) ∙ rw same-sheet

    pub no_rate_lem : NoRateNoCharge asks time sheet currency hold fare
    no_rate_lem = record {
      sells = sells;
      in_force = λ n w. let r = says n w in (subst (λ (k : ℕ). k ∈ rates) (sym r.0) (maximum_in rates r.1), r.0);
      no_rate = λ e n q. true-false (none rates) e (says n (charged n q)).1;
      no_hold = λ some e n q. true≢false (sym (rw (ne_eqb hold 0 (λ z. omega (arith, z)), e)) ∙ (says n (charged n q)).2);
    }
