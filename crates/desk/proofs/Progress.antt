-- How far the filling in of a route card has come, on lists alone: no machine and no memory is mentioned here.
--     Progress i l ys      after i looks the ledger is l and the card ys: what is still to be done, done from there, gives what is to be given from the start
--     starts, steps, stops     it holds at first; one look keeps it; and once `count` looks are made, ys and l are what was to be given
--     refuses          a count above the card's length
-- Assumes nothing.
use mathlib.Core.Path.{◌≡◌, sym, ◌∙◌, ap}
use Prim.Native.Nat.{ℕ, suc, ◌+◌, ◌-◌, ◌≤◌, ◌<◌}
use native.Mathlib.Numerals.{add-one}
use native.Mathlib.Omega.{arith}
use mathlib.Core.List.{List, ◌∷◌, ◌++◌, append_assoc}
use Rattle.std.specs.Prelude.{Ok, Err}
use lib.ListN.{length, take, drop, get_or, set, take-append-drop}
use lib.Seq.{drop-cons, take-suc-set, drop-set-lt}
use borrow.Author.Tests.{lt-ltb, le-ltb}
use Rattle.ledger.specs.declared.Ledger.{Ledger}
use Rattle.desk.specs.declared.Entry.{Entry}
use Rattle.desk.specs.declared.SaleError.TheVariants.{Malformed}
use Rattle.desk.specs.Card.{Filled, filled, entries, after, card_of, answer_of}

module _ (time hold count : ℕ) (ledger : Ledger) (xs : List Entry) where
  pub record Progress (i : ℕ) (l : Ledger) (ys : List Entry) : Type 0 where
    pub card_is : take i ys ++ entries time hold l (count - i) (drop i ys) ≡ entries time hold ledger count xs
    pub ledger_is : after time hold l (count - i) (drop i ys) ≡ after time hold ledger count xs

  pub starts : Progress 0 ledger xs
  starts =
      let none : count - 0 ≡ count = omega arith in
      record { card_is = rw none; ledger_is = rw none }

  pub refuses : length xs < count → (Err Malformed ≡ answer_of ledger time hold count xs) × (xs ≡ card_of ledger time hold count xs)
  unfolding answer_of card_of
  refuses over = (rw lt-ltb, rw lt-ltb)

  pub stops : count ≤ length xs → (i : ℕ) (l : Ledger) (ys : List Entry) → Progress i l ys → count ≤ i → (Ok l ≡ answer_of ledger time hold count xs) × (ys ≡ card_of ledger time hold count xs)
  unfolding answer_of card_of entries after
  stops enough i l ys p over =
      let none : count - i ≡ 0 = omega arith in
      (rw le-ltb (ap Ok (rw none at p.ledger_is)), rw le-ltb (sym (take-append-drop i ys) ∙ (rw none at p.card_is)))

  module _ (i : ℕ) (l : Ledger) (ys : List Entry) (d : Entry) (p : Progress i l ys) (less : i < count) (in-card : i < length ys) (r : Filled) (is : r ≡ filled l time hold (get_or ys i d)) where
    one_less : count - i ≡ suc (count - suc i)
    one_less = omega arith

    -- the entry at i is the next one
    ahead : drop i ys ≡ get_or ys i d ∷ drop (suc i) ys
    ahead = drop-cons ys i d in-card

    beyond : drop (suc i) (set ys i r.entry) ≡ drop (suc i) ys
    beyond = drop-set-lt (suc i) ys i r.entry (omega arith)

    card-next : take i ys ++ (r.entry ∷ entries time hold r.ledger (count - suc i) (drop (suc i) ys)) ≡ entries time hold ledger count xs
    unfolding entries
    card-next = rw is (rw (one_less, ahead) at p.card_is)

    ledger-next : after time hold r.ledger (count - suc i) (drop (suc i) ys) ≡ after time hold ledger count xs
    unfolding after
    ledger-next = rw is (rw (one_less, ahead) at p.ledger_is)

    pub steps : Progress (i + 1) r.ledger (set ys i r.entry)
    steps = record {
      card_is = rw (add-one, beyond, take-suc-set ys i r.entry in-card, append_assoc) card-next;
      ledger_is = rw (add-one, beyond) ledger-next;
    }
