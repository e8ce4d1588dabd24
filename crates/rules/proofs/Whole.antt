-- Demand 3 at the limits in force and document 01's soundness, and that it says something.
-- Assumes nothing.
use mathlib.Core.Path.{sym, ◌∙◌}
use mathlib.Core.List.{List}
use native.Mathlib.Omega.{arith}
use Rattle.rules.specs.Demand3.{Whole, events_from, ledger_of}
use Rattle.rules.specs.History.{at_first}
use Rattle.rules.specs.Limits.{limits}
use Rattle.rules.specs.Request.{Ask}
use Rattle.rules.specs.Sound.{sound}
use Rattle.rules.specs.State.{fresh}
use Rattle.rules.proofs.Bounds.{collect-accepted}
use Rattle.rules.proofs.Counted.{history_count}
use Rattle.rules.proofs.Demand3.{agrees_from, demand3}
use Rattle.rules.proofs.Numbers.{has_in, in_has, rising_ext}
use Rattle.rules.proofs.Soundness.{ledger_from-sound, sound-fresh}

pub whole : (asks : List Ask) → Whole asks
whole asks = record {
  exact = demand3 limits (sound limits) asks;
  agrees = agrees_from limits (sound limits) asks;
  is_sound = ledger_from-sound limits (sound limits) fresh asks (sound-fresh limits);
  counted = let e = (demand3 limits (sound limits) asks).number in let c = history_count at_first (events_from limits (sound limits) fresh asks) in omega arith;
  collectable = λ t room le h. collect-accepted limits (ledger_of asks) t room (ledger_from-sound limits (sound limits) fresh asks (sound-fresh limits)) le h;
  one_list = λ t l k p q f g. rising_ext 0 l k p q (λ n i. has_in n k (g n ∙ sym (f n) ∙ in_has i)) (λ n i. has_in n l (f n ∙ sym (g n) ∙ in_has i));
}
