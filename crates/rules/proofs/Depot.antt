-- The tables of cases hold of the rules, and the week meets no limit of document 01, by computation.
-- Assumes nothing.
use mathlib.Core.Path.{◌≡◌, refl}
use mathlib.Core.Bool.{true}
use Rattle.rules.specs.Lists.{conj, keep, any, all, none, lookup, has, rising_above, distinct, insert, sorted, maximum}
use Rattle.rules.specs.Words.{live, is_live, active, stored, currency_of, of_currency, manifest_of, read_by, pending, listed, dead, compacted}
use Rattle.rules.specs.Table.{well_formed, rows, first_of}
use Rattle.rules.specs.Sound.{unused, object_sound, place_sound, ordered, name_sound, manifest_sound, hold_sound, is_held, sound}
use Rattle.rules.specs.Step.{place, insert_hold, act, collected, answers, verdict, reply, accepts, next}
use Rattle.rules.specs.Limits.{first_limits}
use Rattle.rules.specs.State.{fresh_in}
use Rattle.rules.specs.Raised.{never_met, asks_in}
use Rattle.rules.specs.Depot.{Holds, week, WeekHolds}
use Rattle.rules.specs.OutOfOrder.{out_of_order, OutOfOrderHolds}

pub week-holds : WeekHolds
unfolding Holds week conj keep any all none lookup has rising_above distinct insert sorted maximum live is_live active stored currency_of of_currency manifest_of read_by pending listed dead compacted well_formed rows first_of unused object_sound place_sound ordered name_sound manifest_sound hold_sound is_held sound place insert_hold act collected answers verdict reply accepts next
week-holds = (refl, (refl, (refl, (refl, (refl, (refl, (refl, (refl, (refl, (refl, (refl, (refl, (refl, tt)))))))))))))

-- the week meets no limit of document 01
pub week_unmet : never_met first_limits (fresh_in first_limits) (asks_in week) ≡ true
unfolding never_met asks_in week conj keep any all none lookup has rising_above distinct insert sorted maximum live is_live active stored currency_of of_currency manifest_of read_by pending listed dead compacted well_formed rows first_of unused object_sound place_sound ordered name_sound manifest_sound hold_sound is_held sound place insert_hold act collected answers verdict reply accepts next
week_unmet = refl

pub out_of_order-holds : OutOfOrderHolds
unfolding Holds out_of_order conj keep any all none lookup has rising_above distinct insert sorted maximum live is_live active stored currency_of of_currency manifest_of read_by pending listed dead compacted well_formed rows first_of unused object_sound place_sound ordered name_sound manifest_sound hold_sound is_held sound place insert_hold act collected answers verdict reply accepts next
out_of_order-holds = (refl, (refl, (refl, (refl, (refl, (refl, (refl, (refl, (refl, (refl, (refl, (refl, (refl, (refl, (refl, tt)))))))))))))))
