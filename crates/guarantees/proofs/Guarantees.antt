-- All that is guaranteed, by what the crates prove. Assumes nothing.
use Rattle.store_names.proofs.RoundTrip.{round_trip_lem}
use Rattle.rules.proofs.Table.{refusal_keeps, verdict-smallest}
use Rattle.rules.proofs.LastManifest.{last_manifest_lem}
use Rattle.rules.proofs.Commit.{commit-exact}
use Rattle.rules.proofs.Demand3.{demand3-from}
use Rattle.rules.proofs.Whole.{whole}
use Rattle.rules.proofs.WriteOnce.{last_collected_lem, write_once_lem}
use Rattle.rules.proofs.Rates.{looks, looks-from}
use Rattle.rules.proofs.Raised.{old_verdicts-kept}
use Rattle.rules.proofs.Compaction.{compactions, compactions-from, compactions_of}
use Rattle.rules.proofs.Struck.{strikes}
use Rattle.rules.proofs.Depot.{out_of_order-holds, week-holds}
use Rattle.records.proofs.RoundTripSteps.{step-round_trip}
use Rattle.verdicts.proofs.RoundTrip.{verdict-round_trip}
use Rattle.objects.proofs.Words.{occupancy-by_words}
use Rattle.manifests.proofs.Searching.{search-by_halves}
use Rattle.manifests.proofs.Reaching.{reach-by_halves}
use Rattle.ledger.proofs.AnyLedger.{no_step_lem, number-accepted, number-refused, one_number_lem}
use Rattle.ledger.proofs.SoundLaw.{sound_law}
use Rattle.ledger.proofs.Looking.{look_outcome}
use Rattle.ledger.proofs.Demand3.{delivered}
use Rattle.ledger.proofs.Depot.{out_of_order_on_ledger_lem, week_on_ledger_lem}
use Rattle.replay.proofs.Commit.{commits_on_bytes_lem}
use Rattle.replay.proofs.Counts.{counted}
use Rattle.replay.proofs.Demand3.{run-delivered}
use Rattle.replay.proofs.Struck.{strikes_on_bytes_lem}
use Rattle.sheets.proofs.RoundTrip.{sheet_round_trip}
use Rattle.desk.proofs.Rounding.{charge-smallest}
use Rattle.desk.proofs.NoRate.{looked-exact, no_rate_lem, sale-exact}
use Rattle.desk.proofs.Onward.{onward}
use Rattle.listing.proofs.Cutting.{cut}
use Rattle.listing.proofs.Whole as listing
use Rattle.ledger_numbers.proofs.Exact.{numbers-exact}
use Rattle.image.proofs.RoundTrip.{image_round_trip}
use Rattle.image.proofs.Form.{image_form}
use Rattle.image.proofs.Results.{write-unsound}
use Rattle.image_history.proofs.AfterLoad.{after_load_lem}
use Rattle.image_history.proofs.UnknownHistory.{unknown_history}
use Rattle.log_check.proofs.Exact.{log_checked}
use Rattle.guarantees.specs.Guarantees.{AsNumbers, Demand1, Demand2, Demand3, Guarantees, Request1, Request2, Request3, Request4, Request5, Request6, Request12, Request13}
use Rattle.guarantees.proofs.Calls.{refused_sale_lem, refused_step_lem, unsound_run_lem}
use Rattle.guarantees.proofs.Compaction.{compactions_on_ledger_lem}
use Rattle.guarantees.proofs.Images as images
use Rattle.guarantees.proofs.Logs as logs
use Rattle.guarantees.proofs.Struck.{ledger_kept_lem, strikable_on_ledger, verdicts_kept_lem}
use Rattle.guarantees.proofs.Fronts.{full, no_step_record_lem, refused_record_lem, torn, untouched}
use Rattle.guarantees.proofs.Buffers.{steps_on_buffers_lem, verdicts_on_buffers_lem}
use Rattle.guarantees.proofs.Sequences.{collectable, collects, keeps, never_charged}

demand1 : Demand1
demand1 = record {
  one_number = one_number_lem;
  refused = number-refused;
  no_step = no_step_lem;
  refused_record = refused_record_lem;
  no_step_record = no_step_record_lem;
  untouched = untouched;
  torn = torn;
  full = full;
}

demand2 : Demand2
demand2 = record {
  accepted = number-accepted;
  layout = sound_law;
  commits = λ L s t e slot l room. commit-exact L s t e slot l room;
  commits_on_bytes = commits_on_bytes_lem;
  smallest = verdict-smallest;
  keeps = refusal_keeps;
  last_manifest = last_manifest_lem;
  counted = counted;
  steps = step-round_trip;
  verdicts = verdict-round_trip;
  names = round_trip_lem;
  steps_on_buffers = steps_on_buffers_lem;
  verdicts_on_buffers = verdicts_on_buffers_lem;
  week = week-holds;
  week_on_ledger = week_on_ledger_lem;
}

demand3 : Demand3
demand3 = record {
  collects = collects;
  collectable = collectable;
  keeps = λ asks t le n w. keeps asks t le n w;
  onward = demand3-from;
  whole = whole;
  delivered = delivered;
  runs = run-delivered;
}

request1 : Request1
request1 = record { write_once = write_once_lem; last_collected = last_collected_lem; out_of_order = out_of_order-holds; out_of_order_on_ledger = out_of_order_on_ledger_lem }

request2 : Request2
request2 = record {
  no_rate = never_charged;
  sales = λ asks time sheet currency hold fare. no_rate_lem asks time currency hold sheet fare;
  any_sale = sale-exact;
  charge = charge-smallest;
  looks = looks;
  looks_onward = looks-from;
  looked = looked-exact;
  any_look = look_outcome;
  onward = onward;
  sheets = sheet_round_trip;
}

request3 : Request3
request3 = record { search = search-by_halves; reach = reach-by_halves }

request4 : Request4
request4 = record { occupancy = occupancy-by_words; old_verdicts = old_verdicts-kept; longest_verdict = verdict-round_trip.longest; met = verdict-round_trip.met; longest_step = step-round_trip.longest }

request5 : Request5
request5 = record { lines = cut; whole = listing.whole }

request6 : Request6
request6 = record {
  reads_written = images.reads_written_lem;
  writes_read = images.writes_read_lem;
  beside_refusal = images.beside_refusal_lem;
  sound = images.read-sound;
  unsound = write-unsound;
  round_trip = image_round_trip;
  form = image_form;
  longest = image_round_trip.longest;
  collects = images.collects;
  keeps = images.keeps;
  after_load = after_load_lem;
  unknown = unknown_history;
}

request12 : Request12
request12 = record {
  whole = logs.whole;
  torn = logs.torn;
  checked = log_checked;
  refused_image = logs.refused_image_lem;
  read_image = logs.read_image_lem;
  saved_image = logs.saved_image_lem;
}

request13 : Request13
request13 = record {
  compactions = compactions;
  compactions_on_ledger = compactions_on_ledger_lem;
  compactions_onward = compactions-from;
  compactions_by_history = compactions_of;
  strikes = strikes;
  verdicts_kept = verdicts_kept_lem;
  ledger_kept = ledger_kept_lem;
  strikable = strikable_on_ledger;
  strikes_on_bytes = strikes_on_bytes_lem;
}

as_numbers_lem : AsNumbers
as_numbers_lem = record { exact = numbers-exact; refused_step = refused_step_lem; refused_sale = refused_sale_lem; unsound_run = unsound_run_lem }

pub guarantees : Guarantees
guarantees = record {
  demand1 = demand1;
  demand2 = demand2;
  demand3 = demand3;
  request1 = request1;
  request2 = request2;
  request3 = request3;
  request4 = request4;
  request5 = request5;
  request6 = request6;
  request12 = request12;
  request13 = request13;
  as_numbers = as_numbers_lem;
}
