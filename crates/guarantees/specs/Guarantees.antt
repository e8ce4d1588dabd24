-- What is guaranteed, on one page: the customer's three demands, then each request of document 02 that has landed. Every claim has its quantifiers here;
-- `Guarantees`, at the end, holds them all, and proofs/Guarantees.antt proves it. docs/GUARANTEES.md says each in plain words. Assumes nothing.
--
-- That the code answers what these definitions say is each operation's own contract, in its crate's src/, without a `requires` (`reaches` serves the ledger
-- alone, and asks for arrays of their sizes):
--   Ledger::fresh         lay fresh                       Ledger::step    judged, of what the step asks (request_of)
--   Ledger::is_sound      is_sound                         Ledger::refuse_unreadable   judged, of Unreadable
--   replay::step_record   front_step                       replay::run     replay_of
--   records::read_step    step_read of decode_step          records::write_step      step_writing
--   verdicts::read_verdict verdict_read of decode_verdict   verdicts::write_verdict  verdict_writing
--   store_names::read_name     decode                     store_names::write_name  writing
--   sheets::read_sheet    decode_sheet                     sheets::write_sheet      sheet_writing
--   desk::sell            sale_of                          desk::fill_card          card_of and answer_of
--   manifests::reaches    reach_of                         listing::read_listing    listing_of
--   image::write_image    writing_of                       image::read_image        read_of
--   log_check::check_log  checked_of                       log_check::check_log_from   answered_from, of read_of
--
-- `suc` is imported for the edits in must-fail/.
use Rattle.std.specs.Prelude.{◌≡◌, ◌⊎◌, ◌↔◌, Bool, true, false, not, ◌&&◌, List, [], ◌∷◌, ℕ, suc, ◌≤◌, ◌<◌, eqb, leb, length, take, Option, None, Some, Ok, Err}
use Rattle.store_names.specs.RoundTrip.{RoundTrip}
use Rattle.fields.specs.declared.Next.TheVariants.{Torn, Record}
use Rattle.fields.specs.Fields.{over, next_of}
use Rattle.rules.specs.declared.Kind.{Kind}
use Rattle.rules.specs.declared.Kind.TheVariants.{Collect as COLLECT, Compact as COMPACT, Look as LOOK}
use Rattle.rules.specs.declared.Answer.{Answer}
use Rattle.rules.specs.declared.Answer.TheVariants.{Collected}
use Rattle.rules.specs.declared.Step.{Step}
use Rattle.rules.specs.declared.Verdict.{Verdict}
use Rattle.rules.specs.Lists.{all, has, none, rising_above}
use Rattle.rules.specs.Limits.{Limits, limits}
use Rattle.rules.specs.State.{State, fresh}
use Rattle.rules.specs.Words.{stored, listed, currency_of}
use Rattle.rules.specs.Sound as rules
use Rattle.rules.specs.Table.{Row, well_formed}
use Rattle.rules.specs.Request.{Request, Asked, Unreadable, Ask}
use Rattle.rules.specs.Step.{code, effect, granted, rows_of}
use Rattle.rules.specs.Typed.{names_of, objects_of}
use Rattle.rules.specs.Verdict.{Smallest, VerdictSmallest, RefusalKeeps, LastManifest, CommitsExact}
use Rattle.rules.specs.History.{stored_at, listed_at, dead_at}
use Rattle.rules.specs.Demand3.{history_of, Demand3From, Whole}
use Rattle.rules.specs.WriteOnce.{WriteOnce, LastCollected}
use Rattle.rules.specs.Rates.{held_at, rates_at, LooksFrom, Looks}
use Rattle.rules.specs.Raised.{OldVerdictsKept}
use Rattle.rules.specs.Compaction.{in_current, in_force, Compactions, CompactionsFrom, CompactionsOf}
use Rattle.rules.specs.Struck.{others, within, each, refusals, Strikable, Strikes}
use Rattle.rules.specs.Depot as depot
use Rattle.rules.specs.OutOfOrder as out_of_order
use Rattle.fields.specs.declared.WriteError.TheVariants.{Malformed}
use Rattle.records.specs.Steps.{fields_of, encode_step, decode_step, step_read}
use Rattle.verdicts.specs.Verdicts.{verdict_fields, verdict_formed, encode_verdict, decode_verdict, verdict_read, verdict_writing}
use Rattle.records.specs.Writing.{Writing, step_writing}
use Rattle.records.specs.RoundTrip.{all_fit, are_bytes, StepRoundTrip}
use Rattle.verdicts.specs.RoundTrip.{VerdictRoundTrip}
use Rattle.objects.specs.Occupancy.{OccupancyByWords}
use Rattle.manifests.specs.Search.{SearchByHalves}
use Rattle.manifests.specs.Reach.{ReachByHalves}
use Rattle.ledger.specs.declared.Ledger.{Ledger}
use Rattle.ledger.specs.Ledger.{lay, view, is_sound}
use Rattle.ledger.specs.SoundLaw.{SoundLayout}
use Rattle.ledger.specs.SoundLaw as ledger
use Rattle.ledger.specs.Step.{refused_with, answered_with, judged}
use Rattle.ledger.specs.Look.{LookOutcome}
use Rattle.ledger.specs.Demand3.{verdict_size, kept_after, ledger_after, Delivered}
use Rattle.ledger.specs.Depot as on_ledger
use Rattle.ledger_numbers.specs.Numbers.{ledger_from}
use Rattle.ledger_numbers.specs.Exact.{NumbersExact}
use Rattle.replay.specs.Front.{answer_bytes, front_code, unchanged, record_step, front_step}
use Rattle.replay.specs.Replay.{ending_code, replay_of}
use Rattle.replay.specs.Counts.{Counted}
use Rattle.replay.specs.Commit.{CommitsOnBytes}
use Rattle.replay.specs.Demand3.{RunDelivered}
use Rattle.replay.specs.Struck.{StrikesOnBytes}
use Rattle.sheets.specs.RoundTrip.{SheetRoundTrip}
use Rattle.desk.specs.declared.SaleError.{SaleError}
use Rattle.desk.specs.Charge.{ChargeIsSmallest}
use Rattle.desk.specs.Sale.{sale_of}
use Rattle.desk.specs.NoRate.{SaleExact, LookedExact, NoRateNoCharge}
use Rattle.desk.specs.Onward.{Onward}
use Rattle.image.specs.declared.LoadError.{LoadError}
use Rattle.image.specs.declared.SaveError.TheVariants.{Unsound as NotSound}
use Rattle.image.specs.Image.{image_of}
use Rattle.image.specs.Reading.{read_of, read_code, error_number, ledger_beside}
use Rattle.image.specs.Writing.{writing_of}
use Rattle.image.specs.RoundTrip.{Fits, ImageRoundTrip}
use Rattle.image.specs.Form.{ImageForm}
use Rattle.image_history.specs.AfterLoad.{Event, kept_all, path_all, at_start, no_steps, event_fits, AfterLoad}
use Rattle.image_history.specs.UnknownHistory.{UnknownHistory}
use Rattle.log_check.specs.Check.{checked_of}
use Rattle.log_check.specs.Exact.{own_log, LogChecked}
use Rattle.log_check.specs.Image.{answered_from}
use Rattle.exports.specs.Codec.{kind_of}
use Rattle.exports.specs.Ledgers.{request_of as request_in, step}
use Rattle.exports.specs.Runs.{run_on}
use Rattle.desk_exports.specs.Calls.{narrow, sell}
use Rattle.listing.specs.Lines.{Cut}
use Rattle.listing.specs.Whole as listing

-- ---- Demand 1. Any bytes, any ledger value, any output room. "Each step is accepted or refused with one number from the table"; a refusal, a torn record
-- and a verdict that does not fit change nothing.

-- the number that a request is given on any ledger value, and the rows that can apply to it there: row 1 asks the ledger itself
abbrev pub number_on : Ledger → Request → ℕ
number_on l q = code (judged l q).verdict.answer

abbrev pub rows_on : Ledger → Request → List Row
rows_on l q = rows_of limits (λ s. is_sound l) (view l) q

pub record Demand1 : Type 0 where
  -- "The smallest number that applies is the verdict, and no number is given otherwise."
  pub one_number : (l : Ledger) (q : Request) → Smallest (rows_on l q) (number_on l q)
  -- a refused step leaves the ledger as it was, sound or not; a record that is no step is one, refused with 2, or 1 where the ledger is not sound
  pub refused : (l : Ledger) (q : Request) → (number_on l q ≡ 0 → ⊥) → judged l q ≡ refused_with (number_on l q) l
  pub no_step : (l : Ledger) → ((is_sound l ≡ true) × (number_on l Unreadable ≡ 2)) ⊎ ((is_sound l ≡ false) × (number_on l Unreadable ≡ 1))
  -- the same in bytes, with any room
  pub refused_record : (l : Ledger) (bytes out : List ℕ) → (number_on l (decode_step bytes) ≡ 0 → ⊥) → (record_step l bytes out).answer.ledger ≡ l
  pub no_step_record : (l : Ledger) (bytes out : List ℕ) → decode_step bytes ≡ Unreadable → (record_step l bytes out).answer.ledger ≡ l
  -- at the end of a trace, torn (1) and full (2) neither the ledger nor a byte of the output changes
  pub untouched : (l : Ledger) (trace out : List ℕ) → front_code (front_step l trace out).answer.front < 3
      → front_step l trace out ≡ unchanged (front_step l trace out).answer.front l out
  pub torn : (l : Ledger) (trace out : List ℕ) → (front_code (front_step l trace out).answer.front ≡ 1) ↔ (next_of trace ≡ Torn)
  -- ""full" is said exactly when its verdict is longer than the room left"
  pub full : (l : Ledger) (trace out : List ℕ) (n : ℕ) → next_of trace ≡ Record n
      → (front_code (front_step l trace out).answer.front ≡ 2) ↔ (length out < length (answer_bytes l (take n trace)))

-- ---- Demand 2. "Each verdict, next ledger and output byte shall be the one the step rules give"; a commit takes effect exactly under its conditions;
-- records and names are read and written, each undoing the other, and all else is refused.

-- Reading and writing on what the operations promise, a value and a buffer; `Fits`: the value's numbers fit their types
pub record OnBuffers {A : Type 0} (Fits : A → Type 0) (write : A → List ℕ → Writing) (read : List ℕ → Option A) : Type 0 where
  -- what was written into a buffer is read as the value
  pub reads_written : (v : A) → Fits v → (buffer : List ℕ) (n : ℕ) → (write v buffer).answer ≡ Ok n → read (take n (write v buffer).buffer) ≡ Some v
  -- what was read is written, where there is room, as the bytes that it was read from; those beyond stay
  pub writes_read : (v : A) (bytes buffer : List ℕ) → are_bytes bytes ≡ true → read bytes ≡ Some v → length bytes ≤ length buffer
      → write v buffer ≡ record { answer = Ok (length bytes); buffer = over bytes buffer }
  -- the reader refuses the bytes that no value is written as
  pub refuses_bytes : (bytes : List ℕ) → are_bytes bytes ≡ true
      → ((v : A) → Fits v → (buffer : List ℕ) → length bytes ≤ length buffer → write v buffer ≡ record { answer = Ok (length bytes); buffer = over bytes buffer } → ⊥)
      → read bytes ≡ None
  -- "Writers answer 2 for what no reader takes", and for nothing else
  pub refuses_value : (v : A) → Fits v → (buffer : List ℕ) → ((write v buffer).answer ≡ Err Malformed) ↔ ((bytes : List ℕ) → are_bytes bytes ≡ true → read bytes ≡ Some v → ⊥)

-- a typed step and a typed verdict, as their types have them
pub record StepFits (p : Step) : Type 0 where
  pub numbers : all_fit (fields_of p.time p.kind) (names_of p.list) ≡ true
  pub places : length p.list.names ≡ limits.names

pub record VerdictFits (v : Verdict) : Type 0 where
  pub numbers : all_fit (verdict_fields v.answer) (objects_of v.list) ≡ true
  pub places : length v.list.objects ≡ limits.places

pub record Demand2 : Type 0 where
  -- an accepted step answers and leaves what the rules say, laid out in its places; a ledger is sound exactly when it is the layout of a sound state
  pub accepted : (l : Ledger) (q : Request) → number_on l q ≡ 0 → judged l q ≡ answered_with (granted q (view l)) (lay (effect q (view l)))
  pub layout : SoundLayout
  -- a commit, on the rules and in bytes; whatever the limits
  pub commits : (L : Limits) → CommitsExact L
  pub commits_on_bytes : CommitsOnBytes
  -- the table, whatever the limits and row 1's test; "At manifest 2^64-1 every slot gives 6 .. smaller numbers still go first"
  pub smallest : (L : Limits) (test : State → Bool) → VerdictSmallest L test
  pub keeps : (L : Limits) (test : State → Bool) → RefusalKeeps L test
  pub last_manifest : (L : Limits) (test : State → Bool) → LastManifest L test
  -- a run's counts are the lengths of the records answered and of the verdicts written, and the bytes beyond stay
  pub counted : (l : Ledger) (trace out : List ℕ) → Counted l trace out
  -- records and names, on lists of bytes; then on a typed value and a buffer
  pub steps : StepRoundTrip
  pub verdicts : VerdictRoundTrip
  pub names : RoundTrip
  pub steps_on_buffers : OnBuffers StepFits step_writing (λ bytes. step_read (decode_step bytes))
  pub verdicts_on_buffers : OnBuffers VerdictFits verdict_writing (λ bytes. verdict_read (decode_verdict bytes))
  -- one week at the depot, on the rules and through the ledger's own step
  pub week : depot.WeekHolds
  pub week_on_ledger : on_ledger.WeekHolds

-- ---- Demand 3. Any sequence of steps from fresh, refused ones and those without room among them; the history is fed what was asked and whether it was
-- accepted, and nothing else.

-- the ledger that a caller keeps after the asks
abbrev pub kept_by : List Ask → Ledger
kept_by asks = ledger_after (lay fresh) asks

-- a COLLECT of that time, and the list that the ledger answers it with
abbrev pub collect_at : ℕ → Request
collect_at t = Asked t COLLECT []

abbrev pub collected_by : ℕ → Ledger → List ℕ
collected_by t l = objects_of (judged l (collect_at t)).verdict.list

abbrev pub collected_at : ℕ → List Ask → List ℕ
collected_at t asks = collected_by t (kept_by asks)

pub record Demand3 : Type 0 where
  -- a collection asked next, at any time, and accepted, lists, rising and once each, exactly what the history says is dead at its time
  pub collects : (asks : List Ask) (t : ℕ) → number_on (kept_by asks) (collect_at t) ≡ 0
      → (rising_above 0 (collected_at t asks) ≡ true) × ((n : ℕ) → has n (collected_at t asks) ≡ dead_at t (history_of asks) n)
  -- and at the clock's time or later it is accepted
  pub collectable : (asks : List Ask) (t : ℕ) → (kept_by asks).clock ≤ t → number_on (kept_by asks) (collect_at t) ≡ 0
  -- at the clock's time and at every later one, what the current manifest or a live hold names, by the history or in the ledger, is stored, by the history
  -- and in the ledger
  pub keeps : (asks : List Ask) (t : ℕ) → (kept_by asks).clock ≤ t → (n : ℕ) → (listed_at t (history_of asks) n ≡ true) ⊎ (listed t (view (kept_by asks)) n ≡ true)
      → (stored_at (history_of asks) n ≡ true) × (stored (view (kept_by asks)) n ≡ true)
  -- the claims that these are drawn from: from any ledger and history that agree, whatever the limits and row 1's test; from fresh, on the rules, on the
  -- ledger in its places, and of a run over any bytes with any room
  pub onward : (L : Limits) (test : State → Bool) → Demand3From L test
  pub whole : (asks : List Ask) → Whole asks
  pub delivered : (asks : List Ask) → Delivered asks
  pub runs : (trace out : List ℕ) → RunDelivered trace out

-- ---- The requests that have landed

-- [1] parallel writers land out of order; a number is put once
pub record Request1 : Type 0 where
  pub write_once : (L : Limits) (test : State → Bool) (asks : List Ask) → WriteOnce L test asks
  pub last_collected : (L : Limits) (test : State → Bool) → LastCollected L test
  pub out_of_order : out_of_order.OutOfOrderHolds
  pub out_of_order_on_ledger : on_ledger.OutOfOrderHolds

-- [2] the sale desk: "an absent rate shall stop the sale"
pub record Request2 : Type 0 where
  -- where the history has no rate in that currency, or no such live hold, nothing is charged, whatever the sheet
  pub no_rate : (asks : List Ask) (time : ℕ) (sheet : List ℕ) (currency hold fare : ℕ)
      → (none (rates_at time (history_of asks) currency hold) ≡ true) ⊎ ((0 < hold) × (held_at time (history_of asks) hold ≡ false))
      → (n : ℕ) → (sale_of (kept_by asks) time sheet currency hold fare).sale ≡ Ok n → ⊥
  -- what a charged sale went by, and by which sheets one is charged, by the history; a refused one leaves the ledger, whatever it was
  pub sales : (asks : List Ask) (time : ℕ) (sheet : List ℕ) (currency hold fare : ℕ) → NoRateNoCharge asks time sheet currency hold fare
  pub any_sale : (l : Ledger) (time : ℕ) (sheet : List ℕ) (currency hold fare : ℕ) → SaleExact l time sheet currency hold fare
  pub charge : ChargeIsSmallest
  -- what every look is answered, by the history alone, on the rules and at the desk; on any ledger value it finds or refuses
  pub looks : (asks : List Ask) → Looks asks
  pub looks_onward : (L : Limits) (test : State → Bool) → LooksFrom L test
  pub looked : (asks : List Ask) (time currency hold : ℕ) → LookedExact asks time currency hold
  pub any_look : LookOutcome
  -- the desk's ledgers are those of LOOKs asked one after another
  pub onward : Onward
  pub sheets : SheetRoundTrip

-- [3] the reach test searches rising lists by halves, with a count
pub record Request3 : Type 0 where
  pub search : SearchByHalves
  pub reach : ReachByHalves

-- [4] 256 places in four words, 64 names; a trace that never met an old limit keeps its verdicts
pub record Request4 : Type 0 where
  pub occupancy : OccupancyByWords
  pub old_verdicts : OldVerdictsKept
  -- "the longest verdict becomes 2,058 bytes": none is longer, and every place collected makes one that is; and the longest step
  pub longest_verdict : (a : Answer) (l : List ℕ) → verdict_formed a l ≡ true → length (encode_verdict a l) ≤ 2058
  pub met : (l : List ℕ) → length l ≡ limits.places → length (encode_verdict Collected l) ≡ 2058
  pub longest_step : (t : ℕ) (k : Kind) (l : List ℕ) → well_formed limits t k l ≡ true → length (encode_step t k l) ≤ 551

-- [5] names have folders Demand2.names; a listing is cut into lines in one way, and which bytes are a whole one and what it says
pub record Request5 : Type 0 where
  pub lines : Cut
  pub whole : listing.Whole

-- [6] a ledger is saved as an image, and loaded

-- the ledger after steps, saves and loads in any order, and the steps that led to it: after a load those that led to the image, then those after it
abbrev pub loaded_after : List Event → Ledger
loaded_after es = (kept_all at_start es).ledger

abbrev pub led_to : List Event → List Ask
led_to es = (path_all no_steps es).asked

pub record Request6 : Type 0 where
  -- on what the operations promise: what was written into a buffer is read as the ledger, free places included; its arrays and numbers are as its type says
  pub reads_written : (l : Ledger) → ledger.Whole l → Fits (view l) → (buffer : List ℕ) (n : ℕ) → (writing_of l buffer).answer ≡ Ok n
      → read_of (take n (writing_of l buffer).buffer) ≡ Ok l
  -- what was read is written, where there is room, as the bytes that it was read from; those beyond stay
  pub writes_read : (l : Ledger) (bytes buffer : List ℕ) → are_bytes bytes ≡ true → read_of bytes ≡ Ok l → length bytes ≤ length buffer
      → writing_of l buffer ≡ record { answer = Ok (length bytes); buffer = over bytes buffer }
  -- beside a refusal stands the fresh ledger; a ledger that was read is sound; one that is not is never written
  pub beside_refusal : (bytes : List ℕ) → (read_code (read_of bytes) ≡ 0 → ⊥) → ledger_beside bytes ≡ lay fresh
  pub sound : (bytes : List ℕ) → is_sound (ledger_beside bytes) ≡ true
  pub unsound : (l : Ledger) (buffer : List ℕ) → is_sound l ≡ false → writing_of l buffer ≡ record { answer = Err NotSound; buffer = buffer }
  -- "A sound ledger has exactly one image", and all else is refused; which bytes have the form (else 2), and what they say (1 where that is not sound)
  pub round_trip : ImageRoundTrip
  pub form : ImageForm
  -- no image is longer, and one is as long
  pub longest : (s : State) → rules.sound limits s ≡ true → length (image_of s) ≤ 11240
  -- "After a load, even of an older ledger, the third demand's history is the one that led to the image, then the steps after it": demand 3 of the ledger
  -- after any steps, saves and loads of any earlier save
  pub collects : (es : List Event) → all event_fits es ≡ true → (t : ℕ) → number_on (loaded_after es) (collect_at t) ≡ 0
      → (rising_above 0 (collected_by t (loaded_after es)) ≡ true) × ((n : ℕ) → has n (collected_by t (loaded_after es)) ≡ dead_at t (history_of (led_to es)) n)
  pub keeps : (es : List Event) → all event_fits es ≡ true → (t : ℕ) → (loaded_after es).clock ≤ t → (n : ℕ)
      → (listed_at t (history_of (led_to es)) n ≡ true) ⊎ (listed t (view (loaded_after es)) n ≡ true)
      → (stored_at (history_of (led_to es)) n ≡ true) × (stored (view (loaded_after es)) n ≡ true)
  pub after_load : AfterLoad
  -- of an image of unknown history, and so of every sound ledger, with any further steps: a collection is exact by the ledger's own words, and no listed
  -- object is missing
  pub unknown : UnknownHistory

-- [12] another maker's log, checked against our own verdicts

pub record Request12 : Type 0 where
  -- "For a trace that ends whole it shall accept exactly the log our own run writes with room enough, and for a torn trace none": from any ledger value,
  -- whatever the output that the run was lent
  pub whole : (l : Ledger) (trace log out : List ℕ) → ending_code (replay_of l trace out).answer.ending ≡ 0 → (checked_of l trace log ≡ None) ↔ (log ≡ own_log l trace out)
  pub torn : (l : Ledger) (trace log out : List ℕ) → ending_code (replay_of l trace out).answer.ending ≡ 1 → checked_of l trace log ≡ None → ⊥
  -- which room is enough; and an index is said exactly where the logs agree before it and not at it, verdict by verdict and in bytes
  pub checked : (l : Ledger) (trace log : List ℕ) → LogChecked l trace log
  -- "A refused image gives that refusal's number", and an image that is read its ledger
  pub refused_image : (image trace log : List ℕ) → (read_code (read_of image) ≡ 0 → ⊥)
      → (e : LoadError) × (answered_from (read_of image) trace log ≡ Err e) × (error_number e ≡ read_code (read_of image))
  pub read_image : (image trace log : List ℕ) → read_code (read_of image) ≡ 0 → answered_from (read_of image) trace log ≡ Ok (checked_of (ledger_beside image) trace log)
  -- so from what was written of a ledger all is found that is found from the ledger itself
  pub saved_image : (l : Ledger) → ledger.Whole l → Fits (view l) → (room : List ℕ) (n : ℕ) → (writing_of l room).answer ≡ Ok n → (trace log : List ℕ)
      → answered_from (read_of (take n (writing_of l room).buffer)) trace log ≡ Ok (checked_of l trace log)

-- [13] looks just before and just after an accepted COMPACT, both at its time; refused steps that are struck from a trace

-- on the ledger's own step: what a LOOK is told
abbrev pub looked_on : Ledger → ℕ → ℕ → ℕ → Verdict
looked_on l t c x = (judged l (Asked t (LOOK c x) [])).verdict

-- before and after: the ledger that a COMPACT of object n at time t finds, and the one that it leaves
pub record LooksKeptOn (t n : ℕ) (before after : Ledger) : Type 0 where
  -- "The current manifest has the same currencies", 0 too
  pub currencies : (c : ℕ) → in_force (view after) c ≡ in_force (view before) c
  -- "all but the compacted one give the same object", or the same refusal; and have the same objects; the compacted one has the object alone
  pub others : (c : ℕ) → (c ≡ currency_of (view before) n → ⊥) → looked_on after t c 0 ≡ looked_on before t c 0
  pub objects : (c : ℕ) → (c ≡ currency_of (view before) n → ⊥) → in_current (view after) c ≡ in_current (view before) c
  pub brought : in_current (view after) (currency_of (view before) n) ≡ n ∷ []
  -- "looks through live holds are the same", of every currency and through every hold
  pub held : (c x : ℕ) → 0 < x → looked_on after t c x ≡ looked_on before t c x

-- steps on the ledger one after another: what is not accepted (refused, or without room for its verdict), and what each is told
abbrev pub refused_on : Ledger → Ask → Bool
refused_on l a = not (eqb (number_on l a.request) 0 && leb (verdict_size (judged l a.request).verdict) a.room)

abbrev pub verdicts_on : Ledger → List Ask → List Verdict
verdicts_on l asks = each kept_after (λ k a. (judged k a.request).verdict) l asks

pub record Request13 : Type 0 where
  -- looks about a compaction: on the rules, whatever the limits; on any ledger value; by the history, from any ledger and history that agree and from fresh
  pub compactions : (L : Limits) → Compactions L
  pub compactions_on_ledger : (l : Ledger) (t e slot n : ℕ) (names : List ℕ) → number_on l (Asked t (COMPACT e slot n) names) ≡ 0
      → LooksKeptOn t n l (judged l (Asked t (COMPACT e slot n) names)).ledger
  pub compactions_onward : (L : Limits) → CompactionsFrom L
  pub compactions_by_history : (asks : List Ask) → CompactionsOf asks
  -- refused steps struck: on the rules, from any state; on the ledger's own step, from any ledger value; on the bytes of a run that ends whole
  pub strikes : (L : Limits) → Strikes L
  pub verdicts_kept : (l : Ledger) (marks : List Bool) (asks : List Ask) → within marks (refusals kept_after refused_on l asks) ≡ true
      → verdicts_on l (others marks asks) ≡ others marks (verdicts_on l asks)
  pub ledger_kept : (l : Ledger) (marks : List Bool) (asks : List Ask) → within marks (refusals kept_after refused_on l asks) ≡ true
      → ledger_after l (others marks asks) ≡ ledger_after l asks
  pub strikable : (l : Ledger) (asks : List Ask) → Strikable kept_after refused_on l asks
  pub strikes_on_bytes : StrikesOnBytes

-- ---- A ledger as numbers, for callers that see no struct (C): numbers that no ledger can be are a ledger that is not sound

pub record AsNumbers : Type 0 where
  pub exact : NumbersExact
  -- a refusal leaves the numbers that were lent as they are, bit for bit: of a step, of a sale, and of a run on a ledger that is not sound
  pub refused_step : (ledger numbers list verdict objects : List ℕ) → (number_on (ledger_from ledger) (request_in (kind_of numbers) numbers list) ≡ 0 → ⊥)
      → (step ledger numbers list verdict objects).ledger ≡ ledger
  pub refused_sale : (ledger : List ℕ) (time : ℕ) (sheet : List ℕ) (currency hold fare : ℕ) (sale : List ℕ) (e : SaleError)
      → (sale_of (ledger_from ledger) time sheet (narrow currency) hold fare).sale ≡ Err e → (sell ledger time sheet currency hold fare sale).ledger ≡ ledger
  pub unsound_run : (ledger trace out counts : List ℕ) → is_sound (ledger_from ledger) ≡ false → (run_on ledger trace out counts).ledger ≡ ledger

pub record Guarantees : Type 0 where
  pub demand1 : Demand1
  pub demand2 : Demand2
  pub demand3 : Demand3
  pub request1 : Request1
  pub request2 : Request2
  pub request3 : Request3
  pub request4 : Request4
  pub request5 : Request5
  pub request6 : Request6
  pub request12 : Request12
  pub request13 : Request13
  pub as_numbers : AsNumbers
