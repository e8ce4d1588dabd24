-- Saved and loaded ledgers (document 02, request 6): "After a load, even of an older ledger, the third demand's history is the one that led to the image,
-- then the steps after it." Claimed of every sequence of steps, saves and loads from the fresh ledger on; proved in proofs/AfterLoad.antt.
-- Assumes nothing.
use Rattle.std.specs.Prelude.{◌≡◌, Bool, true, cond, List, [], ◌∷◌, ◌++◌, ℕ, ltb, length, get_or, Result}
use Rattle.std.specs.Result.{result_unwrap_or}
use Rattle.rules.specs.Lists.{all}
use Rattle.rules.specs.Request.{Request, Asked, Unreadable, Ask}
use Rattle.rules.specs.State.{fresh}
use Rattle.records.specs.Steps.{fields_of}
use Rattle.records.specs.RoundTrip.{all_fit}
use Rattle.ledger.specs.declared.Ledger.{Ledger}
use Rattle.ledger.specs.Ledger.{lay, view}
use Rattle.ledger.specs.Demand3.{kept_after, ledger_after, Delivered}
use Rattle.image.specs.declared.LoadError.{LoadError}
use Rattle.image.specs.Image.{image_of}
use Rattle.image.specs.Reading.{read_of}

-- what is done: a step is asked, the ledger is saved, or the image that was saved n saves ago is loaded (0: the latest)
pub data Event : Type 0 where
  asks : Ask → Event
  saves : Event
  loads : ℕ → Event

-- The ledger, and the images that were saved, the latest first

pub record Kept : Type 0 where
  pub ledger : Ledger
  pub images : List (List ℕ)

-- the ledger that was read, or the one that was there where the reader refuses
abbrev pub loaded : Result Ledger LoadError → Ledger → Ledger
loaded r old = result_unwrap_or r old

abbrev pub done : Event → Kept → Kept
done (asks a) k = record { ledger = kept_after k.ledger a; images = k.images }
done saves k = record { ledger = k.ledger; images = image_of (view k.ledger) ∷ k.images }
done (loads n) k = record { ledger = loaded (read_of (get_or k.images n [])) k.ledger; images = k.images }

-- The steps that led to the ledger, and those that led to each image: what the history is fed

pub record Path : Type 0 where
  pub asked : List Ask
  pub saved : List (List Ask)

abbrev pub walked : Event → Path → Path
walked (asks a) p = record { asked = p.asked ++ a ∷ []; saved = p.saved }
walked saves p = record { asked = p.asked; saved = p.asked ∷ p.saved }
walked (loads n) p = record { asked = cond (ltb n (length p.saved)) (get_or p.saved n []) p.asked; saved = p.saved }

unfoldable pub kept_all : Kept → List Event → Kept
kept_all k [] = k
kept_all k (e ∷ es) = kept_all (done e k) es

unfoldable pub path_all : Path → List Event → Path
path_all p [] = p
path_all p (e ∷ es) = path_all (walked e p) es

abbrev pub at_start : Kept
at_start = record { ledger = lay fresh; images = [] }

abbrev pub no_steps : Path
no_steps = record { asked = []; saved = [] }

-- a step's numbers fit their fields, as the types of what is asked have it
abbrev pub request_fits : Request → Bool
request_fits (Asked t k l) = all_fit (fields_of t k) l
request_fits Unreadable = true

abbrev pub ask_fits : Ask → Bool
ask_fits a = request_fits a.request

abbrev pub event_fits : Event → Bool
event_fits (asks a) = ask_fits a
event_fits saves = true
event_fits (loads n) = true

-- the ledger is the one that the path's steps leave, so that all that is delivered of a sequence of steps (demand 3 with its history) is delivered here
pub record Follows (k : Kept) (p : Path) : Type 0 where
  pub ledger : k.ledger ≡ ledger_after (lay fresh) p.asked
  pub delivered : Delivered p.asked

abbrev pub AfterLoad : Type 0
AfterLoad = (es : List Event) → all event_fits es ≡ true → Follows (kept_all at_start es) (path_all no_steps es)
