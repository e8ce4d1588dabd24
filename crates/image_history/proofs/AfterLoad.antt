-- After any steps, saves and loads the ledger is the one that the path's steps leave (specs/AfterLoad.antt): what is loaded is what was saved.
-- Assumes nothing.
use mathlib.Core.Path.{◌≡◌, refl, sym, ap, ◌∙◌}
use mathlib.Core.Bool.{Bool, true, false, cond}
use mathlib.Core.List.{List, [], ◌∷◌, ◌++◌}
use Prim.Native.Nat.{ℕ, zero, suc, ◌<◌}
use native.Mathlib.Omega.{arith}
use lib.Dec.{ltb}
use lib.ListN.{length, get_or, get_or-eq_default}
use borrow.Author.Tests.{ltb-true, ltb-false}
use Rattle.std.specs.Prelude.{Result}
use Rattle.rules.specs.Lists.{all}
use Rattle.rules.specs.Request.{Ask}
use Rattle.rules.specs.State.{fresh}
use Rattle.rules.specs.Demand3.{ledger_of}
use Rattle.rules.proofs.Lists.{and_left, and_right, and_both}
use Rattle.ledger.specs.declared.Ledger.{Ledger}
use Rattle.ledger.specs.Ledger.{lay, view}
use Rattle.ledger.specs.Demand3.{kept_after, ledger_after}
use Rattle.ledger.proofs.SoundLaw.{view-lay}
use Rattle.ledger.proofs.Demand3.{delivered}
use Rattle.image.specs.declared.LoadError.{LoadError}
use Rattle.image.specs.Image.{image_of}
use Rattle.image.specs.Reading.{read_of}
use Rattle.image_history.specs.AfterLoad.{Event, asks, saves, loads, Kept, loaded, done, Path, walked, kept_all, path_all, at_start, no_steps, ask_fits, event_fits, AfterLoad}
use Rattle.image.proofs.Heads.{not-whole}
use Rattle.image.proofs.ReadsWritten.{reads_written_lem}
use Rattle.image_history.proofs.Fitting.{asked-fits}

-- one step more
after_more : (l : Ledger) (qs : List Ask) (a : Ask) → ledger_after l (qs ++ a ∷ []) ≡ kept_after (ledger_after l qs) a
unfolding ledger_after
after_more l [] a = refl
after_more l (b ∷ qs) a = after_more (kept_after l b) qs a

-- an image and the steps that led to it
pub record Image (b : List ℕ) (qs : List Ask) : Type 0 where
  pub bytes : b ≡ image_of (ledger_of qs)
  pub fits : all ask_fits qs ≡ true

unfoldable Saved : List (List ℕ) → List (List Ask) → Type 0
Saved [] [] = Unit {0}
Saved [] (a ∷ qs) = ⊥
Saved (b ∷ bs) [] = ⊥
Saved (b ∷ bs) (a ∷ qs) = Image b a × Saved bs qs

saved_many : (bs : List (List ℕ)) (qs : List (List Ask)) → Saved bs qs → length bs ≡ length qs
unfolding Saved
saved_many [] [] r = refl
saved_many [] (a ∷ qs) r = absurd r
saved_many (b ∷ bs) [] r = absurd r
saved_many (b ∷ bs) (a ∷ qs) r = ap suc (saved_many bs qs r.1)

saved-at : (n : ℕ) (bs : List (List ℕ)) (qs : List (List Ask)) → Saved bs qs → n < length qs → Image (get_or bs n []) (get_or qs n [])
unfolding Saved
saved-at n [] [] r h = absurd (omega (arith, h))
saved-at n [] (a ∷ qs) r h = absurd r
saved-at n (b ∷ bs) [] r h = absurd r
saved-at zero (b ∷ bs) (a ∷ qs) r h = r.0
saved-at (suc n) (b ∷ bs) (a ∷ qs) r h = saved-at n bs qs r.1 (omega (arith, h))

-- the ledger that the steps leave is the layout of the rules' state
said : (qs : List Ask) → ledger_after (lay fresh) qs ≡ lay (ledger_of qs)
said qs = (delivered qs).laid

-- an image that was saved is read as the ledger that was saved
load : (b : List ℕ) (qs : List Ask) (old : Ledger) → Image b qs → loaded (read_of b) old ≡ ledger_after (lay fresh) qs
load b qs old i =
    ap (λ (c : List ℕ). loaded (read_of c) old) i.bytes
    ∙ ap (λ (r : Result Ledger LoadError). loaded r old) (reads_written_lem (ledger_of qs) (delivered qs).whole.is_sound (asked-fits qs i.fits)) ∙ sym (said qs)

-- where no image is, the ledger stays
no_load : (old : Ledger) → loaded (read_of []) old ≡ old
no_load old = ap (λ (r : Result Ledger LoadError). loaded r old) (not-whole [] refl)

-- the ledger is that of the path, so is each image, and what was asked fits
record Agrees (k : Kept) (p : Path) : Type 0 where
  ledger : k.ledger ≡ ledger_after (lay fresh) p.asked
  fits : all ask_fits p.asked ≡ true
  saved : Saved k.images p.saved

fits_more : (qs : List Ask) (a : Ask) → all ask_fits qs ≡ true → ask_fits a ≡ true → all ask_fits (qs ++ a ∷ []) ≡ true
unfolding all
fits_more [] a h f = and_both (ask_fits a) true f refl
fits_more (q ∷ qs) a h f = and_both (ask_fits q) _ (and_left (ask_fits q) (all ask_fits qs) h) (fits_more qs a (and_right (ask_fits q) (all ask_fits qs) h) f)

module _ (k : Kept) (p : Path) (r : Agrees k p) where
  -- where the image was saved, its ledger is loaded; else the ledger stays
  loads-keep : (n : ℕ) → Agrees (done (loads n) k) (walked (loads n) p)
  loads-keep n = by (ltb n (length p.saved)) refl
    where
      by : (b : Bool) → ltb n (length p.saved) ≡ b
          → Agrees (done (loads n) k) (record { asked = cond b (get_or p.saved n []) p.asked; saved = p.saved })
      by true e =
          let i = saved-at n k.images p.saved r.saved (ltb-true n (length p.saved) e) in
          record { ledger = load (get_or k.images n []) (get_or p.saved n []) k.ledger i; fits = i.fits; saved = r.saved }
      by false e =
          let none : get_or k.images n [] ≡ [] = get_or-eq_default k.images [] {n = n} (omega (arith, ltb-false n (length p.saved) e, saved_many k.images p.saved r.saved)) in
          record { ledger = ap (λ (b : List ℕ). loaded (read_of b) k.ledger) none ∙ no_load k.ledger ∙ r.ledger; fits = r.fits; saved = r.saved }

  event_keeps : (e : Event) → event_fits e ≡ true → Agrees (done e k) (walked e p)
  unfolding Saved
  event_keeps (asks a) f = record {
    ledger = ap (λ (l : Ledger). kept_after l a) r.ledger ∙ sym (after_more (lay fresh) p.asked a);
    fits = fits_more p.asked a r.fits f;
    saved = r.saved;
  }
  event_keeps saves f =
      let is : view k.ledger ≡ ledger_of p.asked = ap view (r.ledger ∙ said p.asked) ∙ view-lay (ledger_of p.asked) in
      record { ledger = r.ledger; fits = r.fits; saved = (record { bytes = ap image_of is; fits = r.fits }, r.saved) }
  event_keeps (loads n) f = loads-keep n

all_keep : (es : List Event) (k : Kept) (p : Path) → Agrees k p → all event_fits es ≡ true → Agrees (kept_all k es) (path_all p es)
unfolding kept_all path_all all
all_keep [] k p r f = r
all_keep (e ∷ es) k p r f =
    all_keep es (done e k) (walked e p) (event_keeps k p r e (and_left (event_fits e) (all event_fits es) f)) (and_right (event_fits e) (all event_fits es) f)

pub after_load_lem : AfterLoad
unfolding ledger_after Saved all
after_load_lem es f =
    let r = all_keep es at_start no_steps (record { ledger = refl; fits = refl; saved = tt }) f in
    record { ledger = r.ledger; delivered = delivered (path_all no_steps es).asked }
