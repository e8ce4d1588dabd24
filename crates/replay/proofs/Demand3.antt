-- A run is its records asked one after another; so demand 3 holds of every run from the fresh ledger.
-- Assumes nothing.
use mathlib.Core.Path.{◌≡◌, refl, sym, ap, ap₂, ◌∙◌}
use mathlib.Core.Logic.{◌⊎◌, inl, inr}
use mathlib.Core.Bool.{Bool, true, false, cond}
use mathlib.Core.List.{List, [], ◌∷◌, map, flatten}
use Prim.Native.Nat.{ℕ, ◌-◌, ◌≤◌, ◌<◌}
use native.Mathlib.Omega.{arith}
use lib.Dec.{ltb}
use lib.ListN.{length, take}
use borrow.Author.Tests.{ltb-true, ltb-false, lt-ltb, le-ltb, lt-leb, le-leb}
use Rattle.fields.specs.Fields.{over}
use Rattle.rules.specs.Limits.{limits}
use Rattle.rules.specs.State.{State, fresh}
use Rattle.rules.specs.Sound.{sound}
use Rattle.rules.specs.Request.{Request, Ask}
use Rattle.rules.specs.Step.{Reply, size, reply, next}
use Rattle.rules.specs.Raised.{replies_from}
use Rattle.rules.proofs.Lists.{decide}
use Rattle.rules.proofs.Raised.{old_verdicts-kept}
use Rattle.rules.proofs.Soundness.{sound-fresh, next-sound}
use Rattle.records.specs.Steps.{decode_step}
use Rattle.verdicts.specs.Verdicts.{encode_verdict}
use Rattle.ledger.specs.declared.Ledger.{Ledger}
use Rattle.ledger.specs.Ledger.{lay}
use Rattle.ledger.specs.Demand3.{verdict_size, kept_after, ledger_after}
use Rattle.ledger.proofs.Demand3.{next-laid, delivered}
use Rattle.replay.specs.Front.{answer_to, answer_bytes}
use Rattle.replay.specs.Replay.{cut, tell, replay_of}
use Rattle.replay.specs.Demand3.{asking, asks_from, asks_of, bytes_of, RunDelivered}
use Rattle.replay.proofs.Answers.{answer-length, laid-bytes, encoded_size}

-- A record on any ledger: its verdict has room, or the ledger stays
module _ (l : Ledger) (r : List ℕ) (room : ℕ) where
  kept-short : room < length (answer_bytes l r) → kept_after l (asking r room) ≡ l
  kept-short h = ap (λ (b : Bool). cond b (answer_to l r).ledger l) (lt-leb (verdict_size (answer_to l r).verdict) room (omega (arith, answer-length l (decode_step r), h)))

  kept-fits : length (answer_bytes l r) ≤ room → kept_after l (asking r room) ≡ (answer_to l r).ledger
  kept-fits h = ap (λ (b : Bool). cond b (answer_to l r).ledger l) (le-leb (verdict_size (answer_to l r).verdict) room (omega (arith, answer-length l (decode_step r), h)))

  room-known : (room < length (answer_bytes l r)) ⊎ (length (answer_bytes l r) ≤ room)
  room-known = by (decide (ltb room (length (answer_bytes l r))))
    where
      by : (ltb room (length (answer_bytes l r)) ≡ true) ⊎ (ltb room (length (answer_bytes l r)) ≡ false) → (room < length (answer_bytes l r)) ⊎ (length (answer_bytes l r) ≤ room)
      by (inl e) = inl (ltb-true room (length (answer_bytes l r)) e)
      by (inr e) = inr (ltb-false room (length (answer_bytes l r)) e)

-- The ledger that the records leave
told-ledger : (l : Ledger) (room : ℕ) (rs : List (List ℕ)) → (tell l room rs).ledger ≡ ledger_after l (asks_from l room rs)
unfolding tell asks_from ledger_after
told-ledger l room [] = refl
told-ledger l room (r ∷ rs) = by (room-known l r room) (told-ledger (answer_to l r).ledger (room - length (answer_bytes l r)) rs)
  where
    by : (room < length (answer_bytes l r)) ⊎ (length (answer_bytes l r) ≤ room)
        → (tell (answer_to l r).ledger (room - length (answer_bytes l r)) rs).ledger ≡ ledger_after (answer_to l r).ledger (asks_from (answer_to l r).ledger (room - length (answer_bytes l r)) rs)
        → (tell l room (r ∷ rs)).ledger ≡ ledger_after l (asks_from l room (r ∷ rs))
    by (inl h) e = rw (lt-ltb room (length (answer_bytes l r)) h) (sym (kept-short l r room h))
    by (inr h) e = rw (le-ltb room (length (answer_bytes l r)) h) (e ∙ ap (λ (k : Ledger). ledger_after k (asks_from (answer_to l r).ledger (room - length (answer_bytes l r)) rs)) (sym (kept-fits l r room h)))

-- What they ask
told-asks : (l : Ledger) (room : ℕ) (rs : List (List ℕ)) → map (λ (a : Ask). a.request) (asks_from l room rs) ≡ take (length (asks_from l room rs)) (map decode_step rs)
unfolding asks_from
told-asks l room [] = refl
told-asks l room (r ∷ rs) = by (ltb room (length (answer_bytes l r))) (told-asks (answer_to l r).ledger (room - length (answer_bytes l r)) rs)
  where
    more : List Ask
    more = asks_from (answer_to l r).ledger (room - length (answer_bytes l r)) rs

    by : (b : Bool) → map (λ (a : Ask). a.request) more ≡ take (length more) (map decode_step rs)
        → map (λ (a : Ask). a.request) (asking r room ∷ cond b [] more) ≡ take (length (asking r room ∷ cond b [] more)) (map decode_step (r ∷ rs))
    by true e = refl
    by false e = ap (λ (qs : List Request). decode_step r ∷ qs) e

-- What they are told, from the layout of a sound state on
abbrev told : State → List Ask → List (List ℕ)
told s asks = bytes_of (replies_from limits s asks) asks

told-replies : (s : State) → sound limits s ≡ true → (room : ℕ) (rs : List (List ℕ)) → (tell (lay s) room rs).verdicts ≡ told s (asks_from (lay s) room rs)
unfolding tell asks_from replies_from bytes_of
told-replies s e room [] = refl
told-replies s e room (r ∷ rs) = by (room-known (lay s) r room) (told-replies after (next-sound limits (sound limits) s (asking r room) e) (room - length v) rs)
  where
    v : List ℕ
    v = answer_bytes (lay s) r

    after : State
    after = next limits (sound limits) s (asking r room)

    same : v ≡ encode_verdict (reply limits (sound limits) s (decode_step r)).answer (reply limits (sound limits) s (decode_step r)).list
    same = laid-bytes s e (decode_step r)

    long : length v ≡ size (reply limits (sound limits) s (decode_step r))
    long = ap length same ∙ encoded_size (reply limits (sound limits) s (decode_step r)).answer (reply limits (sound limits) s (decode_step r)).list

    by : (room < length v) ⊎ (length v ≤ room) → (tell (lay after) (room - length v) rs).verdicts ≡ told after (asks_from (lay after) (room - length v) rs)
        → (tell (lay s) room (r ∷ rs)).verdicts ≡ told s (asks_from (lay s) room (r ∷ rs))
    by (inl h) f = rw (lt-ltb room (length v) h, lt-leb (size (reply limits (sound limits) s (decode_step r))) room (omega (arith, long, h)))
    by (inr h) f =
        let moved : (answer_to (lay s) r).ledger ≡ lay after = sym (kept-fits (lay s) r room h) ∙ next-laid s e (asking r room) in
        rw (le-ltb room (length v) h, le-leb (size (reply limits (sound limits) s (decode_step r))) room (omega (arith, long, h)), moved) (ap₂ (λ (x : List ℕ) (xs : List (List ℕ)). x ∷ xs) same f)

pub run-delivered : (trace out : List ℕ) → RunDelivered trace out
unfolding replay_of
run-delivered trace out =
    let rs = (cut trace).records in
    let asks = asks_of trace out in
    let written = ap (λ (vs : List (List ℕ)). over (flatten vs) out) (told-replies fresh (sound-fresh limits) (length out) rs) in
    record {
      asked = told-asks (lay fresh) (length out) rs;
      kept = told-ledger (lay fresh) (length out) rs;
      delivered = λ k. delivered (take k asks);
      output = written;
      old = λ e. written ∙ ap (λ (ws : List Reply). over (flatten (bytes_of ws asks)) out) (old_verdicts-kept.here.replies asks e);
    }
