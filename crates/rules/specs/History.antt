-- The history of the steps (document 01, "For the third demand .."): fed each step as asked and whether it was accepted, and nothing else.
-- It has its own words and takes nothing from the rules. It has no limits, and forgets no manifest. Assumes nothing.
use Rattle.std.specs.Prelude.{Bool, true, false, not, cond, ◌&&◌, ◌||◌, List, [], ◌∷◌, map, ℕ, suc, leb, ltb, eqb, length}
use Rattle.rules.specs.declared.Role.{Role}
use Rattle.rules.specs.declared.Role.TheVariants.{Writer, Compactor}
use Rattle.rules.specs.declared.Kind.{Kind}
use Rattle.rules.specs.declared.Kind.TheVariants.{Fence as FENCE, Put as PUT, Commit as COMMIT, Compact as COMPACT, Hold as HOLD, Renew as RENEW, Release as RELEASE, List as LIST, Look as LOOK, Collect as COLLECT}
use Rattle.rules.specs.declared.Hold.{Hold}
use Rattle.rules.specs.Lists.{keep, any, has, insert, lookup}
use Rattle.rules.specs.Request.{Request, Asked, Unreadable}

-- a stored object "with its role, epoch, currency and the current manifest's number"
pub record Stored : Type 0 where
  pub number : ℕ
  pub role : Role
  pub epoch : ℕ
  pub currency : ℕ
  pub since : ℕ

-- "It holds a time, both roles' epochs, the stored objects, every manifest's list and the holds, without limits."
-- current: the current manifest's list; past: the lists of the manifests before it, the latest first, down to manifest 0
pub record History : Type 0 where
  pub time : ℕ
  pub writer_epoch : ℕ
  pub compactor_epoch : ℕ
  pub objects : List Stored
  pub current : List ℕ
  pub past : List (List ℕ)
  pub holds : List Hold

-- "At first: time 0, epochs 0, manifest 0 with an empty list, no object, no hold."
abbrev pub at_first : History
at_first = record { time = 0; writer_epoch = 0; compactor_epoch = 0; objects = []; current = []; past = []; holds = [] }

-- "The nth accepted FENCE, COMMIT or COMPACT makes manifest n; the highest is current": as many manifests came before it
abbrev pub current_number : History → ℕ
current_number h = length h.past

abbrev pub epoch_at : Role → History → ℕ
epoch_at Writer h = h.writer_epoch
epoch_at Compactor h = h.compactor_epoch

-- every manifest's list, the latest first: manifest k's is the one with k lists behind it
abbrev pub lists : History → List (List ℕ)
lists h = h.current ∷ h.past

unfoldable pub list_at : ℕ → List (List ℕ) → List ℕ
list_at k [] = []
list_at k (l ∷ ls) = cond (eqb k (length ls)) l (list_at k ls)

-- "the manifests above that number are those since its put": one of them names n
unfoldable pub named_above : ℕ → ℕ → List (List ℕ) → Bool
named_above since n [] = false
named_above since n (l ∷ ls) = ltb since (length ls) && has n l || named_above since n ls

-- a hold is live while its expiry is 0 or not below the time
abbrev pub live_at : ℕ → Hold → Bool
live_at t x = eqb x.expiry 0 || leb t x.expiry

-- pending: its epoch is its role's current epoch and no manifest since its put has named it
unfoldable pub pending_at : History → Stored → Bool
pending_at h o = eqb o.epoch (epoch_at o.role h) && not (named_above o.since o.number (lists h))

-- n is named by the current manifest, or by the manifest of a hold that is live at the time
unfoldable pub listed_at : ℕ → History → ℕ → Bool
listed_at t h n = has n h.current || any (λ x. has n (list_at x.manifest (lists h))) (keep (live_at t) h.holds)

-- a stored object is dead when not pending and not named so
unfoldable pub dead_object : ℕ → History → Stored → Bool
dead_object t h o = not (pending_at h o) && not (listed_at t h o.number)

-- n is stored; n is stored and dead at the time
unfoldable pub stored_at : History → ℕ → Bool
stored_at h n = any (λ o. eqb n o.number) h.objects

unfoldable pub dead_at : ℕ → History → ℕ → Bool
dead_at t h n = any (λ o. eqb n o.number && dead_object t h o) h.objects

-- the currency of a stored object
unfoldable pub currency_at : History → ℕ → ℕ
currency_at h n = lookup (λ (o : Stored). o.number) (λ o. o.currency) 0 n h.objects

-- What an accepted step notes

-- "An accepted step sets the time to its own"
abbrev pub at_time : ℕ → History → History
at_time t h = record {
  time = t;
  writer_epoch = h.writer_epoch;
  compactor_epoch = h.compactor_epoch;
  objects = h.objects;
  current = h.current;
  past = h.past;
  holds = h.holds;
}

-- the next manifest, with that list
abbrev pub next_manifest : ℕ → ℕ → List ℕ → History → History
next_manifest w c l h = record { time = h.time; writer_epoch = w; compactor_epoch = c; objects = h.objects; current = l; past = lists h; holds = h.holds }

abbrev pub with_objects : History → List Stored → History
with_objects h os = record {
  time = h.time;
  writer_epoch = h.writer_epoch;
  compactor_epoch = h.compactor_epoch;
  objects = os;
  current = h.current;
  past = h.past;
  holds = h.holds;
}

abbrev pub noting : History → List Hold → History
noting h xs = record {
  time = h.time;
  writer_epoch = h.writer_epoch;
  compactor_epoch = h.compactor_epoch;
  objects = h.objects;
  current = h.current;
  past = h.past;
  holds = xs;
}

-- "FENCE adds one to its role's epoch; the current list once more is the next manifest."
abbrev pub fence_noted : Role → History → History
fence_noted Writer h = next_manifest (suc h.writer_epoch) h.compactor_epoch h.current h
fence_noted Compactor h = next_manifest h.writer_epoch (suc h.compactor_epoch) h.current h

-- "the current list without any object of the currency of its object, and with its object"
abbrev pub compacted_at : History → ℕ → List ℕ
compacted_at h n = insert n (keep (λ m. not (eqb (currency_at h m) (currency_at h n))) h.current)

-- the hold of that number has a new expiry; every hold but that one
abbrev pub expiring_at : ℕ → ℕ → Hold → Hold
expiring_at x e y = cond (eqb y.number x) (record { number = y.number; manifest = y.manifest; expiry = e }) y

abbrev pub other_than : ℕ → Hold → Bool
other_than x y = not (eqb y.number x)

unfoldable pub noted : Kind → List ℕ → History → History
noted (FENCE r slot) l h = fence_noted r h
noted (PUT r e n c) l h = with_objects h (record { number = n; role = r; epoch = e; currency = c; since = current_number h } ∷ h.objects)
noted (COMMIT e slot) l h = next_manifest h.writer_epoch h.compactor_epoch l h
noted (COMPACT e slot n) l h = next_manifest h.writer_epoch h.compactor_epoch (compacted_at h n) h
noted (HOLD x m e) l h = noting h (record { number = x; manifest = m; expiry = e } ∷ keep (other_than x) h.holds)
noted (RENEW x e) l h = noting h (map (expiring_at x e) h.holds)
noted (RELEASE x) l h = noting h (keep (other_than x) h.holds)
noted (LIST x) l h = h
noted (LOOK c x) l h = h
noted COLLECT l h = with_objects h (keep (λ o. not (dead_object h.time h o)) h.objects)

-- a step as asked, and whether it was accepted: all that the history is fed
pub record Event : Type 0 where
  pub request : Request
  pub accepted : Bool

abbrev pub noted_of : Request → History → History
noted_of (Asked t k l) h = noted k l (at_time t h)
noted_of Unreadable h = h

-- "A step refused changes nothing"
unfoldable pub feed : History → Event → History
feed h e = cond e.accepted (noted_of e.request h) h

-- the history after the events, from a history on
unfoldable pub history_from : History → List Event → History
history_from h [] = h
history_from h (e ∷ es) = history_from (feed h e) es

-- "The nth accepted FENCE, COMMIT or COMPACT makes manifest n": how many of the events made one
abbrev pub makes_manifest : Kind → Bool
makes_manifest (FENCE r slot) = true
makes_manifest (PUT r e n c) = false
makes_manifest (COMMIT e slot) = true
makes_manifest (COMPACT e slot n) = true
makes_manifest (HOLD x m e) = false
makes_manifest (RENEW x e) = false
makes_manifest (RELEASE x) = false
makes_manifest (LIST x) = false
makes_manifest (LOOK c x) = false
makes_manifest COLLECT = false

abbrev pub is_maker : Request → Bool
is_maker (Asked t k l) = makes_manifest k
is_maker Unreadable = false

abbrev pub makers : List Event → List Event
makers es = keep (λ (e : Event). e.accepted && is_maker e.request) es
