-- A step whole (document 01, "The ten steps"): what an accepted step does and answers, the verdict, and the next ledger.
-- Assumes nothing.
use Rattle.std.specs.Prelude.{Bool, true, false, not, cond, ◌&&◌, ◌||◌, List, [], ◌∷◌, map, ℕ, suc, ◌+◌, ◌*◌, leb, ltb, eqb, length}
use Rattle.rules.specs.declared.Role.{Role}
use Rattle.rules.specs.declared.Role.TheVariants.{Writer, Compactor}
use Rattle.rules.specs.declared.Kind.{Kind}
use Rattle.rules.specs.declared.Kind.TheVariants.{Fence as FENCE, Put as PUT, Commit as COMMIT, Compact as COMPACT, Hold as HOLD, Renew as RENEW, Release as RELEASE, List as LIST, Look as LOOK, Collect as COLLECT}
use Rattle.rules.specs.declared.Answer.{Answer}
use Rattle.rules.specs.declared.Answer.TheVariants.{Refused, Done, Epoch, Listed, Found, Collected}
use Rattle.rules.specs.declared.Object.{Object}
use Rattle.rules.specs.declared.Hold.{Hold}
use Rattle.rules.specs.Lists.{keep, any, has, sorted, maximum}
use Rattle.rules.specs.Limits.{Limits, limits}
use Rattle.rules.specs.State.{Manifest, State, free, occupied, objects, kept, epoch_of}
use Rattle.rules.specs.Words.{live_holds, read_by, dead, of_currency, compacted}
use Rattle.rules.specs.Request.{Request, Asked, Unreadable, Ask}
use Rattle.rules.specs.Table.{Row, ◌if◌, rows, first_of}

-- What an accepted step does: "sets the clock to its time, removes expired holds, acts, then removes manifests that are no longer active"

abbrev pub with_places : State → List Object → State
with_places s ps = record { clock = s.clock; highest_collected = s.highest_collected; places = ps; older = s.older; current = s.current; holds = s.holds }

abbrev pub with_holds : State → List Hold → State
with_holds s xs = record { clock = s.clock; highest_collected = s.highest_collected; places = s.places; older = s.older; current = s.current; holds = xs }

-- the clock is set and expired holds go
abbrev pub settle : ℕ → State → State
settle t s = record { clock = t; highest_collected = s.highest_collected; places = s.places; older = s.older; current = s.current; holds = live_holds t s }

-- a hold names this manifest
abbrev pub held_by : List Hold → Manifest → Bool
held_by xs m = any (λ x. eqb m.number x.manifest) xs

-- manifests that are no longer active go
abbrev pub tidy : State → State
tidy s = record { clock = s.clock; highest_collected = s.highest_collected; places = s.places; older = keep (held_by s.holds) s.older; current = s.current; holds = s.holds }

-- an object that the list names is marked as named
abbrev pub mark : List ℕ → Object → Object
mark l o = record { number = o.number; role = o.role; epoch = o.epoch; currency = o.currency; named = o.named || has o.number l }

-- a new manifest with that list and those epochs
abbrev pub publish : ℕ → ℕ → List ℕ → State → State
publish w c l s = record {
  clock = s.clock;
  highest_collected = s.highest_collected;
  places = map (mark l) s.places;
  older = kept s;
  current = record { number = suc s.current.number; writer_epoch = w; compactor_epoch = c; names = l };
  holds = s.holds;
}

-- "new manifest with the current list; that role's epoch grows by one"
abbrev pub fence : Role → State → State
fence Writer s = publish (suc s.current.writer_epoch) s.current.compactor_epoch s.current.names s
fence Compactor s = publish s.current.writer_epoch (suc s.current.compactor_epoch) s.current.names s

-- "new manifest with exactly that list, epochs unchanged"
abbrev pub commit : List ℕ → State → State
commit l s = publish s.current.writer_epoch s.current.compactor_epoch l s

-- "A put takes the lowest free place"
unfoldable pub place : Object → List Object → List Object
place o [] = []
place o (x ∷ xs) = cond (occupied x) (x ∷ place o xs) (o ∷ xs)

-- a put changes the places alone
abbrev pub put : Object → State → State
put o s = with_places s (place o s.places)

-- a hold goes in by rising number
unfoldable pub insert_hold : Hold → List Hold → List Hold
insert_hold x [] = x ∷ []
insert_hold x (y ∷ ys) = cond (ltb x.number y.number) (x ∷ y ∷ ys) (y ∷ insert_hold x ys)

-- the hold of that number has a new expiry
abbrev pub renewed : ℕ → ℕ → Hold → Hold
renewed x e y = cond (eqb y.number x) (record { number = y.number; manifest = y.manifest; expiry = e }) y

abbrev pub other : ℕ → Hold → Bool
other x y = not (eqb y.number x)

-- "A collected object's place is free again"
abbrev pub clear : ℕ → State → Object → Object
clear t s o = cond (dead t s o) free o

-- the numbers of the dead objects, rising
unfoldable pub collected : ℕ → State → List ℕ
collected t s = sorted (map (λ o. o.number) (keep (dead t s) (objects s)))

-- the dead objects go, and the highest number ever collected is the highest of what it was and theirs
abbrev pub collect : State → State
collect s = record {
  clock = s.clock;
  highest_collected = maximum (s.highest_collected ∷ collected s.clock s);
  places = map (clear s.clock s) s.places;
  older = s.older;
  current = s.current;
  holds = s.holds;
}

-- what each kind does, at the clock's time
unfoldable pub act : Kind → List ℕ → State → State
act (FENCE r slot) l s = fence r s
act (PUT r e n c) l s = put (record { number = n; role = r; epoch = e; currency = c; named = false }) s
act (COMMIT e slot) l s = commit l s
act (COMPACT e slot n) l s = commit (compacted s n) s
act (HOLD x m e) l s = with_holds s (insert_hold (record { number = x; manifest = m; expiry = e }) s.holds)
act (RENEW x e) l s = with_holds s (map (renewed x e) s.holds)
act (RELEASE x) l s = with_holds s (keep (other x) s.holds)
act (LIST x) l s = s
act (LOOK c x) l s = s
act COLLECT l s = collect s

-- What a step is answered: an answer and the list beside it

pub record Reply : Type 0 where
  pub answer : Answer
  pub list : List ℕ

abbrev pub alone : Answer → Reply
alone a = record { answer = a; list = [] }

-- what each kind answers, of the ledger with the clock set and the expired holds gone
unfoldable pub answers : Kind → State → Reply
answers (FENCE r slot) s = alone (Epoch (suc (epoch_of r s.current)))
answers (PUT r e n c) s = alone Done
answers (COMMIT e slot) s = alone Done
answers (COMPACT e slot n) s = alone Done
answers (HOLD x m e) s = alone Done
answers (RENEW x e) s = alone Done
answers (RELEASE x) s = alone Done
answers (LIST x) s = record { answer = Listed (read_by s.clock s x).number; list = (read_by s.clock s x).names }
answers (LOOK c x) s = alone (Found (maximum (of_currency s c (read_by s.clock s x).names)))
answers COLLECT s = record { answer = Collected; list = collected s.clock s }

-- the paper's number for each answer
abbrev pub code : Answer → ℕ
code (Refused n) = n
code Done = 0
code (Epoch e) = 0
code (Listed m) = 0
code (Found n) = 0
code Collected = 0

-- the bytes of a verdict: three for each field's tag and length, one for the code, eight for a number
abbrev pub size_of : Answer → ℕ → ℕ
size_of (Refused n) k = 7
size_of Done k = 7
size_of (Epoch e) k = 18
size_of (Listed m) k = 21 + 8 * k
size_of (Found n) k = 18
size_of Collected k = 10 + 8 * k

abbrev pub size : Reply → ℕ
size r = size_of r.answer (length r.list)

-- "the longest verdict becomes 2,058 bytes" (document 02, request 4): every place collected
abbrev pub longest_verdict : ℕ
longest_verdict = size_of Collected limits.places

-- A request's effect and reply where it is accepted

abbrev pub effect : Request → State → State
effect (Asked t k l) s = tidy (act k l (settle t s))
effect Unreadable s = s

abbrev pub granted : Request → State → Reply
granted (Asked t k l) s = answers k (settle t s)
granted Unreadable s = alone Done

-- A step whole, within limits and with row 1's test
module _ (L : Limits) (test : State → Bool) where
  abbrev pub rows_of : State → Request → List Row
  rows_of s (Asked t k l) = (1 if not (test s)) ∷ rows L s t k l
  rows_of s Unreadable = (1 if not (test s)) ∷ (2 if true) ∷ []

  unfoldable pub verdict : State → Request → ℕ
  verdict s q = first_of (rows_of s q)

  unfoldable pub reply : State → Request → Reply
  reply s q = cond (eqb (verdict s q) 0) (granted q s) (alone (Refused (verdict s q)))

  -- accepted: no row applies, and the verdict fits
  unfoldable pub accepts : State → Ask → Bool
  accepts s a = eqb (verdict s a.request) 0 && leb (size (reply s a.request)) a.room

  -- the next ledger: unchanged where the step is not accepted
  unfoldable pub next : State → Ask → State
  next s a = cond (accepts s a) (effect a.request s) s
