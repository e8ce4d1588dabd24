-- The words of document 01, read from the ledger's own tables: live, active, stored, pending, dead.
-- The history has its own (History.antt). Assumes nothing.
use Rattle.std.specs.Prelude.{Bool, not, cond, ◌&&◌, ◌||◌, List, ℕ, leb, eqb}
use Rattle.rules.specs.declared.Object.{Object}
use Rattle.rules.specs.declared.Hold.{Hold}
use Rattle.rules.specs.Lists.{keep, any, has, lookup, insert}
use Rattle.rules.specs.State.{Manifest, State, first_manifest, objects, kept, epoch_of}

-- "A hold is live while its expiry is 0 or not below the time" (000: a snapshot is expired when its expire time is older than now, and never where it is 0)
unfoldable pub live : ℕ → Hold → Bool
live t x = eqb x.expiry 0 || leb t x.expiry

abbrev pub live_holds : ℕ → State → List Hold
live_holds t s = keep (live t) s.holds

-- a live hold has this number
unfoldable pub is_live : ℕ → State → ℕ → Bool
is_live t s x = any (λ y. eqb x y.number) (live_holds t s)

-- "A manifest is active when current or named by a live hold" (000: the active manifests are the latest and those that snapshots name)
unfoldable pub active : ℕ → State → ℕ → Bool
active t s k = eqb k s.current.number || any (λ y. eqb k y.manifest) (live_holds t s)

-- an object of that number is stored
unfoldable pub stored : State → ℕ → Bool
stored s n = any (λ o. eqb n o.number) (objects s)

-- the currency of the stored object of that number
unfoldable pub currency_of : State → ℕ → ℕ
currency_of s n = lookup (λ (o : Object). o.number) (λ o. o.currency) 0 n (objects s)

-- the numbers of the list that have this currency
unfoldable pub of_currency : State → ℕ → List ℕ → List ℕ
of_currency s c l = keep (λ n. eqb (currency_of s n) c) l

-- the kept manifest of that number
unfoldable pub manifest_of : State → ℕ → Manifest
manifest_of s k = lookup (λ (m : Manifest). m.number) (λ m. m) first_manifest k (kept s)

-- the manifest that a LIST or LOOK reads: "Hold 0 means the current manifest"
unfoldable pub read_by : ℕ → State → ℕ → Manifest
read_by t s x = cond (eqb x 0) s.current (manifest_of s (lookup (λ (y : Hold). y.number) (λ y. y.manifest) 0 x (live_holds t s)))

-- "An object is pending when its epoch is its role's current epoch and no manifest since its put has named it"
unfoldable pub pending : State → Object → Bool
pending s o = eqb o.epoch (epoch_of o.role s.current) && not o.named

-- "named by the current manifest, or by the manifest of a live hold"
unfoldable pub listed : ℕ → State → ℕ → Bool
listed t s n = has n s.current.names || any (λ x. has n (manifest_of s x.manifest).names) (live_holds t s)

-- "It is dead when stored, not pending, and not named by the current manifest, or by the manifest of a live hold": of a stored object
unfoldable pub dead : ℕ → State → Object → Bool
dead t s o = not (pending s o) && not (listed t s o.number)

-- "from the current list every object of that object's currency goes out and the object comes in"
unfoldable pub compacted : State → ℕ → List ℕ
compacted s n = insert n (keep (λ m. not (eqb (currency_of s m) (currency_of s n))) s.current.names)
