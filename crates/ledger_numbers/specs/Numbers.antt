-- A ledger as numbers, of any value.
-- Assumes nothing.
use Rattle.std.specs.Prelude.{Bool, true, false, not, cond, List, [], ◌∷◌, ◌++◌, ℕ, zero, suc, ◌+◌, ◌*◌, ◌%◌, eqb, leb, take, drop, get_or}
use Rattle.fields.specs.Fields.{over}
use Rattle.rules.specs.declared.Role.{Role}
use Rattle.rules.specs.declared.Role.TheVariants.{Writer, Compactor}
use Rattle.rules.specs.declared.Object.{Object}
use Rattle.rules.specs.declared.Hold.{Hold}
use Rattle.rules.specs.Lists.{conj}
use Rattle.rules.specs.Limits.{limits, manifest_limit, word_count}
use Rattle.rules.specs.State.{fresh}
use Rattle.objects.specs.declared.Objects.{Objects}
use Rattle.manifests.specs.declared.KeptManifest.{KeptManifest}
use Rattle.manifests.specs.declared.Manifests.{Manifests}
use Rattle.holds.specs.declared.Holds.{Holds}
use Rattle.ledger.specs.declared.Ledger.{Ledger}
use Rattle.ledger.specs.Ledger.{lay}

abbrev pub role_number : Role → ℕ
role_number Writer = 0
role_number Compactor = 1

abbrev pub flag : Bool → ℕ
flag true = 1
flag false = 0

-- How many numbers an object, a manifest and a hold have; a manifest's names stand behind the others

abbrev pub object_size : ℕ
object_size = 5

abbrev pub names_at : ℕ
names_at = 4

abbrev pub manifest_size : ℕ
manifest_size = names_at + limits.names

abbrev pub hold_size : ℕ
hold_size = 3

-- Where the parts begin: behind clock and highest number collected the occupancy words, the places, the count of manifests and their places, the count of
-- holds and theirs

abbrev pub occupancy_at : ℕ
occupancy_at = 2

abbrev pub objects_at : ℕ
objects_at = occupancy_at + word_count

abbrev pub kept_at : ℕ
kept_at = objects_at + limits.places * object_size

abbrev pub manifests_at : ℕ
manifests_at = kept_at + 1

abbrev pub held_at : ℕ
held_at = manifests_at + manifest_limit limits * manifest_size

abbrev pub holds_at : ℕ
holds_at = held_at + 1

abbrev pub ledger_size : ℕ
ledger_size = holds_at + limits.holds * hold_size

-- Out

abbrev pub object_numbers : Object → List ℕ
object_numbers o = o.number ∷ role_number o.role ∷ o.epoch ∷ o.currency ∷ flag o.named ∷ []

abbrev pub manifest_numbers : KeptManifest → List ℕ
manifest_numbers m = m.number ∷ m.writer ∷ m.compactor ∷ m.count ∷ m.names

abbrev pub hold_numbers : Hold → List ℕ
hold_numbers x = x.number ∷ x.manifest ∷ x.expiry ∷ []

unfoldable pub flat : {A : Type 0} → (A → List ℕ) → List A → List ℕ
flat f [] = []
flat f (x ∷ xs) = f x ++ flat f xs

unfoldable pub ledger_numbers : Ledger → List ℕ
ledger_numbers l =
    l.clock ∷ l.collected ∷ (l.objects.occupancy
    ++ (flat object_numbers l.objects.items
    ++ (l.manifests.count ∷ (flat manifest_numbers l.manifests.items
    ++ (l.holds.count ∷ flat hold_numbers l.holds.items)))))

-- In, of any numbers

-- the largest number of 16 bits
abbrev pub largest_currency : ℕ
largest_currency = 65535

abbrev pub role_from : ℕ → Role
role_from n = cond (eqb n 0) Writer Compactor

abbrev pub object_from : List ℕ → Object
object_from v = record { number = get_or v 0 0; role = role_from (get_or v 1 0); epoch = get_or v 2 0; currency = get_or v 3 0 % 65536; named = not (eqb (get_or v 4 0) 0) }

abbrev pub manifest_from : List ℕ → KeptManifest
manifest_from v = record { number = get_or v 0 0; writer = get_or v 1 0; compactor = get_or v 2 0; count = get_or v 3 0; names = take limits.names (drop names_at v) }

abbrev pub hold_from : List ℕ → Hold
hold_from v = record { number = get_or v 0 0; manifest = get_or v 1 0; expiry = get_or v 2 0 }

-- k places of that many numbers each
unfoldable pub each : {A : Type 0} → (List ℕ → A) → ℕ → ℕ → List ℕ → List A
each f size zero v = []
each f size (suc k) v = f v ∷ each f size k (drop size v)

abbrev pub objects_from : List ℕ → Objects
objects_from v = record { occupancy = take word_count (drop occupancy_at v); items = each object_from object_size limits.places (drop objects_at v) }

abbrev pub manifests_from : List ℕ → Manifests
manifests_from v = record { count = get_or v kept_at 0; items = each manifest_from manifest_size (manifest_limit limits) (drop manifests_at v) }

abbrev pub holds_from : List ℕ → Holds
holds_from v = record { count = get_or v held_at 0; items = each hold_from hold_size limits.holds (drop holds_at v) }

-- what numbers say that a ledger can be
unfoldable pub ledger_said : List ℕ → Ledger
ledger_said v = record { clock = get_or v 0 0; collected = get_or v 1 0; objects = objects_from v; manifests = manifests_from v; holds = holds_from v }

-- a place that an object can be: its role and its mark are 0 or 1, and its currency has 16 bits
abbrev pub can_be : List ℕ → Bool
can_be v = conj (leb (get_or v 1 0) 1 ∷ leb (get_or v 3 0) largest_currency ∷ leb (get_or v 4 0) 1 ∷ [])

-- numbers that a ledger can be: every place can be an object. (Any count is a ledger's: one that fits no place is not sound.)
unfoldable pub is_ledger : List ℕ → Bool
is_ledger v = conj (each can_be object_size limits.places (drop objects_at v))

-- the fresh ledger without its manifest: no ledger is sound that has none (Exact.antt)
abbrev pub no_manifest : Ledger
no_manifest = record {
  clock = (lay fresh).clock;
  collected = (lay fresh).collected;
  objects = (lay fresh).objects;
  manifests = record { count = 0; items = (lay fresh).manifests.items };
  holds = (lay fresh).holds;
}

-- numbers that no ledger can be are a ledger that is not sound: 1
unfoldable pub ledger_from : List ℕ → Ledger
ledger_from v = cond (is_ledger v) (ledger_said v) no_manifest

-- the next ledger's numbers, laid over those that it came from; numbers that no ledger can be stay as they are
unfoldable pub laid_back : Ledger → List ℕ → List ℕ
laid_back l v = cond (is_ledger v) (over (ledger_numbers l) v) v
