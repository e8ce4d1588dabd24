-- What the ledger holds (document 01, "What the ledger holds"), on lists.
-- Assumes nothing.
use Rattle.std.specs.Prelude.{Bool, false, not, List, [], ◌∷◌, ◌++◌, ℕ, eqb, replicate}
use Rattle.rules.specs.declared.Role.{Role}
use Rattle.rules.specs.declared.Role.TheVariants.{Writer, Compactor}
use Rattle.rules.specs.declared.Object.{Object}
use Rattle.rules.specs.declared.Hold.{Hold}
use Rattle.rules.specs.Lists.{keep}
use Rattle.rules.specs.Limits.{Limits, limits}

-- "Each has number, writer epoch, compactor epoch and a strictly rising list of at most 16 object numbers", by now 64 (000: manifests, their contiguous ids, and the
-- epochs that tell a writer that was fenced)
pub record Manifest : Type 0 where
  pub number : ℕ
  pub writer_epoch : ℕ
  pub compactor_epoch : ℕ
  pub names : List ℕ

-- highest_collected: "the highest number ever collected", "0 at first" (document 02, request 1); places: a free one is all zero;
-- older: the kept manifests before the current one, in rising number; holds: what 000 calls snapshots
pub record State : Type 0 where
  pub clock : ℕ
  pub highest_collected : ℕ
  pub places : List Object
  pub older : List Manifest
  pub current : Manifest
  pub holds : List Hold

abbrev pub free : Object
free = record { number = 0; role = Writer; epoch = 0; currency = 0; named = false }

abbrev pub first_manifest : Manifest
first_manifest = record { number = 0; writer_epoch = 0; compactor_epoch = 0; names = [] }

-- "The fresh ledger is the one with clock 0, .. no objects or holds, and manifest 0 with both epochs 0 and an empty list"; nothing was collected
abbrev pub fresh_in : Limits → State
fresh_in L = record { clock = 0; highest_collected = 0; places = replicate L.places free; older = []; current = first_manifest; holds = [] }

abbrev pub fresh : State
fresh = fresh_in limits

-- an object's number is not 0
abbrev pub occupied : Object → Bool
occupied o = not (eqb o.number 0)

-- the stored objects
abbrev pub objects : State → List Object
objects s = keep occupied s.places

-- the kept manifests, in rising number; the last is current
abbrev pub kept : State → List Manifest
kept s = s.older ++ (s.current ∷ [])

abbrev pub epoch_of : Role → Manifest → ℕ
epoch_of Writer m = m.writer_epoch
epoch_of Compactor m = m.compactor_epoch
