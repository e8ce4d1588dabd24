-- What is claimed of the verdict, of a refusal and of a commit (demands 1 and 2, on the rules), whatever the limits and row 1's test. It is proved in
-- proofs/Table.antt, proofs/LastManifest.antt and proofs/Commit.antt.
-- Assumes nothing.
use Rattle.std.specs.Prelude.{◌≡◌, ◌↔◌, Bool, true, false, List, [], ◌∷◌, ℕ, suc, ◌^◌, ◌≤◌, ◌<◌}
use Rattle.rules.specs.declared.Kind.{Kind}
use Rattle.rules.specs.declared.Kind.TheVariants.{Fence as FENCE, Put as PUT, Commit as COMMIT, Compact as COMPACT, Hold as HOLD, Renew as RENEW, Release as RELEASE, List as LIST, Look as LOOK, Collect as COLLECT}
use Rattle.rules.specs.Lists.{◌∈◌}
use Rattle.rules.specs.Limits.{Limits}
use Rattle.rules.specs.State.{State}
use Rattle.rules.specs.Words.{stored}
use Rattle.rules.specs.Table.{well_formed, Row}
use Rattle.rules.specs.Sound.{sound}
use Rattle.rules.specs.Request.{Request, Asked, Ask}
use Rattle.rules.specs.Step.{effect, rows_of, verdict, accepts, next}

-- "The smallest number that applies is the verdict, and no number is given otherwise."
pub record Smallest (rs : List Row) (n : ℕ) : Type 0 where
  -- 0 exactly when no row applies
  pub accepted : (n ≡ 0) ↔ ((r : Row) → r ∈ rs → r.applies ≡ false)
  -- a row's number exactly when it applies and no row of a smaller number does
  pub refused : (r : Row) → r ∈ rs → (n ≡ r.number) ↔ ((r.applies ≡ true) × ((q : Row) → q ∈ rs → q.number < r.number → q.applies ≡ false))

-- the slots that a kind asks for: one, of those that make a manifest
abbrev pub slots_of : Kind → List ℕ
slots_of (FENCE r slot) = slot ∷ []
slots_of (PUT r e n c) = []
slots_of (COMMIT e slot) = slot ∷ []
slots_of (COMPACT e slot n) = slot ∷ []
slots_of (HOLD x m e) = []
slots_of (RENEW x e) = []
slots_of (RELEASE x) = []
slots_of (LIST x) = []
slots_of (LOOK c x) = []
slots_of COLLECT = []

module _ (L : Limits) (test : State → Bool) where
  -- no row before that number applies
  abbrev pub Past : State → Request → ℕ → Type 0
  Past s q n = (r : Row) → r ∈ rows_of L test s q → r.number < n → r.applies ≡ false

  abbrev pub VerdictSmallest : Type 0
  VerdictSmallest = (s : State) (q : Request) → Smallest (rows_of L test s q) (verdict L test s q)

  -- "Ledger unchanged each time"; and where its verdict does not fit
  abbrev pub RefusalKeeps : Type 0
  RefusalKeeps = (s : State) (a : Ask) → accepts L test s a ≡ false → next L test s a ≡ s

  -- "At manifest 2^64-1 every slot gives 6", and "smaller numbers still go first": past those it is 6, and none is taken
  abbrev pub LastManifest : Type 0
  LastManifest = (s : State) → suc s.current.number ≡ 2 ^ 64 → (t : ℕ) (k : Kind) (l : List ℕ) (slot : ℕ) → slot ∈ slots_of k → slot < 2 ^ 64
      → (Past s (Asked t k l) 6 → verdict L test s (Asked t k l) ≡ 6) × (0 < verdict L test s (Asked t k l)) × (verdict L test s (Asked t k l) ≤ 6)

-- "exactly when the ledger is sound, it is well formed and on time, its writer is known and unfenced, its slot is the next one,
-- every object it names is stored and its verdict fits"
pub record MayCommit (L : Limits) (s : State) (t e slot : ℕ) (l : List ℕ) (room : ℕ) : Type 0 where
  pub is_sound : sound L s ≡ true
  pub formed : well_formed L t (COMMIT e slot) l ≡ true
  pub on_time : s.clock ≤ t
  pub known : (1 ≤ e) × (e ≤ s.current.writer_epoch)
  pub unfenced : s.current.writer_epoch ≤ e
  pub next_slot : slot ≡ suc s.current.number
  pub all_stored : (n : ℕ) → n ∈ l → stored s n ≡ true
  pub fits : 7 ≤ room

pub record CommitExact (L : Limits) (s : State) (t e slot : ℕ) (l : List ℕ) (room : ℕ) : Type 0 where
  -- it is accepted under these conditions and no others
  pub exactly : (accepts L (sound L) s (record { request = Asked t (COMMIT e slot) l; room = room }) ≡ true) ↔ MayCommit L s t e slot l room
  -- then it takes effect, and the list in force is the commit's, under the next number
  pub takes : MayCommit L s t e slot l room → next L (sound L) s (record { request = Asked t (COMMIT e slot) l; room = room }) ≡ effect (Asked t (COMMIT e slot) l) s
  pub names : (effect (Asked t (COMMIT e slot) l) s).current.names ≡ l
  pub number : (effect (Asked t (COMMIT e slot) l) s).current.number ≡ suc s.current.number
  -- otherwise nothing changes
  pub otherwise : (MayCommit L s t e slot l room → ⊥) → next L (sound L) s (record { request = Asked t (COMMIT e slot) l; room = room }) ≡ s

abbrev pub CommitsExact : Limits → Type 0
CommitsExact L = (s : State) (t e slot : ℕ) (l : List ℕ) (room : ℕ) → CommitExact L s t e slot l room
