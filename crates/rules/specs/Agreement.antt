-- How a ledger's tables answer to a history: the relation that every step keeps, and from which demand 3 follows.
-- Assumes nothing.
use Rattle.std.specs.Prelude.{◌≡◌, true, List, ℕ, ◌<◌, length}
use Rattle.rules.specs.declared.Object.{Object}
use Rattle.rules.specs.declared.Hold.{Hold}
use Rattle.rules.specs.Lists.{◌∈◌, keep}
use Rattle.rules.specs.Limits.{Limits}
use Rattle.rules.specs.State.{Manifest, State, occupied, kept}
use Rattle.rules.specs.Words.{live}
use Rattle.rules.specs.History.{Stored, History, lists, list_at, named_above, listed_at, stored_at}

-- an object in its place and the same object in the history
pub record Match (ls : List (List ℕ)) (o : Object) (p : Stored) : Type 0 where
  pub number : o.number ≡ p.number
  pub role : o.role ≡ p.role
  pub epoch : o.epoch ≡ p.epoch
  pub currency : o.currency ≡ p.currency
  -- the mark says what the manifests since the put say
  pub named : o.named ≡ named_above p.since p.number ls
  pub since : p.since < length ls

-- the places against the history's objects
pub record Objects (L : Limits) (ps : List Object) (os : List Stored) (ls : List (List ℕ)) : Type 0 where
  pub size : length ps ≡ L.places
  pub noted : (o : Object) → o ∈ keep occupied ps → (p : Stored) × (p ∈ os) × Match ls o p
  pub found : (p : Stored) → p ∈ os → (o : Object) × (o ∈ keep occupied ps) × Match ls o p
  pub unique : (o q : Object) → o ∈ keep occupied ps → q ∈ keep occupied ps → o.number ≡ q.number → o ≡ q

-- the ledger's holds against the history's, which may still have expired ones
pub record Holds (clock : ℕ) (xs ys : List Hold) : Type 0 where
  pub alive : (x : Hold) → x ∈ xs → live clock x ≡ true
  pub noted : (x : Hold) → x ∈ xs → x ∈ ys
  pub found : (y : Hold) → y ∈ ys → live clock y ≡ true → y ∈ xs
  pub unique : (x y : Hold) → x ∈ ys → y ∈ ys → x.number ≡ y.number → x ≡ y

-- the kept manifests against the history's lists, and the holds' manifests among them
pub record Manifests (ms : List Manifest) (xs : List Hold) (ls : List (List ℕ)) : Type 0 where
  pub noted : (m : Manifest) → m ∈ ms → m.names ≡ list_at m.number ls
  pub past : (m : Manifest) → m ∈ ms → m.number < length ls
  pub held : (x : Hold) → x ∈ xs → (m : Manifest) × (m ∈ ms) × (m.number ≡ x.manifest)

-- what is listed is stored
abbrev pub Safe : History → Type 0
Safe h = (n : ℕ) → listed_at h.time h n ≡ true → stored_at h n ≡ true

pub record Agrees (L : Limits) (s : State) (h : History) : Type 0 where
  pub clock : s.clock ≡ h.time
  pub number : s.current.number ≡ length h.past
  pub names : s.current.names ≡ h.current
  pub writer : s.current.writer_epoch ≡ h.writer_epoch
  pub compactor : s.current.compactor_epoch ≡ h.compactor_epoch
  pub things : Objects L s.places h.objects (lists h)
  pub holding : Holds s.clock s.holds h.holds
  pub manifests : Manifests (kept s) s.holds (lists h)
  pub safe : Safe h
