-- Reading and writing undo each other, and all else is refused (the customer's second demand, for store names).
-- Assumes nothing.
use Rattle.std.specs.Prelude.{◌≡◌, true, List, ℕ, Some, None}
use Rattle.store_names.specs.declared.Name.{Name}
use Rattle.store_names.specs.Names.{encode, is_taken, decode}

pub record RoundTrip : Type 0 where
  -- reading what was written gives the name
  pub reads_written : (v : Name) → is_taken v ≡ true → decode (encode v) ≡ Some v
  -- what was read is a name that a writer takes, and writing it gives the bytes
  pub writes_read : (bytes : List ℕ) (v : Name) → decode bytes ≡ Some v → (is_taken v ≡ true) × (encode v ≡ bytes)
  -- bytes that no name is written as are refused
  pub refuses : (bytes : List ℕ) → ((v : Name) → is_taken v ≡ true → encode v ≡ bytes → ⊥) → decode bytes ≡ None
