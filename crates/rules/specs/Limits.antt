-- The limits of documents 01 and 02, each named once. The rules take them as a parameter, and so do their laws.
-- Assumes nothing.
use Rattle.std.specs.Prelude.{ℕ, suc, ◌*◌}

pub record Limits : Type 0 where
  -- objects that are stored
  pub places : ℕ
  -- object numbers that a manifest names
  pub names : ℕ
  -- live holds; one manifest more is kept
  pub holds : ℕ

-- "four occupancy words" (document 02, request 4), each of as many bits as a register has
abbrev pub word_count : ℕ
word_count = 4

abbrev pub word_bits : ℕ
word_bits = 64

-- "256 objects (four occupancy words ..) and 64 names in a manifest" (document 02, request 4); "at most 8" holds
abbrev pub limits : Limits
limits = record { places = word_count * word_bits; names = 64; holds = 8 }

-- document 01's own limits, before request 4: "64 places", "at most 16 object numbers"
abbrev pub first_limits : Limits
first_limits = record { places = 64; names = 16; holds = 8 }

-- "Manifests: 1 to 9": each but the current one is held
abbrev pub manifest_limit : Limits → ℕ
manifest_limit L = suc L.holds

-- "currency (ISO 4217 number, 0 to 999; 0 means a sales batch)"
abbrev pub currency_limit : ℕ
currency_limit = 999
