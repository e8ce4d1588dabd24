-- What the reader does with one line, as its private helpers promise it; what it promises itself is `listing_of`.
-- Assumes nothing.
use Rattle.std.specs.Prelude.{cond, List, ℕ, ◌+◌, Option, Some, None}
use Rattle.store_names.specs.declared.Name.{Name}
use Rattle.store_names.specs.declared.Name.TheVariants.{Manifest, Object}
use Rattle.store_names.specs.Names.{decode}
use Rattle.listing.specs.declared.Listing.{Listing}
use Rattle.listing.specs.Lines.{below}

-- the name that a line is, where it stands above the line before
unfoldable pub name_behind : List ℕ → List ℕ → Option Name
name_behind before line = cond (below before line) (decode line) None

-- what lines say with a name more: the last manifest, and the number of objects
abbrev pub with_name : Listing → Name → Listing
with_name said (Manifest n) = record { manifest = Some n; objects = said.objects; bad = said.bad }
with_name said (Object n) = record { manifest = said.manifest; objects = said.objects + 1; bad = said.bad }

-- what they say where the line behind them, of that number, is bad
abbrev pub with_bad : Listing → ℕ → Listing
with_bad said line = record { manifest = said.manifest; objects = said.objects; bad = Some line }
