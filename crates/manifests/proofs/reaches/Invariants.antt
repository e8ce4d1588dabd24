-- `reaches` meets its contract. The invariants: no list passed has the object, and each has its count; the names read of this list and
-- what is left of it say what the whole list says.
-- Assumes nothing.
use Rattle.std.proofs.Common.{◌≡◌, false, [], ◌-◌, ◌≤◌, length, take}
use lib.ListN.{get_or}
use lib.Seq.{slice}
use Rattle.rules.specs.Limits.{limits, manifest_limit}
use Rattle.rules.specs.Lists.{any}
use Rattle.arrays.proofs.Lists.{Filled}
use Rattle.manifests.specs.Search.{search}
use Rattle.manifests.specs.Reach.{lists_in}
use Rattle.manifests.proofs.Reaching.{Searched, finds, counted}
use Rattle.manifests.proofs.reaches.Given as goal

abbrev pub invariant-loop-low : goal.invariant-loop-low
invariant-loop-low l = record {
  order : l.low ≤ l.high;
  fits : l.high ≤ limits.names;
  lost : l.found ≡ false;
  places : length l.reads ≡ manifest_limit limits;
  read : Searched (search l.object (get_or (lists_in l.names l.counts) l.i [])) (search l.object (slice l.low l.high (get_or l.names l.i []))) l.i l.initial.reads l.reads;
}

abbrev pub decreases-loop-low : goal.decreases-loop-low
decreases-loop-low l = l.high - l.low

abbrev pub invariant-all : goal.invariant-all
invariant-all l = record {
  lost : l.found ≡ false;
  places : length l.reads ≡ manifest_limit limits;
  passed : any (finds l.object) (take l.i (lists_in l.names l.counts)) ≡ false;
  counts : Filled (manifest_limit limits) 0 (counted l.object) (lists_in l.names l.counts) l.i l.reads;
}
