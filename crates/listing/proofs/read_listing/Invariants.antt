-- `listing::read_listing` meets its contract. The invariant: what is left says, behind what was said, what all says; and each
-- line has a byte at least, so that none of the counts can overflow.
-- Assumes nothing.
use Rattle.std.proofs.Common.{◌≡◌, ◌+◌, ◌≤◌, length}
use Rattle.listing.specs.Lines.{lines_of}
use Rattle.listing.specs.Listing.{listing_of}
use Rattle.listing.proofs.Telling.{tell}
use Rattle.listing.proofs.read_listing.Given as goal

abbrev pub invariant-loop-length : goal.invariant-loop-length
invariant-loop-length l = (l.lines + length l.rest ≤ length l.bytes) × (l.said.objects ≤ l.lines) × (tell l.said l.lines l.before (lines_of l.rest) ≡ listing_of l.bytes)

abbrev pub decreases-loop-length : goal.decreases-loop-length
decreases-loop-length l = length l.rest
