-- `records::walking::walk` meets its contract: what was found before a place, joined with what is found from there on, is what is found in all.
-- Assumes nothing.
use Rattle.std.proofs.Common.{◌≡◌, ◌-◌, ◌≤◌, length, take, drop, replicate, IfSome}
use Rattle.records.specs.Format.{most_fields}
use Rattle.records.specs.Walk.{walk}
use Rattle.records.proofs.Joined.{joined, Within}
use Rattle.records.proofs.walking.walk.Given as goal

abbrev pub invariant-loop-i : goal.invariant-loop-i
invariant-loop-i l = record {
  inside : l.at ≤ length l.bytes;
  long : length l.numbers ≡ most_fields;
  zeros : drop l.i l.numbers ≡ replicate (most_fields - l.i) 0;
  place : IfSome l.list (Within (length l.bytes));
  found : joined l.bytes (take l.i l.numbers) l.list (walk (drop l.i l.f-items) (drop l.at l.bytes)) ≡ walk l.f-items l.bytes;
}
