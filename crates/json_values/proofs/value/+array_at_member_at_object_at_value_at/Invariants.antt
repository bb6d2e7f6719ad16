-- The readers of values, members, objects and arrays, which call each other, meet their contracts, by the laws of Values. What falls
-- from call to call is the depth allowance: three steps of it a level, since a value asks an object one level down, that a member, and
-- that a value.
use Rattle.std.proofs.Common.{length, drop, ◌+◌, ◌-◌, ◌*◌}
use Rattle.json_grammar.specs.Reader.{enclosed_of, member_of, value_of}
use Rattle.json_values.proofs.Listing.{Listing}
use Rattle.json_values.proofs.value.+array_at_member_at_object_at_value_at.Given as goal

abbrev pub decreases-array_at : goal.decreases-array_at
decreases-array_at l = 3 * l.depth + 1

abbrev pub decreases-member_at : goal.decreases-member_at
decreases-member_at l = 3 * l.depth + 1

abbrev pub decreases-object_at : goal.decreases-object_at
decreases-object_at l = 3 * l.depth + 2

abbrev pub decreases-value_at : goal.decreases-value_at
decreases-value_at l = 3 * l.depth

abbrev pub invariant-array_at-loop-place : goal.invariant-array_at-loop-place
invariant-array_at-loop-place l =
    Listing (value_of l.depth) 0x5D (enclosed_of (value_of l.depth) 0x5B 0x5D (drop l.at l.s)) l.s l.place

abbrev pub decreases-array_at-loop-place : goal.decreases-array_at-loop-place
decreases-array_at-loop-place l = length l.s - l.place

abbrev pub invariant-object_at-loop-place : goal.invariant-object_at-loop-place
invariant-object_at-loop-place l =
    Listing (member_of (value_of l.depth)) 0x7D (enclosed_of (member_of (value_of l.depth)) 0x7B 0x7D (drop l.at l.s)) l.s l.place

abbrev pub decreases-object_at-loop-place : goal.decreases-object_at-loop-place
decreases-object_at-loop-place l = length l.s - l.place
