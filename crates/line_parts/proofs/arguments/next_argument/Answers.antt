use borrow.Author.Rules.{rules}
use Rattle.line_parts.proofs.Listed.{listing, comma_fits, comma_inside, comma_past, part_blank, part_start_fits, part_end_fits, part_argument}
use Rattle.line_parts.proofs.arguments.next_argument.Goals as goal

pub returns-then-is_blank : goal.returns-then-is_blank
returns-then-is_blank c = search listing

pub overflow_add-result : goal.overflow_add-result
overflow_add-result c = search listing fits 64

pub overflow_add-result-in_default : goal.overflow_add-result-in_default
overflow_add-result-in_default c = search listing fits 64

pub returns-in_default : goal.returns-in_default
returns-in_default c = search listing

pub overflow_add-end : goal.overflow_add-end
overflow_add-end c = comma_fits c.loop-at.invariant c.loop-at-test.true c.first_byte.ensures c.in-Some.is (search rules)

pub slice_bounds-trim_both-end-in-loop-at : goal.slice_bounds-trim_both-end-in-loop-at
slice_bounds-trim_both-end-in-loop-at c = comma_inside c.loop-at.invariant c.loop-at-test.true c.first_byte.ensures c.in-Some.is

pub loop-at-preserved : goal.loop-at-preserved
loop-at-preserved c = part_blank c.loop-at.invariant c.loop-at-test.true c.first_byte.ensures c.in-Some.is c.trim_both-part.ensures c.is_blank-in-loop-at.ensures c.if-is_blank-2.true

pub overflow_add-result-in-loop-at : goal.overflow_add-result-in-loop-at
overflow_add-result-in-loop-at c = part_start_fits c.loop-at.invariant c.loop-at-test.true c.first_byte.ensures c.in-Some.is c.trim_both-part.ensures (search rules)

pub overflow_add-result-in-loop-at-2 : goal.overflow_add-result-in-loop-at-2
overflow_add-result-in-loop-at-2 c = part_end_fits c.loop-at.invariant c.loop-at-test.true c.first_byte.ensures c.in-Some.is c.trim_both-part.ensures (search rules)

pub returns-in-loop-at : goal.returns-in-loop-at
returns-in-loop-at c = part_argument c.loop-at.invariant c.loop-at-test.true c.first_byte.ensures c.in-Some.is c.trim_both-part.ensures c.is_blank-in-loop-at.ensures c.if-is_blank-2.false

pub returns : goal.returns
returns c = search listing
