use Rattle.apply_plans.proofs.Passing.{first_fits, node_ready, node_meant, plans_over, plans_more, refused_by, passing}
use borrow.Author.Rules.{rules}
use Rattle.apply_plans.proofs.nodes.plan_nodes.Goals as goal

pub loop-node-init : goal.loop-node-init
loop-node-init c = search passing

pub node_note-note-requires : goal.node_note-note-requires
node_note-note-requires c = search passing

pub plan_node-requires : goal.plan_node-requires
plan_node-requires c = (search (c.requires.0, c.loop-node.invariant, c.loop-node-test.true, c.token_count_at-count.ensures, c.node_note-note.ensures, node_ready), search (c.requires.0, c.loop-node.invariant, c.loop-node-test.true, c.token_count_at-count.ensures, c.node_note-note.ensures, c.last_raw-given.ensures, c.home_row-home.ensures, node_meant), c.requires.2)

pub returns-in_err-more : goal.returns-in_err-more
returns-in_err-more c = search (c.requires.0, c.loop-node.invariant, c.loop-node-test.true, c.token_count_at-count.ensures, c.node_note-note.ensures, c.last_raw-given.ensures, c.home_row-home.ensures, c.plan_node.ensures, c.in_err-more.was, c.from_residual.ensures.0, plans_over, refused_by)

pub overflow_add-first : goal.overflow_add-first
overflow_add-first c = search (c.requires.0, c.loop-node.invariant, c.loop-node-test.true, c.token_count_at-count.ensures, first_fits, rules)

pub loop-node-preserved : goal.loop-node-preserved
loop-node-preserved c = search (c.requires.0, c.loop-node.invariant, c.loop-node-test.true, c.token_count_at-count.ensures, c.node_note-note.ensures, c.last_raw-given.ensures, c.home_row-home.ensures, c.plan_node.ensures, c.in_ok-more.was, plans_more)

pub returns : goal.returns
returns c = search passing
