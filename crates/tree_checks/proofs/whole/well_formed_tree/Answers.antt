-- `tree_checks::whole::well_formed_tree` meets its contract, by the laws of Passed.
use Rattle.tree_checks.proofs.Passed.{passing}
use Rattle.tree_checks.proofs.whole.well_formed_tree.Goals as goal

pub returns-then-tree-lt16 : goal.returns-then-tree-lt16
returns-then-tree-lt16 c = search passing

pub counts_in-counts-requires : goal.counts_in-counts-requires
counts_in-counts-requires c = search passing

pub length_agrees-requires : goal.length_agrees-requires
length_agrees-requires c = search passing

pub returns-then-not-length_agrees : goal.returns-then-not-length_agrees
returns-then-not-length_agrees c = search passing

pub root_fine-requires : goal.root_fine-requires
root_fine-requires c = search passing

pub returns-then-not-root_fine : goal.returns-then-not-root_fine
returns-then-not-root_fine c = search passing

pub faulty_parent-requires : goal.faulty_parent-requires
faulty_parent-requires c = search passing

pub all_fine-requires : goal.all_fine-requires
all_fine-requires c = search passing

pub returns-then-not-all_fine : goal.returns-then-not-all_fine
returns-then-not-all_fine c = search passing

pub counts_sum-requires : goal.counts_sum-requires
counts_sum-requires c = search passing

pub returns-then-not-counts_sum : goal.returns-then-not-counts_sum
returns-then-not-counts_sum c = search passing

pub faulty_token-requires : goal.faulty_token-requires
faulty_token-requires c = search passing

pub all_fine-requires-2 : goal.all_fine-requires-2
all_fine-requires-2 c = search passing

pub returns-then-not-all_fine-2 : goal.returns-then-not-all_fine-2
returns-then-not-all_fine-2 c = search passing

pub names_fine-requires : goal.names_fine-requires
names_fine-requires c = search passing

pub returns : goal.returns
returns c = search passing
