-- `apply::entry::apply_to_smali` meets its contract, by the laws of Answering.
use Rattle.ground.proofs.Outcomes.{with_output}
use Rattle.apply_rule.specs.Applying.{applied_numbers}
use Rattle.apply.proofs.Answering.{accept_ready, applying}
use Rattle.apply.proofs.entry.apply_to_smali.Goals as goal

pub apply_accepted-requires : goal.apply_accepted-requires
apply_accepted-requires c = search (c.well_formed-2.ensures, c.if-not-well_formed.false, c.if-tree-gt-MOST_TREE.false, c.well_formed_tree.ensures, c.if-not-well_formed_tree.false, c.zero_bytes.ensures, accept_ready)
