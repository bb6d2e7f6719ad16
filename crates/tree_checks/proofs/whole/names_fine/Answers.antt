-- `tree_checks::whole::names_fine` meets its contract, by the laws of Passed.
use Rattle.tree_checks.proofs.Passed.{naming}
use Rattle.tree_checks.proofs.whole.names_fine.Goals as goal

pub faulty_name-requires : goal.faulty_name-requires
faulty_name-requires c = search naming

pub all_fine-requires : goal.all_fine-requires
all_fine-requires c = search naming

pub returns-then-not-all_fine : goal.returns-then-not-all_fine
returns-then-not-all_fine c = search naming

pub faulty_text-requires : goal.faulty_text-requires
faulty_text-requires c = search naming

pub all_fine-requires-2 : goal.all_fine-requires-2
all_fine-requires-2 c = search naming

pub returns : goal.returns
returns c = search naming
