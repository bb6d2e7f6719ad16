-- `tree_checks::names::name_utf8` meets its contract, by the laws of Checked.
use Rattle.tree_checks.proofs.Checked.{name_tests}
use Rattle.tree_checks.proofs.names.name_utf8.Goals as goal

pub overflow_cast-start : goal.overflow_cast-start
overflow_cast-start c = search name_tests

pub overflow_cast-end : goal.overflow_cast-end
overflow_cast-end c = search name_tests

pub overflow_add-end : goal.overflow_add-end
overflow_add-end c = search name_tests

pub part_is_utf8-requires : goal.part_is_utf8-requires
part_is_utf8-requires c = search name_tests

pub returns : goal.returns
returns c = search name_tests
