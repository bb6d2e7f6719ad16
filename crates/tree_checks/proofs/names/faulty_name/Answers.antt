use Rattle.tree_checks.proofs.Checked.{asking}
use Rattle.tree_checks.proofs.names.faulty_name.Goals as goal

pub names_start-start-requires : goal.names_start-start-requires
names_start-start-requires c = search asking

pub overflow_cast-names : goal.overflow_cast-names
overflow_cast-names c = search asking

pub loop-row-init : goal.loop-row-init
loop-row-init c = search asking

pub overflow_mul-row : goal.overflow_mul-row
overflow_mul-row c = search asking

pub overflow_add-start : goal.overflow_add-start
overflow_add-start c = search asking

pub name_row-requires : goal.name_row-requires
name_row-requires c = search asking

pub ends_inside-requires : goal.ends_inside-requires
ends_inside-requires c = search asking

pub returns-then-not-ends_inside : goal.returns-then-not-ends_inside
returns-then-not-ends_inside c = search asking

pub loop-row-preserved : goal.loop-row-preserved
loop-row-preserved c = search asking

pub returns : goal.returns
returns c = search asking
