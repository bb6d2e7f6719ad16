use Rattle.tree_checks.proofs.Checked.{asking}
use Rattle.tree_checks.proofs.names.faulty_among.Goals as goal

pub names_start-start-requires : goal.names_start-start-requires
names_start-start-requires c = search asking

pub loop-row-init : goal.loop-row-init
loop-row-init c = search asking

pub overflow_mul-row : goal.overflow_mul-row
overflow_mul-row c = search asking

pub overflow_add-start : goal.overflow_add-start
overflow_add-start c = search asking

pub name_row-requires : goal.name_row-requires
name_row-requires c = search asking

pub name_utf8-requires : goal.name_utf8-requires
name_utf8-requires c = search asking

pub returns-then-not-name_utf8 : goal.returns-then-not-name_utf8
returns-then-not-name_utf8 c = search asking

pub loop-row-preserved : goal.loop-row-preserved
loop-row-preserved c = search asking

pub returns : goal.returns
returns c = search asking
