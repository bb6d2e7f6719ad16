use Rattle.load_classes.proofs.Writing.{writing}
use Rattle.load_classes.proofs.write.write_classes.Goals as goal

pub loop-at-init : goal.loop-at-init
loop-at-init c = search writing

pub loop-at-preserved-then-opens_no_class : goal.loop-at-preserved-then-opens_no_class
loop-at-preserved-then-opens_no_class c = search writing

pub slice_bounds-line-end : goal.slice_bounds-line-end
slice_bounds-line-end c = search writing

pub loop-at-preserved-in_default-class_line : goal.loop-at-preserved-in_default-class_line
loop-at-preserved-in_default-class_line c = search writing

pub returns-then-classes-count : goal.returns-then-classes-count
returns-then-classes-count c = search writing

pub returns-in_default-enter_class : goal.returns-in_default-enter_class
returns-in_default-enter_class c = search writing

pub loop-at-preserved : goal.loop-at-preserved
loop-at-preserved c = search writing

pub returns : goal.returns
returns c = search writing
