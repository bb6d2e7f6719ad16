use Rattle.load_texts.proofs.Typing.{arguing}
use Rattle.load_texts.proofs.descriptors.put_arguments.Goals as goal

pub loop-from-init : goal.loop-from-init
loop-from-init c = search arguing

pub returns-in_default : goal.returns-in_default
returns-in_default c = search arguing

pub slice_bounds-put_raw_type-count : goal.slice_bounds-put_raw_type-count
slice_bounds-put_raw_type-count c = search arguing

pub slice_bounds-put_raw_type-start : goal.slice_bounds-put_raw_type-start
slice_bounds-put_raw_type-start c = search arguing

pub slice_bounds-put_raw_type-end : goal.slice_bounds-put_raw_type-end
slice_bounds-put_raw_type-end c = search arguing

pub returns-in_err-after : goal.returns-in_err-after
returns-in_err-after c = search (arguing, c.in_err-after.was)

pub loop-from-smaller : goal.loop-from-smaller
loop-from-smaller c = search arguing

pub loop-from-preserved : goal.loop-from-preserved
loop-from-preserved c = search arguing

pub returns : goal.returns
returns c = search arguing
