use Rattle.text_cases.proofs.Safe.{taking}
use Rattle.text_cases.proofs.sequences.each_sequence.Goals as goal

pub overflow_add-at : goal.overflow_add-at
overflow_add-at g c = search taking

pub loop-at-smaller-in-Good : goal.loop-at-smaller-in-Good
loop-at-smaller-in-Good g c = search taking

pub loop-at-preserved-in-Good : goal.loop-at-preserved-in-Good
loop-at-preserved-in-Good g c = search taking

pub overflow_add-at-in-Bad : goal.overflow_add-at-in-Bad
overflow_add-at-in-Bad g c = search taking

pub loop-at-preserved : goal.loop-at-preserved
loop-at-preserved g c = search taking
