use Rattle.load_residual.proofs.Following.{following}
use Rattle.load_residual.proofs.residual.residual_after.Goals as goal

pub loop-passed-init : goal.loop-passed-init
loop-passed-init c = search following

pub overflow_add-passed : goal.overflow_add-passed
overflow_add-passed c = search following

pub loop-passed-preserved-in-Blank : goal.loop-passed-preserved-in-Blank
loop-passed-preserved-in-Blank c = search following

pub signature_in-own-requires : goal.signature_in-own-requires
signature_in-own-requires c = search following

pub overflow_add-passed-then-is_given : goal.overflow_add-passed-then-is_given
overflow_add-passed-then-is_given c = search following

pub loop-passed-preserved-then-is_given : goal.loop-passed-preserved-then-is_given
loop-passed-preserved-then-is_given c = search following

pub overflow_add-passed-in-Comment : goal.overflow_add-passed-in-Comment
overflow_add-passed-in-Comment c = search following

pub loop-passed-preserved : goal.loop-passed-preserved
loop-passed-preserved c = search following

pub returns : goal.returns
returns c = search following
