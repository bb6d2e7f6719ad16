use Rattle.load_residual.proofs.Leading.{leading}
use Rattle.load_residual.proofs.residual.opening_at.Goals as goal

pub loop-i-preserved-then-b-eq-SPACE : goal.loop-i-preserved-then-b-eq-SPACE
loop-i-preserved-then-b-eq-SPACE c = search leading

pub returns-then-b-eq10 : goal.returns-then-b-eq10
returns-then-b-eq10 c = search leading

pub returns-then-b-eq35 : goal.returns-then-b-eq35
returns-then-b-eq35 c = search leading

pub returns-then-b-lt128 : goal.returns-then-b-lt128
returns-then-b-lt128 c = search leading

pub loop-i-preserved-then-b-eq13 : goal.loop-i-preserved-then-b-eq13
loop-i-preserved-then-b-eq13 c = search leading

pub loop-i-preserved-then-is_wide : goal.loop-i-preserved-then-is_wide
loop-i-preserved-then-is_wide c = search leading

pub returns-then-length-eq0 : goal.returns-then-length-eq0
returns-then-length-eq0 c = search leading

pub overflow_add-i-in-loop-i : goal.overflow_add-i-in-loop-i
overflow_add-i-in-loop-i c = search leading

pub loop-i-preserved : goal.loop-i-preserved
loop-i-preserved c = search leading

pub returns : goal.returns
returns c = search leading
