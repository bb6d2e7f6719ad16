-- `descriptor::settle::settle_type` meets its contract, by the laws of Settling.
use Rattle.descriptor.proofs.Settling.{settling}
use Rattle.descriptor.proofs.settle.settle_type.Goals as goal

pub returns-then-is_descriptor : goal.returns-then-is_descriptor
returns-then-is_descriptor c = search settling
