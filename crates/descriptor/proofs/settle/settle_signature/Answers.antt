-- `descriptor::settle::settle_signature` meets its contract, by the laws of Settling.
use Rattle.descriptor.proofs.Settling.{settling}
use Rattle.descriptor.proofs.settle.settle_signature.Goals as goal

pub returns-in_default : goal.returns-in_default
returns-in_default c = search settling

pub overflow_add-at : goal.overflow_add-at
overflow_add-at c = search settling

pub overflow_add-at-then-method : goal.overflow_add-at-then-method
overflow_add-at-then-method c = search settling

pub settle_type-requires : goal.settle_type-requires
settle_type-requires c = search settling

pub returns-then-method : goal.returns-then-method
returns-then-method c = search settling
