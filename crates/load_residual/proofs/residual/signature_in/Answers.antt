-- `load_residual::residual::signature_in` meets its contract, by the laws of Hashed.
use Rattle.load_residual.proofs.Hashed.{hashed}
use Rattle.load_residual.proofs.residual.signature_in.Goals as goal

pub overflow_add-stop : goal.overflow_add-stop
overflow_add-stop c = search hashed

pub slice_bounds-first_byte-end : goal.slice_bounds-first_byte-end
slice_bounds-first_byte-end c = search hashed

pub returns-in_default : goal.returns-in_default
returns-in_default c = search hashed

pub overflow_add-hash : goal.overflow_add-hash
overflow_add-hash c = search hashed

pub signature_between-requires : goal.signature_between-requires
signature_between-requires c = search hashed

pub returns : goal.returns
returns c = search hashed
