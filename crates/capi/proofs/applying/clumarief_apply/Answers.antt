-- `capi::applying::clumarief_apply` meets its contract, by the laws of Outputs.
use Rattle.capi.proofs.Outputs.{apply_written_out}
use Rattle.capi.proofs.applying.clumarief_apply.Goals as goal

pub used_of-requires : goal.used_of-requires
used_of-requires c = search apply_written_out

pub apply_to_smali-applied-requires : goal.apply_to_smali-applied-requires
apply_to_smali-applied-requires c = search apply_written_out

pub applied_numbers-requires : goal.applied_numbers-requires
applied_numbers-requires c = search apply_written_out

pub shape_of-out : goal.shape_of-out
shape_of-out c = search apply_written_out

pub returns : goal.returns
returns c = (search apply_written_out, search apply_written_out)
