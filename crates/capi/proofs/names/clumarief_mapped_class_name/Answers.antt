-- `capi::names::clumarief_mapped_class_name` meets its contract, by the laws of Naming.
use Rattle.capi.proofs.Naming.{writing}
use Rattle.capi.proofs.names.clumarief_mapped_class_name.Goals as goal

pub used_of-requires : goal.used_of-requires
used_of-requires c = search writing

pub display_class_name-shown-requires : goal.display_class_name-shown-requires
display_class_name-shown-requires c = search writing

pub mapped_numbers-requires : goal.mapped_numbers-requires
mapped_numbers-requires c = search writing

pub returns : goal.returns
returns c = search writing
