-- `capi::names::clumarief_raw_class_name` meets its contract, by the laws of Naming.
use Rattle.capi.proofs.Naming.{writing}
use Rattle.capi.proofs.names.clumarief_raw_class_name.Goals as goal

pub used_of-requires : goal.used_of-requires
used_of-requires c = search writing

pub raw_class_name-turned-requires : goal.raw_class_name-turned-requires
raw_class_name-turned-requires c = search writing

pub class_numbers-requires : goal.class_numbers-requires
class_numbers-requires c = search writing

pub returns : goal.returns
returns c = search writing
