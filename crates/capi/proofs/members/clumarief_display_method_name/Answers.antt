-- `capi::members::clumarief_display_method_name` meets its contract, by the laws of Membering.
use Rattle.capi.proofs.Membering.{members_written}
use Rattle.capi.proofs.members.clumarief_display_method_name.Goals as goal

pub used_of-requires : goal.used_of-requires
used_of-requires c = search members_written

pub display_method_name-called-requires : goal.display_method_name-called-requires
display_method_name-called-requires c = search members_written

pub name_numbers-requires : goal.name_numbers-requires
name_numbers-requires c = search members_written

pub returns : goal.returns
returns c = search members_written
