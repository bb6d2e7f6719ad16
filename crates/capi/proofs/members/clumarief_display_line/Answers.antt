-- `capi::members::clumarief_display_line` meets its contract, by the laws of Membering.
use Rattle.capi.proofs.Membering.{members_written}
use Rattle.capi.proofs.members.clumarief_display_line.Goals as goal

pub used_of-requires : goal.used_of-requires
used_of-requires c = search members_written

pub display_line-shown-requires : goal.display_line-shown-requires
display_line-shown-requires c = search members_written

pub line_numbers-requires : goal.line_numbers-requires
line_numbers-requires c = search members_written

pub returns : goal.returns
returns c = search members_written
