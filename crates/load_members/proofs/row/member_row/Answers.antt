-- `load_members::row::member_row` meets its contract, by the laws of Rowed.
use Rattle.load_members.proofs.Rowed.{member_rows}
use Rattle.load_members.proofs.row.member_row.Goals as goal

pub text_between-raw_name-requires : goal.text_between-raw_name-requires
text_between-raw_name-requires c = search member_rows

pub text_between-descriptor-requires : goal.text_between-descriptor-requires
text_between-descriptor-requires c = search member_rows

pub text_between-name-requires : goal.text_between-name-requires
text_between-name-requires c = search member_rows

pub enum_told-1 : goal.enum_told-1
enum_told-1 c = search member_rows

pub pack_member-requires : goal.pack_member-requires
pack_member-requires c = search member_rows

pub enum_known-body : goal.enum_known-body
enum_known-body c = search member_rows

pub text_between-requires : goal.text_between-requires
text_between-requires c = search member_rows

pub ranges-requires : goal.ranges-requires
ranges-requires c = search member_rows

pub pack_member-requires-in-Method : goal.pack_member-requires-in-Method
pack_member-requires-in-Method c = search member_rows

pub returns-in-Field : goal.returns-in-Field
returns-in-Field c = search member_rows

pub returns-in-Method : goal.returns-in-Method
returns-in-Method c = search member_rows
