-- `load_members::enter::enter_line` meets its contract, by the laws of Slots.
use Rattle.load_members.proofs.Slots.{line_slots}
use Rattle.load_members.proofs.enter.enter_line.Goals as goal

pub role_of-requires : goal.role_of-requires
role_of-requires c = search line_slots

pub enum_told-1 : goal.enum_told-1
enum_told-1 c = search line_slots

pub enum_known-display : goal.enum_known-display
enum_known-display c = search line_slots

pub overflow_add-named : goal.overflow_add-named
overflow_add-named c = search line_slots

pub overflow_add-named-in-Class : goal.overflow_add-named-in-Class
overflow_add-named-in-Class c = search line_slots

pub overflow_add-named-in-Class-2 : goal.overflow_add-named-in-Class-2
overflow_add-named-in-Class-2 c = search line_slots

pub enum_known-parts : goal.enum_known-parts
enum_known-parts c = search line_slots

pub enter_member-requires : goal.enter_member-requires
enter_member-requires c = search line_slots

pub returns-in-Neither : goal.returns-in-Neither
returns-in-Neither c = search line_slots

pub returns-in-Class : goal.returns-in-Class
returns-in-Class c = search line_slots

pub shape_of-members : goal.shape_of-members
shape_of-members c = search line_slots

pub shape_of-pool : goal.shape_of-pool
shape_of-pool c = search line_slots

pub returns-in-Member : goal.returns-in-Member
returns-in-Member c = search line_slots
