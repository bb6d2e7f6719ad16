-- `load_members::role::role_of` meets its contract, by the laws of Rowed.
use Rattle.load_members.proofs.Rowed.{roles}
use Rattle.load_members.proofs.role.role_of.Goals as goal

pub enum_told-1 : goal.enum_told-1
enum_told-1 c = search roles

pub enum_told-in-Comment : goal.enum_told-in-Comment
enum_told-in-Comment c = search roles

pub enum_known-kind : goal.enum_known-kind
enum_known-kind c = search roles

pub enum_known-kind-in-Field-1 : goal.enum_known-kind-in-Field-1
enum_known-kind-in-Field-1 c = search roles

pub enum_known-kind-in-Method-1 : goal.enum_known-kind-in-Method-1
enum_known-kind-in-Method-1 c = search roles

pub name_span-requires : goal.name_span-requires
name_span-requires c = search roles

pub enum_told-in-Refused : goal.enum_told-in-Refused
enum_told-in-Refused c = search roles

pub returns-in-Blank : goal.returns-in-Blank
returns-in-Blank c = search roles

pub returns-in-Comment : goal.returns-in-Comment
returns-in-Comment c = search roles

pub returns-in-Class : goal.returns-in-Class
returns-in-Class c = search roles

pub returns-in-Field : goal.returns-in-Field
returns-in-Field c = search roles

pub returns-in-Method : goal.returns-in-Method
returns-in-Method c = search roles

pub returns-in-Refused : goal.returns-in-Refused
returns-in-Refused c = search roles
