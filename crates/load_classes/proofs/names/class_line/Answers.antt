-- `load_classes::names::class_line` meets its contract, by the laws of Naming.
use Rattle.load_classes.proofs.Naming.{naming}
use Rattle.load_classes.proofs.names.class_line.Goals as goal

pub white_at-requires : goal.white_at-requires
white_at-requires c = search naming

pub returns-then-white_at : goal.returns-then-white_at
returns-then-white_at c = search naming

pub read_line-requires : goal.read_line-requires
read_line-requires c = search naming

pub enum_told-1 : goal.enum_told-1
enum_told-1 c = search naming

pub enum_told-in-Comment : goal.enum_told-in-Comment
enum_told-in-Comment c = search naming

pub enum_known-display : goal.enum_known-display
enum_known-display c = search naming

pub enum_told-in-Field : goal.enum_told-in-Field
enum_told-in-Field c = search naming

pub enum_told-in-Method : goal.enum_told-in-Method
enum_told-in-Method c = search naming

pub enum_told-in-Refused : goal.enum_told-in-Refused
enum_told-in-Refused c = search naming

pub returns-in-Blank : goal.returns-in-Blank
returns-in-Blank c = search naming

pub returns-in-Comment : goal.returns-in-Comment
returns-in-Comment c = search naming

pub returns-in-Class : goal.returns-in-Class
returns-in-Class c = search naming

pub returns-in-Field : goal.returns-in-Field
returns-in-Field c = search naming

pub returns-in-Method : goal.returns-in-Method
returns-in-Method c = search naming

pub returns-in-Refused : goal.returns-in-Refused
returns-in-Refused c = search naming
