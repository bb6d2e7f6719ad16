-- Looking up: the written rules, from document 01 "Rows and names".
pub mod Mappings
pub mod MemberNames
pub mod MemberRows
pub mod Examples
