-- Looking up members: the written rules, from document 01 "Rows and names".
pub mod MemberAnswers
pub mod Examples
pub mod Inner
