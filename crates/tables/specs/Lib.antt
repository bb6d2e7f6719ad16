-- Rows and names: the written rules, from document 01 "Rows and names".
pub mod Back
pub mod Search
pub mod Check
pub mod Examples
