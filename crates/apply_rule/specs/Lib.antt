-- Applying: the written rules, from document 01 "Tree file (added)", second half.
pub mod Changes
pub mod Applying
pub mod Inner
pub mod Theorems
pub mod Examples
