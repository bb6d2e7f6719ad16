-- Tree files: the written rules, from document 01 "Tree file (added)".
pub mod Words
pub mod Trees
pub mod Files
pub mod Checks
pub mod Signatures
pub mod Theorems
pub mod Examples
