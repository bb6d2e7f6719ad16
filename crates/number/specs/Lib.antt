-- Numbers and ranges: the written rules, from document 01 "Method".
pub mod Numbers
pub mod Ranges
pub mod Examples
