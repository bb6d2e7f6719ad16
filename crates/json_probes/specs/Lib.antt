-- The answers of the C functions, as numbers.
pub mod Answers
