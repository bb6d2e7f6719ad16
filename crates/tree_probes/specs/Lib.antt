-- Answers as numbers.
pub mod Answers
