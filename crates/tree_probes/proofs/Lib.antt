-- Answers as numbers, in the terms of the code.
pub mod Saying
