-- What the C functions promise.
pub mod Answers
