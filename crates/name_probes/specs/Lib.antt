-- What the probes promise.
pub mod Answers
