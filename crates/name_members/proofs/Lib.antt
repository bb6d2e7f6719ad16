-- Laws of looking up members.
pub mod Matching
pub mod Asking
pub mod Answers
pub mod Told
