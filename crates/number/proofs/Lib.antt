-- Laws of the rules, one file a subject.
pub mod Reading
pub mod Ranging
