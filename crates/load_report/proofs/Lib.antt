-- Laws, one file a subject.
pub mod Spelling
pub mod Adding
pub mod Bounds
pub mod Reading
