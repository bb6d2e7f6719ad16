-- Laws of reading a line, one file a subject.
pub mod Kinding
pub mod Whole
pub mod Octets
pub mod Telling
