-- Laws of the parts of a line, one file a subject.
pub mod Splits
pub mod Members
pub mod Lying
pub mod Methods
pub mod Listed
