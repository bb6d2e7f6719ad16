-- Laws, one file a subject.
pub mod Cases
pub mod Digits
