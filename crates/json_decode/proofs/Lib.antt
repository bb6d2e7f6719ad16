-- Laws of what a string stands for, one file a subject.
pub mod Lengths
pub mod OctetLaws
pub mod Comparing
pub mod Writing
pub mod OwnLaws
