-- Laws, one file a subject.
pub mod Quick
pub mod Naming
pub mod Entering
pub mod Writing
