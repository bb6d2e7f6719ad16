-- Laws, one file a subject.
pub mod Giving
pub mod Local
pub mod Opened
pub mod Leading
pub mod Hashed
pub mod Passing
pub mod Following
