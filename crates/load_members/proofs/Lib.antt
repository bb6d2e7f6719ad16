-- Laws, one file a subject.
pub mod Rowed
pub mod Entering
pub mod Slots
pub mod Filling
pub mod Adding
pub mod Behind
