-- Laws of descriptors, one file a subject.
pub mod Typing
pub mod Settling
pub mod Octets
pub mod Turning
