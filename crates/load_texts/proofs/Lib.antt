-- Laws, one file a subject.
pub mod Signing
pub mod Typing
pub mod Texting
