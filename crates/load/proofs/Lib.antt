-- Laws, one file a subject.
pub mod Deciding
pub mod Writing
pub mod Leaving
pub mod Answering
pub mod Once
