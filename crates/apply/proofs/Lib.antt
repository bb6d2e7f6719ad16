-- Laws of applying.
pub mod Filling
pub mod Accepting
pub mod Answering
