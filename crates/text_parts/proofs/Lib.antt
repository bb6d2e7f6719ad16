-- Laws of many parts of one text.
pub mod Tails
pub mod Reaching
pub mod Marking
pub mod Parting
