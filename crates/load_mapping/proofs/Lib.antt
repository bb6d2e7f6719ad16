-- Laws.
pub mod Programming
pub mod Once
