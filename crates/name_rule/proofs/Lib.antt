-- Laws of mappings.
pub mod Loaded
pub mod Rows
