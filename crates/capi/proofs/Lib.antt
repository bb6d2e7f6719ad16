-- Laws.
pub mod Numbering
pub mod Naming
pub mod Membering
pub mod Outputs
pub mod Once
