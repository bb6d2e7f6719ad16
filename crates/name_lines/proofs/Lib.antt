-- Laws of lines.
pub mod Translating
