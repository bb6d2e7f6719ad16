-- Laws of the answers.
pub mod Said
