-- Laws of the answers about lines.
pub mod Braces
pub mod LineSaid
