pub mod Checked
pub mod Passed
