-- Laws of going over lines.
pub mod Counting
pub mod Fated
pub mod Faults
pub mod Stepping
pub mod Scanning
pub mod Turning
