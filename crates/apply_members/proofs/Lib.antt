-- Laws of what is noted of members and nodes.
pub mod Noting
pub mod Lining
pub mod TokenNames
pub mod Naming
pub mod Signing
