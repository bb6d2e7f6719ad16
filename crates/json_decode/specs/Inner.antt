-- Words of inner contracts.
pub mod Octets
pub mod Plain
