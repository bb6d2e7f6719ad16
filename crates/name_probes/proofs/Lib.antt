-- Laws of the probes.
pub mod Probing
