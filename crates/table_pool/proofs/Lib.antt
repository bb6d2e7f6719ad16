-- Laws of writing into a pool.
pub mod Writes
pub mod Naming
pub mod Copying
pub mod Eights
