-- Laws of rows.
pub mod Packing
pub mod Zeroing
pub mod Last
