-- Laws of looking up classes.
pub mod Looking
pub mod Told
