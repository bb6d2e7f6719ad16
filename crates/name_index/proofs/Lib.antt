-- Laws of the index of members.
pub mod LastRows
pub mod Linking
pub mod Walking
pub mod Wanting
pub mod Lining
