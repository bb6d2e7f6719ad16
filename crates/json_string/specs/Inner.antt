-- How an answer by places speaks of the reader on lists.
pub mod Means
pub mod Plain
pub mod Pieces
