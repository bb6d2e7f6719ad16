-- How an answer by places speaks of the reader on lists.
pub mod Runs
pub mod Members
