-- Laws of the index, one file a subject.
pub mod Comparing
pub mod Skipping
pub mod Spelling
pub mod Marking
pub mod Keys
pub mod Heads
pub mod Grouping
pub mod Shifting
pub mod Halving
pub mod Shelving
pub mod Laying
pub mod Filing
pub mod Searching
