-- Laws of the rules, one file a subject.
pub mod Ranges
pub mod TrimLaws
pub mod Ink
pub mod InkBlocks
pub mod Sync
pub mod Starting
pub mod Cuts
