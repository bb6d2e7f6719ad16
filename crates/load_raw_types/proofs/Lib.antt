-- Laws of raw descriptors, one file a subject.
pub mod Pieces
pub mod Indexing
pub mod Turned
pub mod Going
pub mod Typed
