-- Laws of the rule, one file a subject.
pub mod Leads
pub mod Sequences
pub mod Pieces
pub mod RunLaws
pub mod Checking
pub mod Grammatical
pub mod Starts
pub mod Threes
pub mod Boundaries
pub mod Lengths
