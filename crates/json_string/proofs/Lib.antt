-- Laws of reading by places, one file a subject.
pub mod Hex
pub mod PieceLaws
pub mod PlainLaws
pub mod Strings
pub mod Once
