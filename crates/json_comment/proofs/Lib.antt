-- Laws of reading a comment by places, one file a subject.
pub mod Answers
pub mod Grammatical
pub mod Strings
