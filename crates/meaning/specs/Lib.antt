-- Theorems about the rules, for readers.
pub mod Marked
pub mod TurnedBack
pub mod BackExamples
pub mod AcceptedExample
pub mod Outcomes
pub mod Success
pub mod RfcWords
