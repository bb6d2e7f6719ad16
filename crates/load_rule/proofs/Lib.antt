-- Laws of the rules, one file a subject.
pub mod Tally
pub mod Appended
pub mod Numbers
pub mod Sums
pub mod Exactly
pub mod First
pub mod Octets
pub mod Formed
pub mod Back
