-- Laws of reading by places, one file a subject.
pub mod Spaces
pub mod Numbers
pub mod Flats
pub mod Once
pub mod Listing
pub mod Values
