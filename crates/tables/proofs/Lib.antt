-- Laws of rows.
pub mod TextLaws
pub mod Searching
pub mod Checking
pub mod Tested
pub mod Holding
