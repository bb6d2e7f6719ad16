pub mod Planning
pub mod Rowing
pub mod Listing
pub mod Placing
pub mod Below
pub mod Naming
pub mod Finishing
pub mod Outputting
