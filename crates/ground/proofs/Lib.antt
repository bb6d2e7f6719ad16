-- The laws that every layer cites.
pub mod Cases
pub mod Table
pub mod Fill
pub mod PutLaws
pub mod Fours
pub mod Parts
pub mod Joins
pub mod Stretch
pub mod Outcomes
pub mod Answered
