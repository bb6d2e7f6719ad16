-- Laws of plans.
pub mod Contexting
pub mod Planning
pub mod Rowing
pub mod Changing
pub mod Stepping
pub mod Noding
pub mod ContextNumbers
pub mod TokenPlans
pub mod Passing
