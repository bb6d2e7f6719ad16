-- Words of inner contracts: no rule cites them.
pub mod Bounds
pub mod Steps
pub mod Turns
