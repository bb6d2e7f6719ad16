-- Words of inner contracts: no rule cites them.
pub mod Known
pub mod Notes
pub mod Within
pub mod Sought
pub mod Ahead
pub mod Groups
