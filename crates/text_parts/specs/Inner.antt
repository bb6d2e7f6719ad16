-- Words of inner contracts: no rule cites them.
pub mod Reach
pub mod Examples
