-- Words of inner contracts: no rule cites them.
pub mod Bound
pub mod Lie
