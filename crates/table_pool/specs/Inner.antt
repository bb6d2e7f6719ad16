-- Words of inner contracts: no rule cites them.
pub mod Named
pub mod Wrote
