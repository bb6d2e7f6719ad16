-- Words of inner contracts: no rule cites them.
pub mod Parts
