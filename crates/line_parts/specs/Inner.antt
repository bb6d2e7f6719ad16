-- Words of inner contracts: no rule cites them.
pub mod NextArgument
pub mod Opening
