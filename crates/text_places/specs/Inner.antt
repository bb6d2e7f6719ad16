-- Words of inner contracts: no rule cites them.
pub mod Blocks
pub mod Differing
pub mod NextLine
