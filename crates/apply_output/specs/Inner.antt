-- Words of inner contracts: no rule cites them.
pub mod Plan
pub mod NewName
pub mod Output
