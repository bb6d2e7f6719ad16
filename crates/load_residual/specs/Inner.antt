-- Words of inner contracts: no rule cites them.
pub mod Residuals
pub mod Passes
pub mod Openings
