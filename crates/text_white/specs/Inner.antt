-- Words of inner contracts: no rule cites them.
pub mod Before
pub mod Inked
