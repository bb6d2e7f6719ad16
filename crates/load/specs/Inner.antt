-- Words of inner contracts: no rule cites them.
pub mod Into
pub mod Left
