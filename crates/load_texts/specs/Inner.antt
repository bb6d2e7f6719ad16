-- Words of inner contracts: no rule cites them.
pub mod Texts
pub mod Places
