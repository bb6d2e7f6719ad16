-- Words of inner contracts: no rule cites them.
pub mod Names
pub mod Entries
pub mod Written
