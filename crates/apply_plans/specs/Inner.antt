-- Words of inner contracts: no rule cites them.
pub mod Entries
pub mod Noted
pub mod Passed
pub mod Plan
pub mod Put
pub mod Tokens
