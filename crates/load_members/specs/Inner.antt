-- Words of inner contracts: no rule cites them.
pub mod Passed
pub mod Roles
pub mod Enters
pub mod Filled
