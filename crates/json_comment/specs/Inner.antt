-- Words of inner contracts.
pub mod Steps
