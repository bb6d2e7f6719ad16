-- What a string stands for.
pub mod Decoded
-- Words of inner contracts.
pub mod Inner
