-- The words that every rule is written in.
pub mod Abnf
pub mod Ascii
pub mod Choice
pub mod Join
pub mod Look
pub mod Outcome
pub mod Put
pub mod Inner
