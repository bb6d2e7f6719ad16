pub mod TokenLaws
pub mod Walks
pub mod Signing
