-- Descriptors: the written rules, from document 01 "Descriptors".
pub mod Types
pub mod Signatures
pub mod Pieces
pub mod Raw
pub mod Examples
pub mod RawExamples
