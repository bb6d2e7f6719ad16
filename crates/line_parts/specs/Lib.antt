-- The parts of a line: the written rules, from document 01 "Text and lines".
pub mod Arrows
pub mod Fields
pub mod Signatures
pub mod Methods
pub mod Arguments
pub mod Inner
