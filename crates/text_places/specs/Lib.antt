-- Places and lines: the written rules, from document 01 "Text and lines".
pub mod Places
pub mod Lines
pub mod Spans
pub mod Examples
pub mod Inner
