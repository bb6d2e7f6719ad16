-- White space: the written rules, from Unicode's White_Space and document 01 "Text and lines".
pub mod White
pub mod Trim
pub mod Examples
pub mod Inner
