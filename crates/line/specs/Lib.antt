-- One line of a mapping file: the written rules, from document 01 "Text and lines".
pub mod Kinds
pub mod Examples
