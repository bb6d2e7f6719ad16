-- Rows: the written rules, from document 01 "Rows and names".
pub mod Rows
pub mod Classes
pub mod Tables
pub mod Inner
