-- Document 01 "Fates of lines": what the loading program prints.
pub mod Digits
pub mod Report
pub mod Examples
pub mod Inner
