-- Writing into a pool: what is written, and the written rule of class names, from document 01 "Descriptors".
pub mod Names
pub mod Inner
