-- What loading promises, in terms of the rule of loading.
pub mod Loads
pub mod Inner
