-- No rule stands here: what is said of the lines is the rule of loading.
pub mod Inner
