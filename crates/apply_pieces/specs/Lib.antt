-- No rule stands here: what a known piece becomes is a rule of applying.
pub mod Inner
