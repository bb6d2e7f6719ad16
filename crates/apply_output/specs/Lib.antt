-- No rule stands here: what is written is a rule of applying.
pub mod Inner
