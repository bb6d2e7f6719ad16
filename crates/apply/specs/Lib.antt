-- No rule stands here: applying is a rule of its own.
pub mod Inner
