-- No rule stands here: which member row answers is a rule of looking up.
pub mod Inner
