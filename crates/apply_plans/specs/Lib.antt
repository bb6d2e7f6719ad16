-- No rule stands here: what becomes of each token is a rule of applying.
pub mod Inner
