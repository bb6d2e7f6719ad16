-- No rule stands here: what UTF-8 is, is a rule of characters.
pub mod Inner
