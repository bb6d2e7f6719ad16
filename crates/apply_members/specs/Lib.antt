-- No rule stands here: what a node's signature says is a rule of applying.
pub mod Inner
