-- No rule stands here: raw descriptors of display types are a rule of descriptors.
pub mod Inner
