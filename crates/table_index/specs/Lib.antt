-- No rule stands here: the last row with a descriptor is a rule of tables.
pub mod Inner
