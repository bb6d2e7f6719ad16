-- The signature of a node: contracts cite the rules of tree_rule.
pub mod Inner
