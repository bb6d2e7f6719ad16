-- The checks of tree files: contracts cite the rules of tree_rule.
pub mod Inner
