-- Nothing here has to be believed: the rule is json_grammar's. Only words of inner contracts.
pub mod Inner
