-- Lines of a method: the written rules, from document 01 "Rows and names".
pub mod LineNames
pub mod Examples
