-- Looking up classes: the written rules, from document 01 "Numbers a caller can get back" and "Rows and names".
pub mod ClassNames
pub mod Examples
