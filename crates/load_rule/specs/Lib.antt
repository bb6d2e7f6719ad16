-- The mapping that a text stands for: the written rules of loading, from document 01, over the list of its lines.
pub mod Comments
pub mod Fates
pub mod Laid
pub mod Classes
pub mod Members
pub mod Loading
pub mod Theorems
pub mod Examples
pub mod Commented
