-- Words of inner contracts: no rule cites them.
pub mod Order
pub mod Forms
pub mod Marks
pub mod Keys
pub mod Heads
pub mod Shelves
pub mod Index
pub mod Examples
