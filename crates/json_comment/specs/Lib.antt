-- The answer for a comment, and what it says in the words of the grammar.
pub mod Answer
pub mod Says
pub mod Examples
-- Words of inner contracts.
pub mod Inner
