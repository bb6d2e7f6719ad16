-- The answers of the C functions about lines, as numbers.
pub mod LineAnswers
