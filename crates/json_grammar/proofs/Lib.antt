-- The reader reads exactly what the grammar has, and what strings of well-formed text stand for is well formed.
pub mod Took
pub mod StringsTook
pub mod ValuesTook
pub mod All
pub mod StringsAll
pub mod ValuesAll
pub mod Readable
pub mod Items
pub mod Onward
pub mod EncodeLaws
pub mod WellFormed
