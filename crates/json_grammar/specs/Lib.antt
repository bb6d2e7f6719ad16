-- RFC 8259 with document 01's choices ("Comments"). To be believed: the grammar, the octets that it speaks of, and which member
-- counts.
pub mod Encode
pub mod Grammar
pub mod Members
-- Proved to be what these say: a reader on lists, in whose terms the code's contracts are.
pub mod Reader
-- Where a value stands in a text: words of theorems about the reader.
pub mod Onward
