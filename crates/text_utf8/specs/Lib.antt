-- UTF-8: the written rule, from RFC 3629.
pub mod Grammar
pub mod Utf8
pub mod Examples
pub mod Inner
