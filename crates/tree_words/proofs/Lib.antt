pub mod Wording
pub mod PutWording
