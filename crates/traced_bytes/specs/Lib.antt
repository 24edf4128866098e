pub mod Bytes
pub mod Queries
