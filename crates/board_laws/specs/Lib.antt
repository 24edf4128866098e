pub mod Lies
pub mod Made
