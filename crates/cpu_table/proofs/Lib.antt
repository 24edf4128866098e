pub mod Records
pub mod Rows
pub mod Walks
