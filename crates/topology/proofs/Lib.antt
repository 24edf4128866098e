pub mod Acceptance
pub mod Build
pub mod Rows
pub mod Walks
