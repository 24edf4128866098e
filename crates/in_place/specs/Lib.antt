pub mod Any
pub mod Stepped
