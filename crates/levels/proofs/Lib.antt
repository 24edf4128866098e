pub mod Filled
pub mod Part
