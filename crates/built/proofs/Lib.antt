pub mod Assigned
pub mod Built
pub mod Part
