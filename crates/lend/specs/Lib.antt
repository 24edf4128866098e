pub mod Callee
pub mod Walk
