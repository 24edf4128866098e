pub mod Digits
pub mod Lengths
pub mod Puts
pub mod Records
