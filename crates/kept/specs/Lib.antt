pub mod Keeps
pub mod Left
pub mod Lengths
