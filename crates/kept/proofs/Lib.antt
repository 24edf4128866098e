pub mod Down
pub mod Fresh
pub mod Handed
pub mod Keeps
pub mod Kept
pub mod Lengths
pub mod Short
pub mod Steps
