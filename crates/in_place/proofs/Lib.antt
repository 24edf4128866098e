pub mod AnyCall
pub mod Calls
pub mod Decided
pub mod Handed
pub mod Parent
