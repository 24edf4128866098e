pub mod Bare
pub mod Call
pub mod Calls
pub mod Keeps
pub mod Promises
pub mod Start
