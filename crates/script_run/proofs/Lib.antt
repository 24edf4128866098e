pub mod Carried
pub mod Taken
pub mod Read
