pub mod Requests
pub mod States
