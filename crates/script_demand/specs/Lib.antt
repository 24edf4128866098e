pub mod Board
pub mod Shown
pub mod Taken
