pub mod Taken
pub mod Records
pub mod First
pub mod Board
pub mod Shown
pub mod Demand
