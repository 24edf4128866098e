pub mod Under
pub mod Deeper
pub mod Board
pub mod Handed
pub mod History
pub mod Fresh
pub mod Demand3
