pub mod Board
pub mod Start
