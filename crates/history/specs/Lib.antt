pub mod History
pub mod Standing
pub mod Under
