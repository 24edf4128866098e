pub mod Cut
pub mod Deeper
pub mod Lesser
pub mod Minimum
pub mod Span
pub mod Store
