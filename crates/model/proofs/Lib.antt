pub mod Apart
pub mod Below
pub mod Numbers
pub mod Spans
pub mod Tables
