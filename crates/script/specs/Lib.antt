pub mod Bytes
pub mod Record
pub mod AnswerRecord
pub mod Run
pub mod Printed
