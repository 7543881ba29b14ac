pub mod Read
pub mod Parts
pub mod Flags
pub mod Answers
