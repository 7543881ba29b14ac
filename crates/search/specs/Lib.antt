pub mod Read
pub mod Effects
pub mod Runs
