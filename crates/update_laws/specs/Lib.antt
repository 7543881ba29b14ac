pub mod Turns
pub mod Good
pub mod AfterRound
pub mod Runs
pub mod FitsGood
pub mod Bounds
pub mod Asserts
pub mod Tops
