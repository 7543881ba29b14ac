pub mod Counts
pub mod Cycles
pub mod Walks
