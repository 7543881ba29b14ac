pub mod Yard
pub mod Bytes
pub mod Check
pub mod Checks
pub mod Pair
pub mod YardMatch
pub mod Calls
pub mod DemandThree
